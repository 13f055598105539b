-- What a caller asks of a run besides its numbers: how far it goes.
use Rattle.std.specs.Prelude.{Bool, true, false}
use Rattle.answers.specs.declared.Extent.{Extent}
use Rattle.answers.specs.declared.Extent.TheVariants.{Whole, Cut}

-- Document 01, "Elimination": "A run may be cut to its first s steps, without back substitution".
unfoldable pub is_whole : Extent → Bool
is_whole Whole = true
is_whole (Cut s) = false
