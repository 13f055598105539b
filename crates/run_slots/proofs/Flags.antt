-- Laws of a step's flag.
use mathlib.Core.Bool.{Bool, true, false, ◌&&◌}
use mathlib.Core.Path.{◌≡◌, refl, sym, ◌∙◌}
use Prim.Native.Nat.{ℕ}
use lib.Ieee.{Float, fin, binary64, sub, ne}
use lib.IntN.{pos}
use borrow.Author.Tests.{not-true, not-false}
use Rattle.foundation.specs.Numbers.{finite}
use Rattle.run_slots.specs.Flags.{flagged}
use Rattle.run_slots.proofs.Floats.{self_difference}

-- a flag once more
pub flagged_more : (flag : ℕ) (a b : Bool) → flagged (flagged flag a) b ≡ flagged flag (a && b)
unfolding flagged
flagged_more flag true b = refl
flagged_more flag false true = refl
flagged_more flag false false = refl

pub flag-set : (bad : ℕ) (x : Float) → ne (sub binary64 x x) (fin false 0 (pos 0)) ≡ true → 1 ≡ flagged bad (finite x)
unfolding ne flagged
flag-set bad x t = rw (sym (self_difference x) ∙ not-true _ t)

pub flag_left : (bad : ℕ) (x : Float) → ne (sub binary64 x x) (fin false 0 (pos 0)) ≡ false → bad ≡ flagged bad (finite x)
unfolding ne flagged
flag_left bad x t = rw (sym (self_difference x) ∙ not-false _ t)
