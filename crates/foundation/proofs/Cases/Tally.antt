-- The tally.
use mathlib.Core.Path.{refl}
use Rattle.foundation.specs.Table.{Holds}
use Rattle.foundation.specs.Cases.Tally.{tally_cases}
use Rattle.foundation.proofs.Open.Lists.{tables}
use Rattle.foundation.proofs.Open.Tallies.{tallies}

pub tallies_hold : Holds tally_cases
unfolding tally_cases tables tallies
tallies_hold = refl
