-- What the slots show.
use mathlib.Core.Path.{refl}
use Rattle.foundation.specs.Table.{Holds}
use Rattle.foundation.specs.Cases.Shown.{shown_cases}
use Rattle.foundation.proofs.Open.Lists.{tables}
use Rattle.foundation.proofs.Open.Runs.{runs}

pub shown_hold : Holds shown_cases
unfolding shown_cases tables runs
shown_hold = refl
