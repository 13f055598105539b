-- More rows than columns.
use mathlib.Core.Path.{refl}
use Rattle.foundation.specs.Table.{Holds}
use Rattle.foundation.specs.Cases.Tall.{tall_cases}
use Rattle.foundation.proofs.Open.Lists.{tables}
use Rattle.foundation.proofs.Open.Runs.{runs}

pub tall_hold : Holds tall_cases
unfolding tall_cases tables runs
tall_hold = refl
