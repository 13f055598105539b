-- The run's call.
use mathlib.Core.Path.{refl}
use Rattle.foundation.specs.Table.{Holds}
use Rattle.foundation.specs.Cases.RunCall.{run_cases, order_cases}
use Rattle.foundation.proofs.Open.Lists.{tables}
use Rattle.foundation.proofs.Open.Runs.{runs}

pub runs_hold : Holds run_cases
unfolding run_cases tables runs
runs_hold = refl

pub orders_hold : Holds order_cases
unfolding order_cases tables runs
orders_hold = refl
