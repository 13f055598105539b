-- Planning's call.
use mathlib.Core.Path.{refl}
use Rattle.foundation.specs.Table.{Holds}
use Rattle.foundation.specs.Cases.PlanCall.{plan_call_cases}
use Rattle.foundation.proofs.Open.Lists.{tables}
use Rattle.foundation.proofs.Open.Plans.{plans}

pub plan_calls_hold : Holds plan_call_cases
unfolding plan_call_cases tables plans
plan_calls_hold = refl
