-- A lent plan.
use mathlib.Core.Path.{refl}
use Rattle.foundation.specs.Table.{Holds}
use Rattle.foundation.specs.Cases.LentPlan.{lent_plan_cases}
use Rattle.foundation.proofs.Open.Lists.{tables}
use Rattle.foundation.proofs.Open.Plans.{plans}

pub lent_plans_hold : Holds lent_plan_cases
unfolding lent_plan_cases tables plans
lent_plans_hold = refl
