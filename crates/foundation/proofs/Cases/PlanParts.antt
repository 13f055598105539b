-- Planning after each part of a step, and each part by itself.
use mathlib.Core.Path.{refl}
use Rattle.foundation.specs.Table.{Holds}
use Rattle.foundation.specs.Cases.PlanParts.{plan_part_cases, known_cases, single_part_cases}
use Rattle.foundation.proofs.Open.Lists.{tables}
use Rattle.foundation.proofs.Open.Plans.{plans}

pub plan_parts_hold : Holds plan_part_cases
unfolding plan_part_cases tables plans
plan_parts_hold = refl

pub known_hold : Holds known_cases
unfolding known_cases tables plans
known_hold = refl

pub single_parts_hold : Holds single_part_cases
unfolding single_part_cases tables plans
single_parts_hold = refl
