-- Plan, shared subscripts, room and slots.
use mathlib.Core.Path.{refl}
use Rattle.foundation.specs.Table.{Holds}
use Rattle.foundation.specs.Cases.Plan.{plan_cases, subscript_cases, room_cases, slot_cases}
use Rattle.foundation.proofs.Open.Lists.{tables}
use Rattle.foundation.proofs.Open.Plans.{plans}

pub plans_hold : Holds plan_cases
unfolding plan_cases tables plans
plans_hold = refl

pub subscripts_hold : Holds subscript_cases
unfolding subscript_cases tables plans
subscripts_hold = refl

pub rooms_hold : Holds room_cases
unfolding room_cases tables plans
rooms_hold = refl

pub slots_hold : Holds slot_cases
unfolding slot_cases tables plans
slots_hold = refl
