-- `tell_plan` meets its contract, case by case.
use mathlib.Core.Path.{refl}
use Rattle.foundation.specs.PlanCall.{count_numbers}
use Rattle.answers.specs.Answers.{answer_of}
use Rattle.numbers.specs.Numbered.{refusal_by, refusal_number, numbers_of, plan_numbers}
use Rattle.numbers.proofs.telling.tell_plan.Goals as goal

pub returns-in-Planned : goal.returns-in-Planned
unfolding answer_of refusal_number plan_numbers numbers_of count_numbers
returns-in-Planned c = rw c.in-Planned.is (record { returned = refl; numbers = rw c.count_numbers-counts.ensures at c.put.ensures })

pub returns-in-Refused : goal.returns-in-Refused
unfolding answer_of refusal_by refusal_number plan_numbers numbers_of
returns-in-Refused c = rw (c.in-Refused.is, ← c.number_and_step-refused.ensures) c.put_refusal.ensures
