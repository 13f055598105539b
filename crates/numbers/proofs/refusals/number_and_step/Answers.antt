-- `number_and_step` meets its contract.
use Rattle.answers.specs.Answers.{refusal_of}
use Rattle.numbers.specs.Numbered.{refusal_by}
use Rattle.numbers.proofs.refusals.number_and_step.Goals as goal

pub returns-in-Limits : goal.returns-in-Limits
unfolding refusal_by refusal_of
returns-in-Limits c = rw c.in-Limits.is

pub returns-in-Height : goal.returns-in-Height
unfolding refusal_by refusal_of
returns-in-Height c = rw c.in-Height.is

pub returns-in-Starts : goal.returns-in-Starts
unfolding refusal_by refusal_of
returns-in-Starts c = rw c.in-Starts.is

pub returns-in-Column : goal.returns-in-Column
unfolding refusal_by refusal_of
returns-in-Column c = rw c.in-Column.is

pub returns-in-Order : goal.returns-in-Order
unfolding refusal_by refusal_of
returns-in-Order c = rw c.in-Order.is

pub returns-in-Diagonal : goal.returns-in-Diagonal
unfolding refusal_by refusal_of
returns-in-Diagonal c = rw c.in-Diagonal.is

pub returns-in-Stores : goal.returns-in-Stores
unfolding refusal_by refusal_of
returns-in-Stores c = rw c.in-Stores.is

pub returns-in-LowerRoom : goal.returns-in-LowerRoom
unfolding refusal_by refusal_of
returns-in-LowerRoom c = rw c.in-LowerRoom.is

pub returns-in-UpperRoom : goal.returns-in-UpperRoom
unfolding refusal_by refusal_of
returns-in-UpperRoom c = rw c.in-UpperRoom.is

pub returns-in-OtherPlan : goal.returns-in-OtherPlan
unfolding refusal_by refusal_of
returns-in-OtherPlan c = rw c.in-OtherPlan.is
