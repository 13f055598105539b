-- `judging::refusal_judgement` meets its contract: each arm knows its refusal. Assumes nothing.
use Rattle.run_judge.specs.Judgement.{plan_judgement}
use Rattle.run_judge.proofs.judging.refusal_judgement.Goals as goal

pub returns-in-Limits : goal.returns-in-Limits
unfolding plan_judgement
returns-in-Limits c = rw c.in-Limits.is

pub returns-in-Height : goal.returns-in-Height
unfolding plan_judgement
returns-in-Height c = rw c.in-Height.is

pub returns-in-Starts : goal.returns-in-Starts
unfolding plan_judgement
returns-in-Starts c = rw c.in-Starts.is

pub returns-in-Column : goal.returns-in-Column
unfolding plan_judgement
returns-in-Column c = rw c.in-Column.is

pub returns-in-Order : goal.returns-in-Order
unfolding plan_judgement
returns-in-Order c = rw c.in-Order.is

pub returns-in-Diagonal : goal.returns-in-Diagonal
unfolding plan_judgement
returns-in-Diagonal c = rw c.in-Diagonal.is

pub returns-in-Stores : goal.returns-in-Stores
unfolding plan_judgement
returns-in-Stores c = rw c.in-Stores.is

pub returns-in-LowerRoom : goal.returns-in-LowerRoom
unfolding plan_judgement
returns-in-LowerRoom c = rw c.in-LowerRoom.is

pub returns-in-UpperRoom : goal.returns-in-UpperRoom
unfolding plan_judgement
returns-in-UpperRoom c = rw c.in-UpperRoom.is

pub returns-in-OtherPlan : goal.returns-in-OtherPlan
unfolding plan_judgement
returns-in-OtherPlan c = rw c.in-OtherPlan.is c.compared_plan.ensures
