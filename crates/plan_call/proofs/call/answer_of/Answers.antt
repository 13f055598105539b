-- `answer_of` meets its contract: each ending of the steps is answered as it is. Assumes nothing.
use Rattle.plan_call.proofs.Answering.{answer_lower, answer_upper, answer_all}
use Rattle.plan_call.proofs.call.answer_of.Goals as goal

pub returns-in-LowerAt : goal.returns-in-LowerAt
returns-in-LowerAt c = answer_lower _ _ _ _ _ _ _ c.in-LowerAt.is

pub returns-in-UpperAt : goal.returns-in-UpperAt
returns-in-UpperAt c = answer_upper _ _ _ _ _ _ _ c.in-UpperAt.is

pub returns-in-All : goal.returns-in-All
returns-in-All c = answer_all _ _ _ _ _ _ _ _ _ _ c.in-All.is c.counts_of.ensures
