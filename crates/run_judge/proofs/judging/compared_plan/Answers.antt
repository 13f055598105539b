-- `judging::compared_plan` meets its contract: each return knows what the tests before it said. Assumes nothing.
use borrow.Author.Rules.{rules}
use Rattle.run_judge.specs.Judgement.{compared_plan}
use Rattle.run_judge.proofs.judging.compared_plan.Goals as goal

pub returns-then-not-sized : goal.returns-then-not-sized
unfolding compared_plan
returns-then-not-sized c = search rules

pub returns-then-not-may : goal.returns-then-not-may
unfolding compared_plan
returns-then-not-may c = search rules

pub returns-then-not-same : goal.returns-then-not-same
unfolding compared_plan
returns-then-not-same c = search rules

pub returns : goal.returns
unfolding compared_plan
returns c = search rules
