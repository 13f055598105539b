-- `judging::plan_judgement` meets its contract. Assumes nothing.
use Rattle.run_judge.specs.Judgement.{plan_judgement}
use Rattle.run_judge.proofs.judging.plan_judgement.Goals as goal

pub returns-in-Refused : goal.returns-in-Refused
returns-in-Refused c = rw c.in-Refused.is c.refusal_judgement.ensures

pub returns-in-Agrees : goal.returns-in-Agrees
unfolding plan_judgement
returns-in-Agrees c = rw c.in-Agrees.is c.compared_plan.ensures
