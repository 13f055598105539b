-- `put_plan` meets its contract.
use Rattle.job_run.proofs.Arrays.{plan-sized}
use Rattle.job_run.proofs.runs.put_plan.Goals as goal

pub put_plan_in-requires : goal.put_plan_in-requires
put_plan_in-requires c = (c.requires.0, c.requires.1, plan-sized _ c.requires.1)

pub returns : goal.returns
returns c = c.put_plan_in.ensures
