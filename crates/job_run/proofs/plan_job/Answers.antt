-- `plan_job` meets its contract.
use Rattle.job_run.proofs.Fitting.{job_planned}
use Rattle.job_run.proofs.plan_job.Goals as goal

pub returns : goal.returns
returns c = job_planned _ _ _ _ _ _ _ c.requires.0 c.requires.1 c.plan.ensures
