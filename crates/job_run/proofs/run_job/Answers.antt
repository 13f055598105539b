-- `run_job` meets its contract.
use Rattle.job_run.proofs.Running.{job_ran_lem}
use Rattle.job_run.proofs.run_job.Goals as goal

pub returns : goal.returns
returns c =
    job_ran_lem _ _ _ _ _ _ _ _ _ _ _ _ _ _ _ _ _ _ _ _ c.choice_for-choice.ensures c.requires.0 c.requires.1 c.run.ensures
