-- `put_run` meets its contract.
use Rattle.job_run.proofs.Arrays.{run_sized}
use Rattle.job_run.proofs.runs.put_run.Goals as goal

pub put_run_in-requires : goal.put_run_in-requires
put_run_in-requires c = (c.requires.0, c.requires.1, c.requires.2, run_sized _ _ c.requires.1)

pub returns : goal.returns
returns c = c.put_run_in.ensures
