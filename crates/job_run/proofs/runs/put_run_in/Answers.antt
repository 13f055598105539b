-- `put_run_in` meets its contract.
use mathlib.Core.Path.{refl, ◌∙◌}
use Rattle.foundation.specs.Pattern.{lent}
use Rattle.foundation.specs.Printing.{job_text, job_run}
use Rattle.job_run.proofs.Arrays.{at_most}
use Rattle.job_run.proofs.Reports.{run_reported}
use Rattle.job_run.specs.Answering.{job_from}
use Rattle.job_run.proofs.runs.put_run_in.Goals as goal

pub run_job-answer-requires : goal.run_job-answer-requires
run_job-answer-requires c = (c.requires.1, c.requires.3)

pub put_ran-requires : goal.put_ran-requires
put_ran-requires c =
    let p = c.requires in
    let k = c.run_job-answer.auto in
    (p.0, at_most (k.pivots ∙ p.3.pivots_size) p.1, at_most (k.x ∙ p.3.x_size) p.1)

pub returns : goal.returns
unfolding job_from job_text lent
returns c =
    let a = c.args in
    let job = job_from a.n a.starts.now a.columns.now a.values.now a.right.now a.rows.now in
    c.put_ran.ensures job.pattern (job_run job) (run_reported job _ _ refl c.requires.2 _ _ _ c.run_job-answer.ensures)
