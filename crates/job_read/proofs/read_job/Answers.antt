-- `read_job` meets its contract.
use Rattle.std.proofs.Common.{◌≡◌, Err, refl, rules}
use Rattle.job_read.proofs.Course.{long_refused, refused-whole, read_whole}
use Rattle.job_read.proofs.read_job.Goals as goal

pub returns-then-job-gt-JOB_BYTES-clause-answer : goal.returns-then-job-gt-JOB_BYTES-clause-answer
returns-then-job-gt-JOB_BYTES-clause-answer c = long_refused c.args.job.now _ c.if-job-gt-JOB_BYTES.true

pub returns-in_err-p-clause-answer : goal.returns-in_err-p-clause-answer
returns-in_err-p-clause-answer c =
    let passed_on : c.from_residual.result ≡ Err c.in_err-p.field-0.0 = search rules in
    rw passed_on (refused-whole c.args.job.now _ _ c.if-job-gt-JOB_BYTES.false c.in_err-p.ensures.answer)

pub returns-clause-answer : goal.returns-clause-answer
returns-clause-answer c =
    read_whole c.args.job.now _ c.in_ok-p.p _ c.if-job-gt-JOB_BYTES.false (search rules) refl refl refl c.in_ok-p.ensures.answer
