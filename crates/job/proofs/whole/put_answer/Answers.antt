-- `put_answer` meets its contract.
use Rattle.foundation.specs.Answer.{refused}
use Rattle.foundation.specs.Printing.{job_text}
use Rattle.job_read.specs.Read.{read_of}
use Rattle.job.proofs.Texts.{text-read}
use Rattle.job.proofs.whole.put_answer.Goals as goal

pub returns-in-Ok : goal.returns-in-Ok
unfolding read_of
returns-in-Ok c = rw (text-read c.args.job.now _ c.in-Ok.ensures.answer) at c.put_read.ensures

pub returns-in-Err : goal.returns-in-Err
unfolding read_of job_text
returns-in-Err c =
    rw (text-read c.args.job.now (refused c.number.result 0) (rw c.number.ensures c.in-Err.ensures.answer)) at c.put_refused.ensures
