-- `put_read` meets its contract.
use Rattle.job_read.specs.Read.{lists_in}
use Rattle.job.proofs.Texts.{parts_are}
use Rattle.job.proofs.whole.put_read.Goals as goal

pub returns : goal.returns
returns c = rw (parts_are c.args.z (lists_in c.args.stores.now)) at c.put_plan.ensures
