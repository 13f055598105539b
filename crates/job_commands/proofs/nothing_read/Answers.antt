-- `nothing_read` meets its contract.
use Rattle.foundation.specs.Job.{nothing_read}
use Rattle.job_commands.specs.Progress.{state}
use Rattle.job_commands.proofs.nothing_read.Goals as goal

pub returns-clause-value : goal.returns-clause-value
unfolding state nothing_read
returns-clause-value c = λ s e. rw e
