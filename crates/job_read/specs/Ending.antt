-- Reading between two commands, and how the commands ended.
use Rattle.std.specs.Prelude.{◌≡◌, List, ℕ, suc, ◌<◌, Result, Ok, Err, length}
use Rattle.foundation.specs.Answer.{Answer, refused, granted}
use Rattle.foundation.specs.Job.{Job, job_of, reading, nothing_read}
use Rattle.job_commands.specs.Stores.{JobStores}
use Rattle.job_commands.specs.Refusal.{number_of}
use Rattle.job_commands.specs.Progress.{state}
use Rattle.job_commands.specs.declared.progress.Progress.{Progress}
use Rattle.job_commands.specs.declared.refusal.JobRefusal.{JobRefusal}

-- how the commands ended, as the definition has it
unfoldable pub ending_of : Result Progress JobRefusal → JobStores → Answer Job
ending_of (Err refusal) s = refused (number_of refusal) 0
ending_of (Ok p) s = granted (job_of (state p s))

-- between two commands: reading what is left gives the answer of the whole job. `fuel` turns are enough for it.
pub record BetweenCommands (job : List ℕ) (s : JobStores) (p : Progress) : Type 0 where
  pub fuel : ℕ
  pub enough : length p.bytes.now < fuel
  pub same : reading fuel (state p s) p.bytes.now ≡ reading (suc (length job)) nothing_read job
