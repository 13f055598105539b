-- A job in the stores: what callers see of reading.
use Rattle.std.specs.Prelude.{suc, Result, Ok, Err, take}
use Rattle.foundation.specs.Answer.{Answer, refused, granted}
use Rattle.foundation.specs.Job.{Job, choice_of}
use Rattle.foundation.specs.Pattern.{lent_square}
pub use Rattle.job_commands.specs.Stores.{JobStores, stores_of, lists_in, SameStores}
pub use Rattle.job_commands.specs.Refusal.{number_of}
use Rattle.job_commands.specs.declared.refusal.JobRefusal.{JobRefusal}
use Rattle.job_read.specs.declared.sizes.Sizes.{Sizes}

-- the job that the filled parts of the stores are
unfoldable pub job_in : Sizes → JobStores → Job
job_in z s =
    record {
      pattern = lent_square z.n (take (suc z.n) s.starts) (take z.entries s.columns);
      values = take z.entries s.values;
      right = take z.n s.right;
      choice = choice_of (take z.chosen s.rows);
    }

-- what reading says: a refusal, always of step 0, or the job
unfoldable pub read_of : Result Sizes JobRefusal → JobStores → Answer Job
read_of (Err refusal) s = refused (number_of refusal) 0
read_of (Ok z) s = granted (job_in z s)
