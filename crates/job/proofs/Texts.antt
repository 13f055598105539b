-- What is printed at each end of the way is the job's text.
use Rattle.std.proofs.Common.{◌≡◌, List, ℕ, ◌+◌, take, add-one}
use Rattle.foundation.specs.Answer.{Answer}
use Rattle.foundation.specs.Job.{Job, read_job}
use Rattle.foundation.specs.Printing.{printed, job_text}
use Rattle.job_read.specs.Read.{JobStores, job_in}
use Rattle.job_read.specs.declared.sizes.Sizes.{Sizes}
use Rattle.job_run.specs.Answering.{job_from}

-- the filled parts of the stores
pub parts_are : (z : Sizes) (s : JobStores)
    → job_from z.n (take (z.n + 1) s.starts) (take z.entries s.columns) (take z.entries s.values) (take z.n s.right) (take z.chosen s.rows) ≡ job_in z s
unfolding job_from job_in
parts_are z s = rw (add-one z.n)

-- what is printed of what was read
pub text-read : (job : List ℕ) (a : Answer Job) → a ≡ read_job job → job_text a ≡ printed job
unfolding printed
text-read job a e = rw e
