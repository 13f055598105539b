-- Text and the job: `unfolding texts`, `unfolding jobs`.
use Rattle.foundation.specs.Text.{ascii}
use Rattle.foundation.specs.Job.{max_job_bytes, max_job_n, little_endian, nothing_read, choice_of, job_of, cut_short, misplaced, operand, read_n, read_r, read_e, read_b, read_p, read_z, command, next, reading, read_job}
use Rattle.foundation.proofs.Open.Plans.{patterns}
use Rattle.foundation.proofs.Open.Numbers.{numbers}

unfoldable pub texts : Unit {0}
unfolding ascii
texts = tt

unfoldable pub jobs : Unit {0}
unfolding patterns numbers max_job_bytes max_job_n little_endian nothing_read choice_of job_of cut_short misplaced operand read_n read_r read_e read_b read_p read_z command next reading read_job
jobs = tt
