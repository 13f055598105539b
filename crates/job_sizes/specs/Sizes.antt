-- The sizes of a job's stores and of its answer. `max_job_bytes`, `max_job_n` and `job_room` are the foundation's.
use Rattle.std.specs.Prelude.{ℕ, suc, ◌/◌}
use Rattle.foundation.specs.Job.{max_job_bytes, max_job_n}

-- places of a store that has one more than n
abbrev pub more_than_n : ℕ
more_than_n = suc max_job_n

-- entries that a job can hold: each takes 11 bytes, E, a column and a value
abbrev pub job_entries : ℕ
job_entries = max_job_bytes / 11

-- bytes that are room for every answer
abbrev pub answer_room : ℕ
answer_room = 8192
