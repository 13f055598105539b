-- What the job program prints, as a function of the job's bytes (document 01, "Fields worked through").
use Rattle.std.specs.Prelude.{cond, List, [], ◌∷◌, ◌++◌, ℕ, zero, suc, ◌+◌, ◌/◌, ◌%◌, ltb, replicate}
use Rattle.lists.specs.Functions.{chain}
use Rattle.lists.specs.Sets.{upto}
use Rattle.foundation.specs.Answer.{Answer, refused, granted, and_then}
use Rattle.foundation.specs.Pattern.{Lent}
use Rattle.foundation.specs.Numbers.{bits_of}
use Rattle.foundation.specs.Reference.{whole, Going}
use Rattle.foundation.specs.PlanCall.{Counts, counts_of, SideStores, PlanStores, WorkSizes, planned}
use Rattle.foundation.specs.RunCall.{Lending, Ran, ran_with}
use Rattle.foundation.specs.Text.{ascii}
use Rattle.foundation.specs.Job.{Job, max_job_n, read_job}

-- ---- what the program computes

-- "and lends 2,048 subscripts and 2,048 slots a side"
abbrev pub job_room : ℕ
job_room = 2048

-- the program's own work stores have the lengths that docs/ fixes
unfoldable pub fitting_work : WorkSizes
fitting_work = record { of_height = []; of_height_plus_one = []; of_entries = [] }

-- stores of a plan for n fields, with so much room for subscripts a side
unfoldable pub blank_side : ℕ → ℕ → SideStores
blank_side n room = record { subs = replicate room 0; starts = replicate n 0; slot_starts = replicate (suc n) 0 }

unfoldable pub blank_stores : ℕ → ℕ → ℕ → PlanStores
blank_stores n room_l room_u = record { lower_side = blank_side n room_l; upper_side = blank_side n room_u }

unfoldable pub job_lending : Job → Lending
job_lending job =
    let n = job.pattern.n in
    record {
      values = job.values;
      right = job.right;
      solution = n;
      pivots = n;
      diagonal = n;
      lower_slots = job_room;
      upper_slots = job_room;
    }

-- the stores of the job's plan, 2,048 subscripts a side
unfoldable pub job_stores : Job → PlanStores
job_stores job = blank_stores job.pattern.n job_room job_room

-- "then as the rest": plan, then a whole run by the largest entry or by the job's list
unfoldable pub job_run : Job → Answer Ran
job_run job =
    and_then (planned max_job_n job.pattern (job_stores job) fitting_work) (ran_with job.pattern job.choice whole (job_lending job))

-- ---- bytes

-- a number in decimal digits, in front of `tail`; `turns` is at least the number of digits
unfoldable pub digits : ℕ → ℕ → List ℕ → List ℕ
digits zero n tail = tail
digits (suc turns) n tail =
    let rest = digits turns (n / 10) ((48 + n % 10) ∷ tail) in
    cond (ltb n 10) ((48 + n) ∷ tail) rest

unfoldable pub decimal : ℕ → List ℕ
decimal n = digits (suc n) n []

-- one hexadecimal digit, 0 to 9 and A to F
unfoldable pub hex_digit : ℕ → ℕ
hex_digit d = cond (ltb d 10) (48 + d) (55 + d)

-- the last `count` hexadecimal digits of a number, in front of `tail`
unfoldable pub hex_digits : ℕ → ℕ → List ℕ → List ℕ
hex_digits zero n tail = tail
hex_digits (suc count) n tail = hex_digits count (n / 16) (hex_digit (n % 16) ∷ tail)

-- "x: row, bits in hexadecimal": 16 digits
unfoldable pub hex_bits : ℕ → List ℕ
hex_bits bits = hex_digits 16 bits []

-- a space and a number
unfoldable pub spaced : ℕ → List ℕ
spaced n = ascii " " ++ decimal n

-- ---- lines

-- n, entries, L and U subscripts, L and U slots, reads: a job's row count is its n, and is not printed
unfoldable pub line_numbers : Counts → List ℕ
line_numbers c = c.n ∷ c.entries ∷ c.lower_subscripts ∷ c.upper_subscripts ∷ c.lower_slots ∷ c.upper_slots ∷ c.reads ∷ []

-- `plan`, and these
unfoldable pub plan_line : Counts → List ℕ
plan_line c = ascii "plan" ++ chain spaced (line_numbers c) ++ ascii "\n"

-- `rows`: "pivot row of each step"
unfoldable pub rows_line : List ℕ → List ℕ
rows_line pivots = ascii "rows" ++ chain spaced pivots ++ ascii "\n"

-- `x`: row, bits
unfoldable pub solution_line : Going → ℕ → List ℕ
solution_line g i = ascii "x" ++ spaced i ++ ascii " " ++ hex_bits (bits_of (g.right i)) ++ ascii "\n"

-- `updates`: "the count"
unfoldable pub updates_line : ℕ → List ℕ
updates_line updates = ascii "updates" ++ spaced updates ++ ascii "\n"

-- "A refusal prints only `refused`, number, step."
unfoldable pub refused_line : ℕ → ℕ → List ℕ
refused_line number step = ascii "refused" ++ spaced number ++ spaced step ++ ascii "\n"

-- a finished run's lines
unfoldable pub report : Lent → Ran → List ℕ
report p r =
    plan_line (counts_of p r.plan)
    ++ rows_line r.end.pivots
    ++ chain (solution_line r.end) (upto p.n)
    ++ updates_line r.end.updates

unfoldable pub answer_text : Lent → Answer Ran → List ℕ
answer_text p (refused number step) = refused_line number step
answer_text p (granted r) = report p r

unfoldable pub job_text : Answer Job → List ℕ
job_text (refused number step) = refused_line number step
job_text (granted job) = answer_text job.pattern (job_run job)

-- the bytes that the program prints for a job's bytes
unfoldable pub printed : List ℕ → List ℕ
printed bytes = job_text (read_job bytes)
