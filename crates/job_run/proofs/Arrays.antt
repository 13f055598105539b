-- The arrays of a job's plan and run have the sizes that are asked for.
use mathlib.Core.Path.{◌≡◌, ◌∙◌}
use Prim.Native.Nat.{ℕ, ◌+◌, ◌≤◌}
use native.Mathlib.Nat.{le_of_eq, le_trans}
use native.Mathlib.Numerals.{add-one}
use native.Mathlib.Omega.{arith}
use lib.Ieee.{Float}
use lib.ListN.{replicate, length-replicate}
use Rattle.foundation.specs.Job.{max_job_n}
use Rattle.foundation.specs.Printing.{job_room}
use Rattle.job_sizes.specs.Sizes.{answer_room, more_than_n}
use Rattle.answers.specs.Stores.{plan_stores}
use Rattle.job_run.specs.Lending.{PlanSized, RunSized}
use Rattle.job_run.proofs.Fronts.{front, front_length}

-- a store of n places is short enough to be printed
pub at_most : {m n : ℕ} → m ≡ n → n ≤ max_job_n → m ≤ max_job_n
at_most same l = le_trans (le_of_eq same) l

-- room for a report is room for a line
pub line_room : {room : ℕ} → answer_room ≤ room → 50 ≤ room
line_room l = omega arith

-- the arrays of a plan are of the job's sizes
pub plan-sized : (n : ℕ) → n ≤ max_job_n
    → PlanSized n (plan_stores (replicate job_room 0) (front 0 n max_job_n) (front 0 (n + 1) more_than_n) (replicate job_room 0) (front 0 n max_job_n) (front 0 (n + 1) more_than_n))
plan-sized n h =
    let same = front_length {A = ℕ} 0 n max_job_n h in
    let more = front_length {A = ℕ} 0 (n + 1) more_than_n (omega arith) ∙ add-one n in
    let room = length-replicate {A = ℕ} job_room 0 in
    record { l_subs = room; l_starts = same; l_slots = more; u_subs = room; u_starts = same; u_slots = more }

-- and those of a run
pub run_sized : (n : ℕ) (blank : Float) → n ≤ max_job_n
    → RunSized n (replicate job_room blank) (replicate job_room blank) (front blank n max_job_n) (front blank n max_job_n) (front 0 n max_job_n)
run_sized n blank h =
    let same = front_length blank n max_job_n h in
    record {
      l_slots = length-replicate job_room blank;
      u_slots = length-replicate job_room blank;
      d_size = same;
      x_size = same;
      pivots_size = front_length {A = ℕ} 0 n max_job_n h;
    }
