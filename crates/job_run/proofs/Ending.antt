-- How a job's run ended, if it is finished: what its stores say of it.
use mathlib.Core.Bool.{Bool, true, false, not}
use mathlib.Core.List.{List, map}
use mathlib.Core.Path.{◌≡◌, sym, ap, ◌∙◌}
use Prim.Native.Nat.{ℕ}
use native.Mathlib.Omega.{arith}
use lib.Ieee.{Float}
use lib.ListN.{length, length-map}
use Rattle.lists.specs.Functions.{padded}
use Rattle.lists.specs.Sets.{upto}
use Rattle.lists.proofs.Places.{length-upto, padded-full}
use Rattle.foundation.specs.Answer.{Answer, refused, granted, refuse_if, and_then, result_store}
use Rattle.foundation.specs.Job.{Job}
use Rattle.foundation.specs.Numbers.{plus_zero}
use Rattle.foundation.specs.Pattern.{Lent, pattern_of}
use Rattle.foundation.specs.Plan.{Planning}
use Rattle.foundation.specs.Printing.{job_stores, job_lending, job_run}
use Rattle.foundation.specs.Reference.{Choice, Extent, whole, Course, going, stopped, steps_of, reference}
use Rattle.foundation.specs.RunCall.{Lending, lending_fits, all_finite, order_fits, value_at, right_at, Ran, course_answer, ran_with, solution_after, pivots_after}
use Rattle.foundation.proofs.FloatRun.{pivots-length, reference_keeps}
use Rattle.job_run.specs.Lending.{job_plan}

-- a test that passed
passed : {A : Type 0} (fails : Bool) (number : ℕ) (later : Answer A) (a : A) → refuse_if fails number later ≡ granted a → later ≡ granted a
unfolding refuse_if
passed true number later a e = let z : ◌≡◌ {A = ℕ} 0 1 = cc in absurd (omega arith)
passed false number later a e = e

course-going : (s : Planning) (c : Course) (r : Ran) → course_answer s c ≡ granted r → (r.plan ≡ s) × (c ≡ going r.end)
unfolding course_answer
course-going s (going g) r e =
    let same : ◌≡◌ {A = Ran} (record { plan = s; end = g }) r = cc in
    (ap (λ (x : Ran). x.plan) (sym same), ap (λ (x : Ran). going x.end) same)
course-going s (stopped reason k) r e = let z : ◌≡◌ {A = ℕ} 0 1 = cc in absurd (omega arith)

-- a finished run went by the plan, and the reference came to its end
ran-course : (p : Lent) (choice : Choice) (extent : Extent) (w : Lending) (s : Planning) (r : Ran) → ran_with p choice extent w s ≡ granted r
    → (r.plan ≡ s) × (reference choice extent (pattern_of p) (value_at p w.values) (right_at w.right) ≡ going r.end)
unfolding ran_with
ran-course p choice extent w s r e =
    course-going s _ r
    (passed (not (order_fits (pattern_of p) choice extent)) 12 _ r (passed (not (all_finite w)) 11 _ r (passed (not (lending_fits p s w)) 10 _ r e)))

-- the same of a job's run
pub record Went (job : Job) (r : Ran) : Type 0 where
  pub planned_so : job_plan job.pattern ≡ granted r.plan
  pub a_row_a_step : length r.end.pivots ≡ job.pattern.n

then_went : (job : Job) (a : Answer Planning) (r : Ran) → and_then a (ran_with job.pattern job.choice whole (job_lending job)) ≡ granted r
    → (a ≡ granted r.plan) × (length r.end.pivots ≡ job.pattern.n)
unfolding and_then steps_of pattern_of
then_went job (refused number step) r e = let z : ◌≡◌ {A = ℕ} 0 1 = cc in absurd (omega arith)
then_went job (granted s) r e =
    let p = pattern_of job.pattern in
    let (same, ends) = ran-course job.pattern job.choice whole (job_lending job) s r e in
    let (was, from, alike) = reference_keeps job.choice whole p _ _ r.end ends in
    (ap granted (sym same), ap length alike.pivots ∙ pivots-length p job.choice _ _ p.n was from)

pub went : (job : Job) (r : Ran) → job_run job ≡ granted r → Went job r
unfolding job_run job_plan job_stores
went job r e = let (a, b) = then_went job _ r e in record { planned_so = a; a_row_a_step = b }

-- ---- the stores

pub pivots-shown : (n : ℕ) (r : Ran) → length r.end.pivots ≡ n → pivots_after n (granted r) ≡ r.end.pivots
unfolding pivots_after result_store
pivots-shown n r e = rw (← e) (padded-full 0 r.end.pivots)

pub solution-shown : (n : ℕ) (r : Ran) → solution_after n n (granted r) ≡ map r.end.right (upto n)
unfolding solution_after result_store
solution-shown n r = full (map r.end.right (upto n)) (length-map (upto n) r.end.right ∙ length-upto n)
  where
    full : (xs : List Float) → length xs ≡ n → padded plus_zero n xs ≡ xs
    full xs h = rw (← h) (padded-full plus_zero xs)
