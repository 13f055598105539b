-- 8,192 bytes are room for every answer: what is printed is small, and a report has at most 128 pivot rows and 128 lines of the solution.
use mathlib.Core.Bool.{true}
use mathlib.Core.Path.{◌≡◌, refl}
use Prim.Native.Nat.{ℕ, zero, suc, ◌+◌, ◌-◌, ◌*◌, ◌≤◌, ◌<◌}
use native.Mathlib.Nat.{le_refl, mul-le-mul}
use native.Mathlib.Omega.{arith}
use lib.Dec.{eqb, ltb}
use lib.Ieee.{Float}
use lib.ListN.{length}
use borrow.Author.Tests.{eqb-true}
use Rattle.lists.specs.Sets.{member, index_of}
use Rattle.lists.proofs.Members.{by_test, and_left}
use Rattle.lists.proofs.Places.{index_at, index_below}
use Rattle.foundation.specs.Answer.{Answer, refused, granted, refuse_if, and_then}
use Rattle.foundation.specs.Claims.{AnswerRoom, JobRoom, twice_enough, SlotsEnough}
use Rattle.foundation.specs.Job.{Job, reading, read_job, nothing_read, max_job_bytes}
use Rattle.foundation.specs.Pattern.{Lent, pattern_of, max_entries, max_height, pattern_fault, judged}
use Rattle.foundation.specs.Plan.{Planning, Side, lower, upper, plan}
use Rattle.foundation.specs.PlanCall.{subscripts}
use Rattle.foundation.specs.Printing.{answer_text, job_text, job_run, printed}
use Rattle.foundation.specs.Reference.{Choice, whole, steps_of, Reason, noPivot, notFinite, number_of, Going, Course, going, stopped, step, reference}
use Rattle.foundation.specs.RunCall.{Lending, lending_fits, all_finite, choice_fits, order_fits, value_at, right_at, Ran, course_answer, ran_with}
use Rattle.foundation.specs.Slots.{slots_of}
use Rattle.foundation.specs.Square.{Square}
use Rattle.foundation.specs.Subscripts.{short, room_fault}
use Rattle.foundation.proofs.Enough.{slots-enough-from, subscripts-few}
use Rattle.foundation.proofs.FloatRun.{pivots-length, pivots_in_range, reference_keeps}
use Rattle.foundation.proofs.JobRoom.{job_room_lem}
use Rattle.foundation.proofs.Passing.{passes_small, passes_height, passes_plannable, passes_entries}
use Rattle.foundation.proofs.PlanFacts.{plan_facts}
use Rattle.foundation.proofs.ReadsBound.{reads_within, sizes_within}
use Rattle.foundation.proofs.PrintedLengths.{word, refused-few, Small, report-few}
use Rattle.foundation.proofs.RunBounds.{run_few, Early, early_reference}
use Rattle.foundation.proofs.JobRefusals.{Named, reading-named}
use Rattle.foundation.proofs.Passing.{fault-small}

-- ---- the answer of a run

reason_few : (reason : Reason) → number_of reason < word
unfolding number_of
reason_few noPivot = omega arith
reason_few notFinite = omega arith

module _ (p : Lent) (passes : pattern_fault 128 p ≡ 0) where
  few : p.n ≤ 128
  few = (passes_small 128 p passes).1

  rows_few : p.height ≤ 2048
  unfolding max_height
  rows_few = (passes_height 128 p passes).1

  -- the counts of a plan
  slots_small : (side : Side) → slots_of (plan (pattern_of p)) side p.n < word
  unfolding SlotsEnough twice_enough
  slots_small side = omega (arith, enough-small side, slots-enough-from plan_facts passes_plannable 128 p passes side)
    where
      square : p.n * (p.n - 1) ≤ 128 * 128
      square = let less : p.n - 1 ≤ 128 = omega (arith, few) in mul-le-mul few less

      below : p.n * (p.height - p.n) ≤ 128 * 2048
      below = let less : p.height - p.n ≤ 2048 = omega (arith, rows_few) in mul-le-mul few less

      enough-small : (side : Side) → twice_enough p side ≤ 1000000
      enough-small lower = omega (arith, square, below)
      enough-small upper = omega (arith, square)

  subscripts-small : (side : Side) → length (subscripts (plan (pattern_of p)) side p.n) < word
  unfolding subscripts
  subscripts-small side = omega (arith, slots_small side, subscripts-few (plan (pattern_of p)) side p.n)

  reads_small : (plan (pattern_of p)).reads < word
  unfolding plan pattern_of max_entries
  reads_small =
      let both : p.height + p.n ≤ 2176 = omega (arith, few, rows_few) in
      let sizes : p.n * (p.height + p.n) ≤ 128 * 2176 = mul-le-mul few both in
      omega (
        arith,
        sizes,
        reads_within (pattern_of p) (passes_plannable 128 p passes),
        sizes_within (pattern_of p) (passes_plannable 128 p passes),
        passes_entries 128 p passes,
        (passes_small 128 p passes).3,
      )

  finished : (choice : Choice) (values : Square Float) (right : ℕ → Float) → choice_fits (pattern_of p) choice ≡ true
      → (g : Going) → reference choice whole (pattern_of p) values right ≡ going g → Small p (record { plan = plan (pattern_of p); end = g })
  unfolding max_entries steps_of pattern_of
  finished choice values right fits g e =
      let (was, from, same) = reference_keeps choice whole (pattern_of p) values right g e in
      let long : length was.pivots ≡ p.n = pivots-length (pattern_of p) choice values right p.n was from in
      record {
        fields = few;
        entries = omega (arith, (passes_small 128 p passes).3);
        subs = subscripts-small;
        slots = slots_small;
        reads = reads_small;
        pivots = rw (same.pivots, long) few;
        rows = λ x m.
            let there : member x was.pivots ≡ true = rw same.pivots at m in
            let place = pivots_in_range (pattern_of p) choice fits values right p.n was (omega arith) from (index_of x was.pivots) (rw long at (index_below x was.pivots there)) in
            let high : x ≤ p.height = rw (index_at x was.pivots there) at place.1 in
            omega (arith, rows_few, high);
        updates = rw same.updates (omega (arith, few, run_few (pattern_of p) choice values right rows_few few p.n was from, mul-le-mul few (le_refl 262144)));
      }

  -- the answer to a run on the plan
  ran-few : (choice : Choice) (w : Lending) → length (answer_text p (ran_with p choice whole w (plan (pattern_of p)))) ≤ 8192
  unfolding ran_with refuse_if order_fits answer_text course_answer pattern_of
  ran-few choice w =
      by_test (lending_fits p (plan (pattern_of p)) w)
      (λ e. rw e
      (by_test (all_finite w)
      (λ f. rw f
      (by_test (order_fits (pattern_of p) choice whole)
      (λ o. rw o (at (and_left (choice_fits (pattern_of p) choice) _ o) (reference choice whole (pattern_of p) (value_at p w.values) (right_at w.right)) refl
      (early_reference choice (pattern_of p) (value_at p w.values) (right_at w.right))))
      (λ o. rw o (stops 12 0 (omega arith) (omega arith)))))
      (λ f. rw f (stops 11 0 (omega arith) (omega arith)))))
      (λ e. rw e (stops 10 0 (omega arith) (omega arith)))
    where
      stops : (number step : ℕ) → number < word → step < word → length (answer_text p (refused number step)) ≤ 8192
      stops number step h k = refused-few number step h k

      at : choice_fits (pattern_of p) choice ≡ true → (c : Course) → reference choice whole (pattern_of p) (value_at p w.values) (right_at w.right) ≡ c → Early p.n c
          → length (answer_text p (course_answer (plan (pattern_of p)) c)) ≤ 8192
      at fits (going g) e early = report-few p _ (finished choice _ _ fits g e)
      at fits (stopped reason k) e early = stops (number_of reason) k (reason_few reason) (omega (arith, early, few))

  -- 7, 8, or the run
  room-few : (s : Planning) (later : Planning → Answer Ran) → length (answer_text p (later s)) ≤ 8192 → (room_l room_u k left : ℕ) → k + left ≤ 129
      → length (answer_text p (and_then (room_fault s room_l room_u k left) later)) ≤ 8192
  unfolding room_fault and_then answer_text
  room-few s later h room_l room_u k zero l = h
  room-few s later h room_l room_u k (suc left) l =
      by_test (short s lower room_l k) (λ e. rw e (refused-few 7 k (omega arith) (omega arith)))
      (λ e. rw e
      (by_test (short s upper room_u k) (λ f. rw f (refused-few 8 k (omega arith) (omega arith)))
      (λ f. rw f (room-few s later h room_l room_u (suc k) left (omega arith)))))

-- ---- the answer to a job that was read

job_few : (job : Job) → length (answer_text job.pattern (job_run job)) ≤ 8192
unfolding JobRoom and_then judged answer_text pattern_of
job_few job =
    rw (job_room_lem job)
    (by_test (eqb (pattern_fault 128 job.pattern) 0)
    (λ e. rw e
    (let passes = eqb-true _ _ e in
    room-few job.pattern passes (plan (pattern_of job.pattern)) _ (ran-few job.pattern passes job.choice _) 2048 2048 1 job.pattern.n
    (omega (arith, few job.pattern passes))))
    (λ e. rw e (refused-few _ 0 (omega (arith, fault-small 128 job.pattern)) (omega arith))))

-- ---- the answer to any bytes

pub answer-room : AnswerRoom
unfolding AnswerRoom printed read_job refuse_if job_text
answer-room bytes =
    by_test (ltb max_job_bytes (length bytes)) (λ e. rw e (refused-few 18 0 (omega arith) (omega arith)))
    (λ e. rw e (at (reading (suc (length bytes)) nothing_read bytes) (reading-named (suc (length bytes)) nothing_read bytes)))
  where
    at : (a : Answer Job) → Named a → length (job_text a) ≤ 8192
    at (refused number step) h = refused-few number step (omega (arith, h.0)) (omega (arith, h.1))
    at (granted job) h = job_few job
