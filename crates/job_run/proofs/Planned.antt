-- The plan that was made is the job's, and a run on it is the job's run.
use mathlib.Core.Path.{◌≡◌, refl, sym, ap, ◌∙◌}
use Prim.Native.Nat.{ℕ}
use native.Mathlib.Nat.{le_of_eq}
use native.Mathlib.Omega.{arith}
use borrow.Author.Tests.{le-leb}
use Rattle.foundation.specs.Answer.{Answer, refused, granted, and_then}
use Rattle.foundation.specs.Job.{Job, max_job_n}
use Rattle.foundation.specs.Pattern.{Lent}
use Rattle.foundation.specs.Plan.{Planning}
use Rattle.foundation.specs.PlanCall.{Counts, counts_of, PlanStores, LentPlan, plan_answer, plan_leaves, held}
use Rattle.foundation.specs.Printing.{job_room, fitting_work, blank_stores, job_stores, job_lending, job_run}
use Rattle.foundation.specs.RunCall.{may_run, ran}
use Rattle.foundation.specs.Claims.{PlanAccepted}
use Rattle.foundation.proofs.Accepted.{plan_accepted}
use Rattle.answers.specs.Answers.{counts_in, answer_of, refusal_of}
use Rattle.answers.specs.Stores.{lent_plan}
use Rattle.answers.specs.declared.PlanCounts.{PlanCounts}
use Rattle.answers.specs.declared.PlanAnswer.{PlanAnswer}
use Rattle.answers.specs.declared.PlanAnswer.TheVariants.{Planned, Refused}
use Rattle.answers.specs.declared.Refusal.{Refusal}
use Rattle.job_run.specs.Lending.{job_plan, JobPlanned, lent_for, job_ran}
use Rattle.job_run.proofs.Fronts.{fitting-fits}
use Rattle.job_run.specs.Answering.{PlanMade}

-- a planning call that answers with counts made the plan
pub plan_made : (p : Lent) (stores : PlanStores) (r : PlanAnswer) (counts : PlanCounts) → JobPlanned r p stores → r ≡ Planned counts → PlanMade p counts stores
unfolding answer_of
plan_made p stores r counts made e = record { counted = rw e at made.answered; stored = made.stored }

-- one that answers with a refusal was refused so
pub plan-refused : (p : Lent) (stores : PlanStores) (r : PlanAnswer) (refusal : Refusal) → JobPlanned r p stores → r ≡ Refused refusal → refusal_of refusal ≡ plan_answer p (job_plan p)
unfolding answer_of
plan-refused p stores r refusal made e = rw e at made.answered

-- the planning whose counts were answered
record Made (p : Lent) (counts : Counts) (a : Answer Planning) : Type 0 where
  s : Planning
  is : a ≡ granted s
  counts_are : counts ≡ counts_of p s

made_from : (p : Lent) (counts : Counts) (a : Answer Planning) → granted counts ≡ plan_answer p a → Made p counts a
unfolding plan_answer and_then
made_from p counts (refused number step) e = let z : ◌≡◌ {A = ℕ} 0 1 = cc in absurd (omega arith)
made_from p counts (granted s) e = record { s = s; is = refl; counts_are = cc }

-- 9 never meets a plan that was made
held_from : (p : Lent) (counts : PlanCounts) (stores : PlanStores) (s : Planning) → job_plan p ≡ granted s → counts_in counts ≡ counts_of p s
    → stores ≡ plan_leaves p (job_plan p) (blank_stores p.n job_room job_room) → held max_job_n p (lent_plan counts stores) fitting_work ≡ granted s
unfolding PlanAccepted job_plan
held_from p counts stores s e c f =
    let f' : stores ≡ plan_leaves p (granted s) (blank_stores p.n job_room job_room) = rw e at f in
    let q : ◌≡◌ {A = LentPlan} (record { counts = counts_in counts; stores = stores }) (record { counts = counts_of p s; stores = plan_leaves p (granted s) (blank_stores p.n job_room job_room) }) = rw (c, f') in
    ap (λ (x : LentPlan). held max_job_n p x fitting_work) q ∙ plan_accepted max_job_n p (blank_stores p.n job_room job_room) fitting_work fitting_work s e (fitting-fits p)

ran-from : (job : Job) (q : LentPlan) (s : Planning) → job.pattern.height ≡ job.pattern.n → held max_job_n job.pattern q fitting_work ≡ granted s → job_plan job.pattern ≡ granted s
    → job_ran job.pattern q job.choice job.values job.right ≡ job_run job
unfolding job_ran ran may_run held job_run job_plan and_then lent_for job_stores job_lending
ran-from job q s square h e = rw (le-leb job.pattern.height job.pattern.n (le_of_eq square), h, e)

abbrev known : (p : Lent) (counts : PlanCounts) (stores : PlanStores) → PlanMade p counts stores → Made p (counts_in counts) (job_plan p)
known p counts stores made = made_from p (counts_in counts) (job_plan p) made.counted

-- a run on the plan that was made is the job's run
pub ran_is : (job : Job) (counts : PlanCounts) (stores : PlanStores) → job.pattern.height ≡ job.pattern.n → PlanMade job.pattern counts stores
    → job_ran job.pattern (lent_plan counts stores) job.choice job.values job.right ≡ job_run job
ran_is job counts stores square made =
    let k = known job.pattern counts stores made in
    ran-from job (lent_plan counts stores) k.s square (held_from job.pattern counts stores k.s k.is k.counts_are made.stored) k.is

-- the counts that were answered are the plan's
pub counts_are : (p : Lent) (counts : PlanCounts) (stores : PlanStores) → PlanMade p counts stores → (s : Planning) → job_plan p ≡ granted s → counts_in counts ≡ counts_of p s
counts_are p counts stores made s e =
    let same : granted (known p counts stores made).s ≡ granted s = sym (known p counts stores made).is ∙ e in
    let so : (known p counts stores made).s ≡ s = cc in
    (known p counts stores made).counts_are ∙ ap (counts_of p) so
