-- What `plan` leaves in stores of the job's sizes is the job's plan: of the lent stores only the lengths count.
use mathlib.Core.Bool.{true}
use mathlib.Core.List.{List}
use mathlib.Core.Path.{◌≡◌, ◌∙◌}
use Prim.Native.Nat.{ℕ, suc, ◌≤◌}
use lib.ListN.{length, length-replicate}
use borrow.Author.Tests.{eq-eqb}
use Rattle.foundation.specs.Answer.{Answer}
use Rattle.foundation.specs.Job.{max_job_n}
use Rattle.foundation.specs.Pattern.{Lent, lent, lent_square}
use Rattle.foundation.specs.Plan.{Planning}
use Rattle.foundation.specs.PlanCall.{SideStores, PlanStores, WorkSizes, planned, plan_leaves, side_after, subscripts_after, starts_after, slot_starts_after, starts_sized, work_fits, sizes_fit}
use Rattle.foundation.specs.Printing.{job_room, fitting_work, blank_side, blank_stores}
use Rattle.answers.specs.Stores.{WorkStores, work_sizes}
use Rattle.answers.specs.declared.PlanAnswer.{PlanAnswer}
use Rattle.planning.specs.Calls.{PlanKept}
use Rattle.job_run.specs.Lending.{PlanSized, job_plan, JobPlanned}
use Rattle.job_run.proofs.Fronts.{fronts, fronts_fit, fitting-fits}

module _ (p : Lent) where
  side-fits : (side : SideStores) → length side.starts ≡ p.n → length side.slot_starts ≡ suc p.n → starts_sized p side ≡ true
  unfolding starts_sized
  side-fits side a b = rw (eq-eqb (length side.starts) p.n a, eq-eqb (length side.slot_starts) (suc p.n) b)

  blank_fits : starts_sized p (blank_side p.n job_room) ≡ true
  unfolding blank_side
  blank_fits = side-fits (blank_side p.n job_room) (length-replicate p.n 0) (length-replicate (suc p.n) 0)

  blank_room : length (blank_side p.n job_room).subs ≡ job_room
  unfolding blank_side
  blank_room = length-replicate {A = ℕ} job_room 0

  blank_sizes : sizes_fit p (blank_stores p.n job_room job_room) fitting_work ≡ true
  unfolding sizes_fit blank_stores
  blank_sizes = rw (blank_fits, fitting-fits p)

  module _ (stores : PlanStores) (sized : PlanSized p.n stores) where
    our_sizes : (work : WorkSizes) → work_fits p work ≡ true → sizes_fit p stores work ≡ true
    unfolding sizes_fit
    our_sizes work fits =
        rw (
          side-fits stores.lower_side sized.l_starts sized.l_slots,
          side-fits stores.upper_side sized.u_starts sized.u_slots,
          fits,
        )

    planned_here : (work : WorkSizes) → work_fits p work ≡ true → planned max_job_n p stores work ≡ job_plan p
    unfolding job_plan planned blank_stores
    planned_here work fits = simp (our_sizes work fits, blank_sizes, sized.l_subs, sized.u_subs, blank_room)

    leaves_blank : (a : Answer Planning) → plan_leaves p a stores ≡ plan_leaves p a (blank_stores p.n job_room job_room)
    unfolding plan_leaves side_after subscripts_after starts_after slot_starts_after blank_stores blank_side
    leaves_blank a =
        simp (sized.l_subs, sized.l_starts, sized.l_slots, sized.u_subs, sized.u_starts, sized.u_slots, length-replicate)

    plan-done : (r : PlanAnswer) (stores' : PlanStores) (work work' : WorkStores) → work_fits p (work_sizes work) ≡ true
        → PlanKept r max_job_n p stores stores' work work' → JobPlanned r p stores'
    plan-done r stores' work work' fits kept =
        let here : planned max_job_n p stores (work_sizes work) ≡ job_plan p = planned_here (work_sizes work) fits in
        record {
          answered = kept.answer ∙ rw here;
          stored = kept.results ∙ leaves_blank (planned max_job_n p stores (work_sizes work)) ∙ rw here;
        }

-- what `plan` leaves is the job's plan
pub job_planned : (r : PlanAnswer) (n : ℕ) (starts columns : List ℕ) (stores stores' : PlanStores) (work' : WorkStores) → n ≤ max_job_n → PlanSized n stores
    → PlanKept r max_job_n (lent_square n starts columns) stores stores' (fronts n) work' → JobPlanned r (lent_square n starts columns) stores'
unfolding lent
job_planned r n starts columns stores stores' work' small sized kept =
    plan-done (lent_square n starts columns) stores sized r stores' (fronts n) work' (fronts_fit (lent_square n starts columns) small) kept
