-- What a run leaves in stores of the job's sizes is the job's run: of the lent stores only the lengths count.
use mathlib.Core.Bool.{Bool, true}
use mathlib.Core.List.{List, [], ◌∷◌}
use mathlib.Core.Path.{◌≡◌, refl, ap, sym, ◌∙◌}
use Prim.Native.Nat.{ℕ, ◌≤◌}
use native.Mathlib.Omega.{arith}
use lib.Ieee.{Float, binary64, of_bits}
use lib.ListN.{length}
use Rattle.foundation.specs.Job.{choice_of, max_job_n}
use Rattle.foundation.specs.Pattern.{Lent, lent, lent_square}
use Rattle.foundation.specs.PlanCall.{WorkSizes, LentPlan, work_fits, sizes_fit, held_if}
use Rattle.foundation.specs.Printing.{fitting_work}
use Rattle.foundation.specs.Reference.{Choice, largest, listed}
use Rattle.foundation.specs.RunCall.{RunStores, ran, run_leaves}
use Rattle.answers.specs.Runs.{extent_of}
use Rattle.answers.specs.declared.Extent.TheVariants.{Whole}
use Rattle.answers.specs.declared.RunAnswer.{RunAnswer}
use Rattle.answers.specs.RunStores.{lending_of, run_stores}
use Rattle.elimination.specs.Calls.{RunWork, run_work_sizes, RunKept}
use Rattle.job_run.specs.Lending.{RunSized, lent_for, job_ran, JobRan}
use Rattle.job_run.proofs.Fronts.{run_fronts, run_fronts_fit, fitting-fits}

-- a plan that is held with fitting work stores is held with any that fit
held_fitting : (may : Bool) (most : ℕ) (p : Lent) (q : LentPlan) (work : WorkSizes) → work_fits p work ≡ true → held_if may most p q work ≡ held_if may most p q fitting_work
unfolding held_if sizes_fit
held_fitting may most p q work fits = simp (fits, fitting-fits p)

lending_is : (p : Lent) (values right l u d x : List Float) (pivots : List ℕ) → RunSized p.n l u d x pivots
    → lending_of values right l u d x pivots ≡ lent_for p values right
unfolding lent_for
lending_is p values right l u d x pivots z = rw (z.l_slots, z.u_slots, z.d_size, z.x_size, z.pivots_size)

ran_here : (p : Lent) (q : LentPlan) (work : WorkSizes) (choice : Choice) (values right l u d x : List Float) (pivots : List ℕ) → work_fits p work ≡ true
    → RunSized p.n l u d x pivots → ran max_job_n p q work choice (extent_of Whole) (lending_of values right l u d x pivots) ≡ job_ran p q choice values right
unfolding job_ran ran extent_of
ran_here p q work choice values right l u d x pivots fits sized =
    rw (held_fitting _ max_job_n p q work fits, lending_is p values right l u d x pivots sized)

run_done : (r : RunAnswer) (p : Lent) (q : LentPlan) (choice : Choice) (values right l u d x l' u' d' x' : List Float) (pivots pivots' : List ℕ) (work work' : RunWork)
    → work_fits p (run_work_sizes work) ≡ true → RunSized p.n l u d x pivots
    → RunKept r max_job_n p q choice (extent_of Whole) (lending_of values right l u d x pivots) (run_stores l' u' d' x' pivots') work work' → JobRan r p q choice values right x' pivots'
unfolding run_leaves
run_done r p q choice values right l u d x l' u' d' x' pivots pivots' work work' fits sized kept =
    let here = ran_here p q (run_work_sizes work) choice values right l u d x pivots fits sized in
    record {
      answered = kept.answer ∙ rw here;
      solved = ap (λ (s : RunStores). s.solution) kept.results ∙ rw (here, sized.x_size);
      chosen = ap (λ (s : RunStores). s.pivots) kept.results ∙ rw (here, sized.pivots_size);
    }

-- what a run leaves is the job's run, with the choice of rows that is its own
pub job_ran_lem : (r : RunAnswer) (n : ℕ) (starts columns : List ℕ) (q : LentPlan) (choice choice' : Choice) (values right l u d x l' u' d' x' : List Float) (pivots pivots' : List ℕ) (work' : RunWork) → choice ≡ choice' → n ≤ max_job_n
    → RunSized n l u d x pivots
    → RunKept r max_job_n (lent_square n starts columns) q choice (extent_of Whole) (lending_of values right l u d x pivots) (run_stores l' u' d' x' pivots') (run_fronts (of_bits binary64 0) n) work'
    → JobRan r (lent_square n starts columns) q choice' values right x' pivots'
unfolding lent
job_ran_lem r n starts columns q choice choice' values right l u d x l' u' d' x' pivots pivots' work' same small sized kept =
    rw (sym same) (run_done r (lent_square n starts columns) q choice values right l u d x l' u' d' x' pivots pivots' (run_fronts (of_bits binary64 0) n) work' (run_fronts_fit (lent_square n starts columns) (of_bits binary64 0) small) sized kept)

-- without rows the largest entry chooses
pub none_chosen : (rows : List ℕ) → length rows ≡ 0 → largest ≡ choice_of rows
unfolding choice_of
none_chosen [] e = refl
none_chosen (x ∷ xs) e = absurd (omega arith)

pub some-chosen : (rows : List ℕ) → (length rows ≡ 0 → ⊥) → listed rows ≡ choice_of rows
unfolding choice_of
some-chosen [] e = absurd (e refl)
some-chosen (x ∷ xs) e = refl
