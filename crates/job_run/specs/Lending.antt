-- What a job's plan and its run leave, by the definitions of the job.
use Rattle.std.specs.Prelude.{List, ◌≡◌, ℕ, suc, Float, length}
use Rattle.foundation.specs.Answer.{Answer}
use Rattle.foundation.specs.Job.{max_job_n}
use Rattle.foundation.specs.Pattern.{Lent}
use Rattle.foundation.specs.Plan.{Planning}
use Rattle.foundation.specs.PlanCall.{PlanStores, LentPlan, planned, plan_answer, plan_leaves}
use Rattle.foundation.specs.Printing.{job_room, fitting_work, blank_stores}
use Rattle.foundation.specs.Reference.{Choice, whole}
use Rattle.foundation.specs.RunCall.{Lending, Ran, ran, run_answer, solution_after, pivots_after}
use Rattle.answers.specs.Answers.{answer_of}
use Rattle.answers.specs.declared.PlanAnswer.{PlanAnswer}
use Rattle.answers.specs.Runs.{run_answer_of}
use Rattle.answers.specs.declared.RunAnswer.{RunAnswer}

-- the stores of a plan have their lengths, with the job's room for subscripts
pub record PlanSized (n : ℕ) (stores : PlanStores) : Type 0 where
  pub l_subs : length stores.lower_side.subs ≡ job_room
  pub l_starts : length stores.lower_side.starts ≡ n
  pub l_slots : length stores.lower_side.slot_starts ≡ suc n
  pub u_subs : length stores.upper_side.subs ≡ job_room
  pub u_starts : length stores.upper_side.starts ≡ n
  pub u_slots : length stores.upper_side.slot_starts ≡ suc n

-- The plan that `job_run` makes of a pattern: "n at most 128", 2,048 subscripts a side.
unfoldable pub job_plan : Lent → Answer Planning
job_plan p = planned max_job_n p (blank_stores p.n job_room job_room) fitting_work

-- the answer and the stores are that plan's
pub record JobPlanned (r : PlanAnswer) (p : Lent) (stores : PlanStores) : Type 0 where
  pub answered : answer_of r ≡ plan_answer p (job_plan p)
  pub stored : stores ≡ plan_leaves p (job_plan p) (blank_stores p.n job_room job_room)

-- the result stores of a run have their lengths
pub record RunSized (n : ℕ) (l u d x : List Float) (pivots : List ℕ) : Type 0 where
  pub l_slots : length l ≡ job_room
  pub u_slots : length u ≡ job_room
  pub d_size : length d ≡ n
  pub x_size : length x ≡ n
  pub pivots_size : length pivots ≡ n

-- Document 01, "Job": the program "lends 2,048 subscripts and 2,048 slots a side": `job_lending` by pattern, values and right side.
unfoldable pub lent_for : Lent → List Float → List Float → Lending
lent_for p values right =
    record {
      values = values;
      right = right;
      solution = p.n;
      pivots = p.n;
      diagonal = p.n;
      lower_slots = job_room;
      upper_slots = job_room;
    }

-- a whole run on the lent plan q, in stores of the job's sizes
unfoldable pub job_ran : Lent → LentPlan → Choice → List Float → List Float → Answer Ran
job_ran p q choice values right = ran max_job_n p q fitting_work choice whole (lent_for p values right)

-- the answer, the solution and the pivot rows are that run's
pub record JobRan (r : RunAnswer) (p : Lent) (q : LentPlan) (choice : Choice) (values right x : List Float) (pivots : List ℕ) : Type 0 where
  pub answered : run_answer_of r ≡ run_answer (job_ran p q choice values right)
  pub solved : x ≡ solution_after p.height p.n (job_ran p q choice values right)
  pub chosen : pivots ≡ pivots_after p.n (job_ran p q choice values right)
