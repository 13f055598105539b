-- What the steps from a job's bytes to its answer hand on.
use Rattle.std.specs.Prelude.{List, ◌≡◌, ℕ, Float}
use Rattle.foundation.specs.Answer.{granted}
use Rattle.foundation.specs.Job.{Job, choice_of}
use Rattle.foundation.specs.Pattern.{Lent, lent_square}
use Rattle.foundation.specs.PlanCall.{PlanStores, plan_answer, plan_leaves}
use Rattle.foundation.specs.Printing.{job_room, blank_stores}
use Rattle.answers.specs.Answers.{counts_in}
use Rattle.answers.specs.declared.PlanCounts.{PlanCounts}
use Rattle.job_run.specs.Lending.{job_plan}

-- the job of these lists
unfoldable pub job_from : ℕ → (starts columns : List ℕ) (values right : List Float) (rows : List ℕ) → Job
job_from n starts columns values right rows = record { pattern = lent_square n starts columns; values = values; right = right; choice = choice_of rows }

-- these counts and stores are the job's plan
pub record PlanMade (p : Lent) (counts : PlanCounts) (stores : PlanStores) : Type 0 where
  pub counted : granted (counts_in counts) ≡ plan_answer p (job_plan p)
  pub stored : stores ≡ plan_leaves p (job_plan p) (blank_stores p.n job_room job_room)
