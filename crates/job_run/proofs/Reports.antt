-- What is reported of a job's plan and of its run is the job's text.
use mathlib.Core.List.{List}
use mathlib.Core.Path.{◌≡◌, refl, ap, ◌∙◌}
use Prim.Native.Nat.{ℕ}
use lib.Ieee.{Float}
use Rattle.foundation.specs.Answer.{Answer, granted, and_then}
use Rattle.foundation.specs.Job.{Job}
use Rattle.foundation.specs.Plan.{Planning}
use Rattle.foundation.specs.PlanCall.{PlanStores}
use Rattle.foundation.specs.Printing.{job_text, answer_text, job_stores, job_lending, job_run}
use Rattle.foundation.specs.Reference.{whole}
use Rattle.foundation.specs.RunCall.{Ran, run_answer, ran_with}
use Rattle.answers.specs.Stores.{lent_plan}
use Rattle.answers.specs.declared.PlanCounts.{PlanCounts}
use Rattle.answers.specs.declared.RunAnswer.{RunAnswer}
use Rattle.job_report.specs.Reported.{Reported}
use Rattle.job_run.specs.Lending.{job_plan, JobRan}
use Rattle.job_run.specs.Answering.{PlanMade}
use Rattle.job_run.proofs.Planned.{ran_is, counts_are}
use Rattle.job_run.proofs.Ending.{went, pivots-shown, solution-shown}

-- ---- the run

-- what is in hand when the run is over is the job's run
pub run_reported : (job : Job) (counts : PlanCounts) (stores : PlanStores) → job.pattern.height ≡ job.pattern.n → PlanMade job.pattern counts stores → (a : RunAnswer) (x : List Float) (pivots : List ℕ)
    → JobRan a job.pattern (lent_plan counts stores) job.choice job.values job.right x pivots → Reported job.pattern (job_run job) counts a pivots x
run_reported job counts stores square made a x pivots ran =
    let same = ran_is job counts stores square made in
    record {
      answered = ran.answered ∙ ap run_answer same;
      counted = λ r is. counts_are job.pattern counts stores made r.plan (went job r is).planned_so;
      chosen = λ r is. ran.chosen ∙ rw (same ∙ is) (pivots-shown job.pattern.n r (went job r is).a_row_a_step);
      solved = λ r is. ran.solved ∙ rw (same ∙ is, square) (solution-shown job.pattern.n r);
    }

-- ---- the plan

-- the run that follows the job's plan
abbrev pub after_plan : Job → Planning → Answer Ran
after_plan job = ran_with job.pattern job.choice whole (job_lending job)

pub plan-text : (job : Job) → answer_text job.pattern (and_then (job_plan job.pattern) (after_plan job)) ≡ job_text (granted job)
unfolding job_text job_run job_plan job_stores
plan-text job = refl
