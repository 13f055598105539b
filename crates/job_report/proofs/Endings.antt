-- How planning and a run ended, by what was answered; and that what was printed then is the answer's text.
use mathlib.Core.List.{List}
use mathlib.Core.Path.{◌≡◌, refl, ap, ◌∙◌}
use Prim.Native.Nat.{ℕ}
use native.Mathlib.Omega.{arith}
use lib.Ieee.{Float}
use Rattle.foundation.specs.Answer.{Answer, refused, granted, and_then}
use Rattle.foundation.specs.Pattern.{Lent}
use Rattle.foundation.specs.Plan.{Planning}
use Rattle.foundation.specs.PlanCall.{plan_answer}
use Rattle.foundation.specs.Printing.{answer_text, line_numbers, report, refused_line}
use Rattle.foundation.specs.RunCall.{Ran, run_answer}
use Rattle.foundation.proofs.Stores.{refused-from}
use Rattle.answers.specs.Answers.{counts_in}
use Rattle.answers.specs.Runs.{reason_number, outcome_of, run_answer_of}
use Rattle.answers.specs.declared.PlanCounts.{PlanCounts}
use Rattle.answers.specs.declared.RunAnswer.{RunAnswer}
use Rattle.answers.specs.declared.RunReason.{RunReason}
use Rattle.answers.specs.declared.RunOutcome.TheVariants.{Finished as RunFinished, Stopped}
use Rattle.job_print.specs.Appended.{Appended}
use Rattle.job_print.specs.Lines.{Finished}
use Rattle.numbers.specs.Numbered.{refusal_by}
use Rattle.numbers.specs.declared.refusals.NumberAndStep.{NumberAndStep}
use Rattle.job_report.specs.Reported.{Reported}

-- ---- the plan

halted_plan : (p : Lent) (a : Answer Planning) (number step : ℕ) → refused number step ≡ plan_answer p a → a ≡ refused number step
unfolding plan_answer and_then
halted_plan p (refused n s) number step e = cc
halted_plan p (granted x) number step e = let z : ◌≡◌ {A = ℕ} 0 1 = cc in absurd (omega arith)

-- no run follows a refusal of planning
pub plan-refused_put : {was now : List ℕ} {end : ℕ} (p : Lent) (a : Answer Planning) (after : Planning → Answer Ran) (t : NumberAndStep) → refusal_by t ≡ plan_answer p a
    → Appended was 0 (refused_line t.number t.step) now end → Appended was 0 (answer_text p (and_then a after)) now end
unfolding refusal_by answer_text and_then
plan-refused_put p a after t e put = rw (halted_plan p a t.number t.step e) put

-- ---- the run

-- a run that was answered with its updates is finished
finished : (a : Answer Ran) (updates : ℕ) → granted updates ≡ run_answer a → (r : Ran) × (a ≡ granted r) × (updates ≡ r.end.updates)
unfolding run_answer and_then
finished (refused number step) updates e = let z : ◌≡◌ {A = ℕ} 0 1 = cc in absurd (omega arith)
finished (granted r) updates e = (r, refl, cc)

module _ {was now : List ℕ} {end : ℕ} (p : Lent) (a : Answer Ran) (counts : PlanCounts) (answer : RunAnswer) (pivots : List ℕ) (x : List Float) (h : Reported p a counts answer pivots x) where
  -- a finished run
  pub finished_put : (updates : ℕ) (line : List ℕ) → answer.outcome ≡ RunFinished updates → line ≡ line_numbers (counts_in counts)
      → ((r : Ran) → Finished p r line pivots x updates → Appended was 0 (report p r) now end) → Appended was 0 (answer_text p a) now end
  unfolding run_answer_of outcome_of answer_text
  finished_put updates line e f put =
      let (r, is, sum) = finished a updates (rw e at h.answered) in
      rw is (put r (record { counted = f ∙ ap line_numbers (h.counted r is); chosen = h.chosen r is; solved = h.solved r is; summed = sum }))

  -- a run that stopped
  pub stopped_put : (reason : RunReason) (step number : ℕ) → answer.outcome ≡ Stopped reason step → number ≡ reason_number reason
      → Appended was 0 (refused_line number step) now end → Appended was 0 (answer_text p a) now end
  unfolding run_answer_of outcome_of answer_text
  stopped_put reason step number e f put = rw (refused-from a (reason_number reason) step (rw e at h.answered), ← f) put
