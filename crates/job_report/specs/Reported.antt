-- What the code has in hand when a run is over, by the run that it is.
use Rattle.std.specs.Prelude.{List, map, ◌≡◌, ℕ, Float}
use Rattle.lists.specs.Sets.{upto}
use Rattle.foundation.specs.Answer.{Answer, granted}
use Rattle.foundation.specs.Pattern.{Lent}
use Rattle.foundation.specs.PlanCall.{counts_of}
use Rattle.foundation.specs.RunCall.{Ran, run_answer}
use Rattle.answers.specs.Answers.{counts_in}
use Rattle.answers.specs.Runs.{run_answer_of}
use Rattle.answers.specs.declared.PlanCounts.{PlanCounts}
use Rattle.answers.specs.declared.RunAnswer.{RunAnswer}

-- the answer is that of the run `a` of p; if it is finished, then the counts are its plan's, and pivot rows and solution its own
pub record Reported (p : Lent) (a : Answer Ran) (counts : PlanCounts) (answer : RunAnswer) (pivots : List ℕ) (x : List Float) : Type 0 where
  pub answered : run_answer_of answer ≡ run_answer a
  pub counted : (r : Ran) → a ≡ granted r → counts_in counts ≡ counts_of p r.plan
  pub chosen : (r : Ran) → a ≡ granted r → pivots ≡ r.end.pivots
  pub solved : (r : Ran) → a ≡ granted r → x ≡ map r.end.right (upto p.n)
