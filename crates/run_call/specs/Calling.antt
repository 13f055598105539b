-- The run between planning's answer and the caller's stores: what it is given, and what it leaves.
use Rattle.std.specs.Prelude.{List, ◌≡◌, ℕ, Float, length}
use Rattle.foundation.specs.Answer.{Answer, work_store}
use Rattle.foundation.specs.Numbers.{plus_zero}
use Rattle.foundation.specs.Pattern.{Lent}
use Rattle.foundation.specs.PlanCall.{LentPlan, WorkSizes, held}
use Rattle.foundation.specs.Reference.{Choice, Extent}
use Rattle.foundation.specs.RunCall.{Lending, Ran, RunStores, ran, run_answer, run_leaves}
use Rattle.answers.specs.Answers.{verify_answer_of, verify_answer}
use Rattle.answers.specs.Runs.{outcome_of, run_answer_of}
use Rattle.answers.specs.RunStores.{lending_of}
use Rattle.answers.specs.declared.VerifyAnswer.{VerifyAnswer}
use Rattle.answers.specs.declared.RunAnswer.{RunAnswer}
use Rattle.answers.specs.declared.RunOutcome.{RunOutcome}
use Rattle.answers.specs.declared.RunOutcome.TheVariants.{Finished, Stopped}
use Rattle.run_judge.specs.Judgement.{with_floats}

-- what a run is asked: the pattern, the lent plan, values and right side, whose rows are chosen, and how far it goes
pub record Inputs : Type 0 where
  pub p : Lent
  pub q : LentPlan
  pub values : List Float
  pub right : List Float
  pub choice : Choice
  pub extent : Extent

abbrev pub inputs : (p : Lent) (q : LentPlan) (values right : List Float) (choice : Choice) (extent : Extent) → Inputs
inputs p q values right choice extent = record { p = p; q = q; values = values; right = right; choice = choice; extent = extent }

-- what is known when planning has answered about the lent plan
pub record Given (verified : VerifyAnswer) (i : Inputs) : Type 0 where
  pub most : ℕ
  pub work : WorkSizes
  pub answered : verify_answer_of verified ≡ verify_answer (held most i.p i.q work)

-- what is lent to it, by its result stores
abbrev pub lending_in : Inputs → RunStores → Lending
lending_in i results = lending_of i.values i.right results.lower_slots results.upper_slots results.diagonal results.solution results.pivots

-- the run's answer, by the lengths of the stores
abbrev pub ran_on : ℕ → WorkSizes → Inputs → (results : RunStores) (copy dense : List Float) → Answer Ran
ran_on most work i results copy dense = ran most i.p i.q (with_floats work (length copy) (length dense)) i.choice i.extent (lending_in i results)

-- The result stores of a run that finished; of one that stopped nothing is said, since who asked clears them.
abbrev pub StoresAs : RunOutcome → Lent → Lending → Answer Ran → RunStores → Type 0
StoresAs (Finished updates) p lending answer stores = stores ≡ run_leaves p lending answer
StoresAs (Stopped reason step) p lending answer stores = Unit {0}

-- What a run leaves in cleared stores: its outcome, and its result stores if it finished.
pub record OutcomeLeft (r : RunOutcome) (verified : VerifyAnswer) (i : Inputs) (g : Given verified i) (results : RunStores) (copy dense : List Float) (results' : RunStores) : Type 0 where
  pub answer : outcome_of r ≡ run_answer (ran_on g.most g.work i results copy dense)
  pub results_left : StoresAs r i.p (lending_in i results) (ran_on g.most g.work i results copy dense) results'

-- What a run leaves in the lent stores: its answer, its result stores, and the two f64 work stores.
pub record RunLeft (r : RunAnswer) (verified : VerifyAnswer) (i : Inputs) (g : Given verified i) (results : RunStores) (copy dense : List Float) (results' : RunStores) (copy' dense' : List Float) : Type 0 where
  pub answer : run_answer_of r ≡ run_answer (ran_on g.most g.work i results copy dense)
  pub results_left : results' ≡ run_leaves i.p (lending_in i results) (ran_on g.most g.work i results copy dense)
  pub copy_left : copy' ≡ work_store plus_zero (length copy)
  pub dense_left : dense' ≡ work_store plus_zero (length dense)
