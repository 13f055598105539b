-- What the two calls promise, whatever they are given: the answer, and what each lent store is afterwards.
use Rattle.std.specs.Prelude.{◌≡◌, ℕ}
use Rattle.foundation.specs.Pattern.{Lent}
use Rattle.foundation.specs.PlanCall.{PlanStores, LentPlan, planned, plan_answer, plan_leaves, held}
use Rattle.answers.specs.Answers.{answer_of, verify_answer_of, verify_answer}
use Rattle.answers.specs.Stores.{WorkStores, work_sizes, WorkLeft}
use Rattle.answers.specs.declared.PlanAnswer.{PlanAnswer}
use Rattle.answers.specs.declared.VerifyAnswer.{VerifyAnswer}

-- `plan`: the result stores and the work stores, as lent and afterwards (')
pub record PlanKept (r : PlanAnswer) (most : ℕ) (p : Lent) (stores stores' : PlanStores) (scratch scratch' : WorkStores) : Type 0 where
  -- the counts of the plan, or the refusal with its step
  pub answer : answer_of r ≡ plan_answer p (planned most p stores (work_sizes scratch))
  -- the plan and zeros behind it, or zeros throughout
  pub results : stores' ≡ plan_leaves p (planned most p stores (work_sizes scratch)) stores
  -- zeros
  pub work : WorkLeft scratch scratch'

-- `verify`: the lent plan, and the work stores as lent and afterwards (')
pub record VerifyKept (r : VerifyAnswer) (most : ℕ) (p : Lent) (q : LentPlan) (scratch scratch' : WorkStores) : Type 0 where
  -- that it is this pattern's plan, or the refusal
  pub answer : verify_answer_of r ≡ verify_answer (held most p q (work_sizes scratch))
  -- zeros
  pub work : WorkLeft scratch scratch'
