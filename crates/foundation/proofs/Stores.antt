-- What an answer tells, and what the stores hold after a refusal and after a grant.
use mathlib.Core.List.{List}
use mathlib.Core.Path.{◌≡◌, refl, sym, ◌∙◌}
use Prim.Native.Nat.{ℕ}
use native.Mathlib.Omega.{arith}
use lib.ListN.{replicate}
use Rattle.lists.specs.Functions.{padded}
use Rattle.foundation.specs.Answer.{Answer, refused, granted, and_then, result_store, work_store}
use Rattle.foundation.specs.RunCall.{Ran, run_answer}

-- ---- answers

-- a refusal grants nothing
pub not-granted : {A B : Type 0} {b : B} (number step : ℕ) → ◌≡◌ {A = Answer B} (refused number step) (granted b) → A
not-granted number step e = let z : ◌≡◌ {A = ℕ} 0 1 = cc in absurd (omega arith)

-- an answer has one number, and grants nothing where it refuses
pub one_number_lem : {A B : Type 0} {a : Answer B} (n k : ℕ) → (n ≡ k → ⊥) → a ≡ refused n 0 → a ≡ refused k 0 → A
one_number_lem n k other p q = let same : n ≡ k = cc in absurd (other same)

pub not_both : {A B : Type 0} {a : Answer B} {n s : ℕ} {b : B} → a ≡ refused n s → a ≡ granted b → A
not_both {n = n} {s = s} p q = not-granted n s (sym p ∙ q)

-- what is granted is one thing
pub same_granted : {B : Type 0} (p q : B) → granted p ≡ granted q → p ≡ q
same_granted p q e = cc

-- where a part of what was granted is answered, what was answered with a refusal was refused
pub refused_of : {A B : Type 0} (part : A → B) (a : Answer A) (number step : ℕ) → and_then a (λ x. granted (part x)) ≡ refused number step → a ≡ refused number step
unfolding and_then
refused_of part (refused m k) number step e = cc
refused_of part (granted x) number step e = not-granted number step (sym e)

-- so was a run
pub refused-from : (a : Answer Ran) (number step : ℕ) → refused number step ≡ run_answer a → a ≡ refused number step
unfolding run_answer
refused-from a number step e = refused_of (λ r. r.end.updates) a number step (sym e)

-- ---- stores

module _ {ℓ κ} {A : Type ℓ} {B : Type κ} where
  -- after a refusal a result store holds blanks alone
  pub result_refused :
      (blank : B) (room : ℕ) (contents : A → List B) (number step : ℕ)
      → result_store blank room contents (refused number step) ≡ replicate room blank
  unfolding result_store
  result_refused blank room contents number step = refl

  -- after a grant a result store holds the result, filled up with blanks
  pub result_granted :
      (blank : B) (room : ℕ) (contents : A → List B) (a : A) → result_store blank room contents (granted a) ≡ padded blank room (contents a)
  unfolding result_store
  result_granted blank room contents a = refl

-- a work store holds zeros
pub work_blank {ℓ} : {A : Type ℓ} (blank : A) (room : ℕ) → work_store blank room ≡ replicate room blank
unfolding work_store
work_blank blank room = refl
