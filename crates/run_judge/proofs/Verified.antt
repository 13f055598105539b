-- A lent plan that planning agrees with: the run's index stores are the plan's.
use mathlib.Core.Bool.{Bool, true}
use mathlib.Core.Path.{◌≡◌, sym}
use Prim.Native.Nat.{ℕ}
use lib.Dec.{eqb}
use lib.ListN.{length}
use borrow.Author.Tests.{eqb-true}
use Rattle.lists.proofs.Members.{by_test, and_left, and_right}
use Rattle.foundation.specs.Answer.{granted, refuse_if, and_then}
use Rattle.foundation.specs.Pattern.{Lent, pattern_of, pattern_fault, judged}
use Rattle.foundation.specs.Plan.{Planning, lower, upper, plan}
use Rattle.foundation.specs.PlanCall.{LentPlan, WorkSizes, subscripts, counts_of, same_counts, sizes_fit, agrees, held_if}
use Rattle.foundation.specs.Slots.{slots_of}
use Rattle.foundation.proofs.Stores.{not-granted}
use Rattle.answers.specs.Answers.{verify_answer}

-- ---- what planning's consent means

-- The pattern passes 1 to 5, the stores have their lengths, the run may be, and the lent plan is the pattern's.
pub record Verified (may : Bool) (most : ℕ) (p : Lent) (q : LentPlan) (work : WorkSizes) : Type 0 where
  pub passes : pattern_fault most p ≡ 0
  pub sizes : sizes_fit p q.stores work ≡ true
  pub may_be : may ≡ true
  pub same_plan : agrees p (plan (pattern_of p)) q ≡ true

module _ (may : Bool) (most : ℕ) (p : Lent) (q : LentPlan) (work : WorkSizes) where
  pub held_is : Verified may most p q work → held_if may most p q work ≡ granted (plan (pattern_of p))
  unfolding held_if judged and_then refuse_if
  held_is v = rw (v.passes, v.sizes, v.may_be, v.same_plan)

  pub verified_from : verify_answer (held_if may most p q work) ≡ granted tt → Verified may most p q work
  unfolding verify_answer held_if judged and_then refuse_if
  verified_from e =
      by_test (eqb (pattern_fault most p) 0)
      (λ a.
      by_test (sizes_fit p q.stores work)
      (λ b.
      by_test may
      (λ m.
      by_test (agrees p (plan (pattern_of p)) q)
      (λ c. record { passes = eqb-true (pattern_fault most p) 0 a; sizes = b; may_be = m; same_plan = c })
      (λ c. not-granted 9 0 (rw (a, b, m, c) at e)))
      (λ m. not-granted 26 0 (rw (a, b, m) at e)))
      (λ b. not-granted 6 0 (rw (a, b) at e)))
      (λ a. not-granted (pattern_fault most p) 0 (rw a at e))

module _ (may : Bool) (most : ℕ) (p : Lent) (q : LentPlan) (work : WorkSizes) (v : Verified may most p q work) where
  abbrev s : Planning
  s = plan (pattern_of p)

  -- the counts of slots are the plan's
  pub slots-counted : (slots_of s lower p.n ≡ q.counts.lower_slots) × (slots_of s upper p.n ≡ q.counts.upper_slots)
  unfolding agrees same_counts counts_of
  slots-counted =
      let a = and_left (same_counts q.counts (counts_of p s)) _ v.same_plan in
      let b = and_right (eqb q.counts.height p.height) _ (and_right (eqb q.counts.n p.n) _ a) in
      let c = and_right (eqb q.counts.entries (length p.columns)) _ b in
      let d = and_right (eqb q.counts.lower_subscripts (length (subscripts s lower p.n))) _ c in
      let e = and_right (eqb q.counts.upper_subscripts (length (subscripts s upper p.n))) _ d in
      let f = and_right (eqb q.counts.lower_slots (slots_of s lower p.n)) _ e in (
        sym (eqb-true q.counts.lower_slots (slots_of s lower p.n) (and_left (eqb q.counts.lower_slots (slots_of s lower p.n)) _ e)),
        sym (eqb-true q.counts.upper_slots (slots_of s upper p.n) (and_left (eqb q.counts.upper_slots (slots_of s upper p.n)) _ f)),
      )
