-- Planning's answer about the lent plan, once the two further work stores and 26 are counted in.
use mathlib.Core.Bool.{Bool, true, false, not, cond, ◌&&◌, ◌||◌, true≢false}
use mathlib.Core.Logic.{⊎_elim}
use mathlib.Core.Path.{◌≡◌, refl, ap, ◌∙◌}
use Prim.Native.Nat.{ℕ, suc, ◌≤◌}
use native.Mathlib.Omega.{arith}
use lib.Dec.{eqb}
use borrow.Author.Tests.{ne_eqb}
use Rattle.lists.specs.Functions.{all}
use Rattle.lists.proofs.Members.{by_test, all_snoc}
use Rattle.foundation.specs.Answer.{Answer, refused, granted, refuse_if, and_then}
use Rattle.foundation.specs.Pattern.{Lent, pattern_of, pattern_fault, judged}
use Rattle.foundation.specs.Plan.{Planning, plan}
use Rattle.foundation.specs.PlanCall.{LentPlan, WorkSizes, work_fits, sizes_fit, starts_sized, agrees, held_if, held}
use Rattle.foundation.proofs.Passing.{fault-known}
use Rattle.answers.specs.Answers.{refusal_of, verify_answer_of, verify_answer}
use Rattle.answers.specs.declared.Refusal.TheVariants.{Limits, Height, Starts, Column, Order, Diagonal, Stores, LowerRoom, UpperRoom, OtherPlan}
use Rattle.answers.specs.declared.VerifyAnswer.{VerifyAnswer}
use Rattle.answers.specs.declared.VerifyAnswer.TheVariants.{Agrees, Refused as NotVerified}
use Rattle.answers.specs.Runs.{reason_number}
use Rattle.run_judge.specs.Judgement.{judgement_of, compared_plan, plan_judgement, floats_fit, with_floats}

-- ---- the answer about a lent plan

-- whether an answer was given by comparing plans: consent, or 9
unfoldable compares : Answer (Unit {0}) → Bool
compares (granted u) = true
compares (refused number step) = eqb number 9

-- An answer with two more work stores looked at, and whether the run may be: 6, then 26, unless an earlier one was given.
unfoldable resized : (sized may : Bool) → Answer (Unit {0}) → Answer (Unit {0})
resized sized may answer = cond (compares answer) (refuse_if (not sized) 6 (refuse_if (not may) 26 answer)) answer

-- whether an answer is 7 or 8
unfoldable for_room : Answer (Unit {0}) → Bool
for_room (granted u) = false
for_room (refused number step) = eqb number 7 || eqb number 8

compared_resized : (same sized may : Bool) → judgement_of (compared_plan sized may same) ≡ refuse_if (not sized) 6 (refuse_if (not may) 26 (refuse_if (not same) 9 (granted tt)))
unfolding judgement_of compared_plan refuse_if reason_number
compared_resized same false may = refl
compared_resized same true false = refl
compared_resized false true true = refl
compared_resized true true true = refl

judgement_resized : (v : VerifyAnswer) (sized may : Bool) → for_room (verify_answer_of v) ≡ false → judgement_of (plan_judgement v sized may) ≡ resized sized may (verify_answer_of v)
unfolding judgement_of plan_judgement compares resized for_room refuse_if verify_answer_of refusal_of reason_number
judgement_resized Agrees sized may h = compared_resized true sized may
judgement_resized (NotVerified Limits) sized may h = refl
judgement_resized (NotVerified Height) sized may h = refl
judgement_resized (NotVerified Starts) sized may h = refl
judgement_resized (NotVerified Column) sized may h = refl
judgement_resized (NotVerified Order) sized may h = refl
judgement_resized (NotVerified Diagonal) sized may h = refl
judgement_resized (NotVerified Stores) sized may h = refl
judgement_resized (NotVerified (LowerRoom k)) sized may h = absurd (true≢false h)
judgement_resized (NotVerified (UpperRoom k)) sized may h = absurd (true≢false h)
judgement_resized (NotVerified OtherPlan) sized may h = compared_resized false sized may

-- 6 and 26 before an answer are 6 and 26 before what it says
tests_first : (sized may : Bool) (a : Answer Planning)
    → refuse_if (not sized) 6 (refuse_if (not may) 26 (verify_answer a)) ≡ verify_answer (refuse_if (not sized) 6 (refuse_if (not may) 26 a))
unfolding verify_answer and_then refuse_if
tests_first false may a = refl
tests_first true false a = refl
tests_first true true a = refl

-- two more work stores: their lengths are two more tests of 6
and_out : (a b c d e f g : Bool) → a && (b && ((c && f) && ((d && g) && e))) ≡ (a && (b && (c && (d && e)))) && (f && g)
and_out false b c d e f g = refl
and_out true false c d e f g = refl
and_out true true false d e f g = refl
and_out true true true d e false g = by_test (d && e) (λ h. rw h) (λ h. rw h)
and_out true true true false e true g = refl
and_out true true true true e true false = by_test e (λ h. rw h) (λ h. rw h)
and_out true true true true e true true = by_test e (λ h. rw h) (λ h. rw h)

module _ (most : ℕ) (p : Lent) (q : LentPlan) (work : WorkSizes) where
  pub sizes_more : (copy dense : ℕ) → sizes_fit p q.stores (with_floats work copy dense) ≡ sizes_fit p q.stores work && floats_fit p.height copy dense
  unfolding sizes_fit work_fits floats_fit
  sizes_more copy dense =
      rw (all_snoc (eqb p.height) work.of_height copy, all_snoc (eqb (suc p.height)) work.of_height_plus_one dense)
      (and_out (starts_sized p q.stores.lower_side) (starts_sized p q.stores.upper_side) (all (eqb p.height) work.of_height) (all (eqb (suc p.height)) work.of_height_plus_one) _ (eqb p.height copy) (eqb (suc p.height) dense))

  -- no fault of a pattern has a number from 6 to 24
  no_fault : (number : ℕ) → 6 ≤ number → number ≤ 24 → eqb (pattern_fault most p) number ≡ false
  no_fault number low high =
      ne_eqb (pattern_fault most p) number
      (λ e. ⊎_elim (λ (h : pattern_fault most p ≤ 5). omega arith) (λ (h : pattern_fault most p ≡ 25). omega arith) (fault-known most p))

  -- 7 and 8 are no answers about a lent plan
  no_room : for_room (verify_answer (held most p q work)) ≡ false
  unfolding verify_answer held held_if judged for_room and_then refuse_if
  no_room =
      by_test (eqb (pattern_fault most p) 0)
      (λ e.
      rw e
      (by_test (sizes_fit p q.stores work)
      (λ f. rw f (by_test (agrees p (plan (pattern_of p)) q) (λ g. rw g) (λ g. rw g)))
      (λ f. rw f)))
      (λ e. rw (e, no_fault 7 (omega arith) (omega arith), no_fault 8 (omega arith) (omega arith)))

  resize_held : (copy dense : ℕ) (may : Bool) → resized (floats_fit p.height copy dense) may (verify_answer (held most p q work)) ≡ verify_answer (held_if may most p q (with_floats work copy dense))
  unfolding verify_answer held held_if judged compares resized and_then refuse_if
  resize_held copy dense may =
      by_test (eqb (pattern_fault most p) 0)
      (λ e.
      rw (e, sizes_more copy dense)
      (by_test (sizes_fit p q.stores work)
      (λ f.
      rw f
      (by_test (agrees p (plan (pattern_of p)) q)
      (λ g. rw g (tests_first (floats_fit p.height copy dense) may (granted (plan (pattern_of p)))))
      (λ g. rw g (tests_first (floats_fit p.height copy dense) may (refused 9 0)))))
      (λ f. rw f)))
      (λ e. rw (e, no_fault 9 (omega arith) (omega arith)))

  -- Planning's answer, the two lengths and whether the run may be come to the answer about all work stores, 26 before 9.
  pub judgement_held : (v : VerifyAnswer) (copy dense : ℕ) (may : Bool) → verify_answer_of v ≡ verify_answer (held most p q work)
      → judgement_of (plan_judgement v (floats_fit p.height copy dense) may) ≡ verify_answer (held_if may most p q (with_floats work copy dense))
  judgement_held v copy dense may e =
      judgement_resized v (floats_fit p.height copy dense) may (ap for_room e ∙ no_room) ∙ ap (resized (floats_fit p.height copy dense) may) e
      ∙ resize_held copy dense may
