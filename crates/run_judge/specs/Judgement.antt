-- The tests before a run: 1, 25, 2 to 6 and 9 by planning's answer about the lent plan, 26 before 9, then 10, 11 and 12.
use Rattle.std.specs.Prelude.{Bool, true, false, not, ◌&&◌, [], ◌∷◌, ◌++◌, ◌≡◌, ℕ, suc, eqb, length}
use Rattle.foundation.specs.Answer.{Answer, refused, granted, refuse_if, and_then}
use Rattle.foundation.specs.Pattern.{Lent, pattern_of}
use Rattle.foundation.specs.PlanCall.{LentPlan, WorkSizes, held_if, held}
use Rattle.foundation.specs.Reference.{Choice, Extent}
use Rattle.foundation.specs.RunCall.{Lending, lending_fits, all_finite, order_fits, may_run}
use Rattle.answers.specs.Answers.{verify_answer_of, verify_answer}
use Rattle.answers.specs.declared.Refusal.TheVariants.{Limits, Height, Starts, Column, Order, Diagonal, Stores, LowerRoom, UpperRoom, OtherPlan}
use Rattle.answers.specs.declared.VerifyAnswer.{VerifyAnswer}
use Rattle.answers.specs.declared.VerifyAnswer.TheVariants.{Agrees, Refused as NotVerified}
use Rattle.answers.specs.Runs.{reason_number}
use Rattle.answers.specs.declared.RunReason.TheVariants.{Limits as NLimits, Height as NHeight, Starts as NStarts, Column as NColumn, Order as NOrder, Diagonal as NDiagonal, Stores as NStores, Tall as NTall, OtherPlan as NOtherPlan}
use Rattle.run_judge.specs.declared.judging.Judgement.{Judgement}
use Rattle.run_judge.specs.declared.judging.Judgement.TheVariants.{MayRun, Refused}

-- what the tests say: nothing is refused, or the refusal, at step 0
unfoldable pub judgement_of : Judgement → Answer (Unit {0})
judgement_of MayRun = granted tt
judgement_of (Refused reason) = refused (reason_number reason) 0

-- 6 of the two further work stores, 26 and 9, in the table's order, by what each test says: planning has compared the lent plan with the pattern's
unfoldable pub compared_plan : (sized may same : Bool) → Judgement
compared_plan false may same = Refused NStores
compared_plan true false same = Refused NTall
compared_plan true true false = Refused NOtherPlan
compared_plan true true true = MayRun

-- Planning's answer about the lent plan, whether the two further work stores have their lengths, and whether the run may be: 6 goes before 26, 26 before 9.
-- (7 and 8 are no answers about a lent plan.)
unfoldable pub plan_judgement : VerifyAnswer → (sized may : Bool) → Judgement
plan_judgement Agrees sized may = compared_plan sized may true
plan_judgement (NotVerified Limits) sized may = Refused NLimits
plan_judgement (NotVerified Height) sized may = Refused NHeight
plan_judgement (NotVerified Starts) sized may = Refused NStarts
plan_judgement (NotVerified Column) sized may = Refused NColumn
plan_judgement (NotVerified Order) sized may = Refused NOrder
plan_judgement (NotVerified Diagonal) sized may = Refused NDiagonal
plan_judgement (NotVerified Stores) sized may = Refused NStores
plan_judgement (NotVerified (LowerRoom k)) sized may = Refused NOtherPlan
plan_judgement (NotVerified (UpperRoom k)) sized may = Refused NOtherPlan
plan_judgement (NotVerified OtherPlan) sized may = compared_plan sized may false

-- Table, 6, of the two f64 work stores: "a work store in any call, has another length than its n, n+1 or entries"; ticket 9: "work stores (..) go by the
-- row count": they have a place for each row, and one more.
unfoldable pub floats_fit : (height copy dense : ℕ) → Bool
floats_fit height copy dense = eqb height copy && eqb (suc height) dense

abbrev pub with_floats : WorkSizes → ℕ → ℕ → WorkSizes
with_floats work copy dense = record { of_height = work.of_height ++ copy ∷ []; of_height_plus_one = work.of_height_plus_one ++ dense ∷ []; of_entries = work.of_entries }

-- 10, 11 and 12, in the table's order, by what each test says
unfoldable pub in_order : Bool → Bool → Bool → Answer (Unit {0})
in_order lends fine ordered = refuse_if (not lends) 10 (refuse_if (not fine) 11 (refuse_if (not ordered) 12 (granted tt)))

-- all tests before a run: planning's about the lent plan with 26 before 9, then these three
unfoldable pub tested : ℕ → Lent → LentPlan → WorkSizes → Choice → Extent → Lending → Answer (Unit {0})
tested most p q work choice extent w =
    and_then (held_if (may_run p extent) most p q work) (λ s. in_order (lending_fits p s w) (all_finite w) (order_fits (pattern_of p) choice extent))

-- What the tests are told: planning's answer, and the numbers that they go by.
pub record JudgeAsks (verified : VerifyAnswer) (n height entries l_slots u_slots : ℕ) : Type 0 where
  pub most : ℕ
  pub p : Lent
  pub q : LentPlan
  pub work : WorkSizes
  pub answered : verify_answer_of verified ≡ verify_answer (held most p q work)
  pub width : p.n ≡ n
  pub tall_is : p.height ≡ height
  pub entries_are : length p.columns ≡ entries
  pub l_slots_lem : q.counts.lower_slots ≡ l_slots
  pub u_slots_lem : q.counts.upper_slots ≡ u_slots
