-- The tests before a run, one by one, and what is known where all pass.
use mathlib.Core.Bool.{Bool, true, false, ◌&&◌}
use mathlib.Core.List.{List}
use mathlib.Core.Path.{◌≡◌, sym, ap, ◌∙◌}
use Prim.Native.Nat.{ℕ, suc, ◌-◌}
use native.Mathlib.Omega.{arith}
use lib.Dec.{eqb, leb}
use lib.Ieee.{Float}
use lib.ListN.{length}
use borrow.Author.Tests.{eqb-true, eq-eqb, ne_eqb}
use Rattle.lists.specs.Functions.{all}
use Rattle.lists.proofs.Members.{by_test, same_test}
use Rattle.foundation.specs.Answer.{Answer, refused, granted, and_then}
use Rattle.foundation.specs.Numbers.{finite}
use Rattle.foundation.specs.Pattern.{Lent, Pattern, pattern_of}
use Rattle.foundation.specs.Plan.{Planning, plan}
use Rattle.foundation.specs.PlanCall.{WorkSizes, held_if}
use Rattle.foundation.specs.Reference.{Choice, Extent}
use Rattle.foundation.specs.RunCall.{Lending, lending_fits, all_finite, rows_in_range, choice_fits, extent_fits, order_fits, may_run}
use Rattle.answers.specs.Answers.{verify_answer}
use Rattle.answers.specs.declared.VerifyAnswer.{VerifyAnswer}
use Rattle.answers.specs.Runs.{chosen_by, reason_number, extent_of}
use Rattle.answers.specs.declared.Extent.{Extent as RunExtent}
use Rattle.answers.specs.declared.Extent.TheVariants.{Whole, Cut}
use Rattle.answers.specs.declared.RunReason.{RunReason}
use Rattle.answers.specs.declared.PivotChoice.{PivotChoice}
use Rattle.answers.specs.declared.PivotChoice.TheVariants.{Largest, Listed}
use Rattle.run_judge.specs.Sizes.{Sizes}
use Rattle.run_judge.specs.Judgement.{judgement_of, plan_judgement, floats_fit, with_floats, in_order, tested, JudgeAsks}
use Rattle.run_judge.specs.declared.judging.Judgement.{Judgement}
use Rattle.run_judge.specs.declared.judging.Judgement.TheVariants.{MayRun, Refused}
use Rattle.run_judge.proofs.Resized.{judgement_held}
use Rattle.run_judge.proofs.Verified.{Verified, held_is, verified_from, slots-counted}

-- ---- refusal 6, of the two f64 stores

pub floats_first : (height copy dense : ℕ) → (copy ≡ height → ⊥) → false ≡ floats_fit height copy dense
unfolding floats_fit
floats_first height copy dense h = rw (ne_eqb height copy (λ e. h (sym e)))

pub floats_none : (height copy dense : ℕ) → dense ≡ 0 → false ≡ floats_fit height copy dense
unfolding floats_fit
floats_none height copy dense h = by_test (eqb height copy) (λ e. rw (e, ne_eqb (suc height) dense (λ q. omega arith))) (λ e. rw e)

pub floats-second : (height copy dense : ℕ) → copy ≡ height → (dense ≡ 0 → ⊥) → eqb (dense - 1) height ≡ floats_fit height copy dense
unfolding floats_fit
floats-second height copy dense same some =
    rw (eq-eqb height copy (sym same))
    (same_test (eqb (dense - 1) height) (eqb (suc height) dense) (λ e. eq-eqb (suc height) dense (omega (arith, eqb-true (dense - 1) height e)))
    (λ e. eq-eqb (dense - 1) height (omega (arith, eqb-true (suc height) dense e))))

-- ---- refusal 26

pub may-whole : (e : RunExtent) (p : Lent) (n height : ℕ) → e ≡ Whole → p.n ≡ n → p.height ≡ height → leb height n ≡ may_run p (extent_of e)
unfolding may_run extent_of
may-whole e p n height is width tall = rw (is, width, tall)

pub may-cut : (e : RunExtent) (p : Lent) (steps : ℕ) → e ≡ Cut steps → true ≡ may_run p (extent_of e)
unfolding may_run extent_of
may-cut e p steps is = rw is

-- ---- refusal 12

pub list_none : (b : PivotChoice) (rows : List ℕ) (p : Pattern) → b ≡ Largest → true ≡ choice_fits p (chosen_by b rows)
unfolding choice_fits chosen_by
list_none b rows p e = rw e

pub list_long : (b : PivotChoice) (rows : List ℕ) (p : Pattern) (n : ℕ) → b ≡ Listed → (length rows ≡ n → ⊥) → p.n ≡ n → false ≡ choice_fits p (chosen_by b rows)
unfolding choice_fits chosen_by
list_long b rows p n e h width = rw (e, ne_eqb (length rows) p.n (λ q. h (q ∙ width)))

pub list_range : (b : PivotChoice) (rows : List ℕ) (p : Pattern) (n height : ℕ) (r : Bool) → b ≡ Listed → length rows ≡ n → p.n ≡ n → p.height ≡ height → r ≡ rows_in_range height 1 rows
    → r ≡ choice_fits p (chosen_by b rows)
unfolding choice_fits chosen_by
list_range b rows p n height r e h width tall is = rw (e, eq-eqb (length rows) p.n (h ∙ sym width)) (is ∙ ap (λ (m : ℕ). rows_in_range m 1 rows) (sym tall))

pub cut-whole : (e : RunExtent) (p : Pattern) → e ≡ Whole → true ≡ extent_fits p (extent_of e)
unfolding extent_fits extent_of
cut-whole e p is = rw is

pub cut-steps : (e : RunExtent) (p : Pattern) (n steps : ℕ) → e ≡ Cut steps → p.n ≡ n → leb steps n ≡ extent_fits p (extent_of e)
unfolding extent_fits extent_of
cut-steps e p n steps is width = rw is (ap (leb steps) (sym width))

-- the pattern of a lent one has its columns and rows
pub pattern-width : (p : Lent) {n : ℕ} → p.n ≡ n → (pattern_of p).n ≡ n
unfolding pattern_of
pattern-width p e = e

pub pattern-height : (p : Lent) {height : ℕ} → p.height ≡ height → (pattern_of p).height ≡ height
unfolding pattern_of
pattern-height p e = e

-- ---- the tests

-- a refusal stays one, whatever would follow
refused-stays : (a : Answer Planning) (f : Planning → Answer (Unit {0})) (number step : ℕ) → verify_answer a ≡ refused number step → and_then a f ≡ refused number step
unfolding verify_answer and_then
refused-stays (refused m k) f number step e = e
refused-stays (granted s) f number step e = let z : ◌≡◌ {A = ℕ} 0 1 = cc in absurd (omega arith)

module _ {verified : VerifyAnswer} {n height entries l_slots u_slots : ℕ} (w : JudgeAsks verified n height entries l_slots u_slots) (copy dense : ℕ) (choice : Choice) (extent : Extent) (lending : Lending) where
  abbrev work : WorkSizes
  work = with_floats w.work copy dense

  abbrev answer : Answer (Unit {0})
  answer = tested w.most w.p w.q work choice extent lending

  -- planning's answer about the plan, 26 counted in
  abbrev planned : Answer Planning
  planned = held_if (may_run w.p extent) w.most w.p w.q work

  module _ (sized may : Bool) (judged : Judgement) (fits : sized ≡ floats_fit height copy dense) (runs : may ≡ may_run w.p extent) (is : judged ≡ plan_judgement verified sized may) where
    judgement_is : judgement_of judged ≡ verify_answer planned
    judgement_is =
        ap judgement_of (is ∙ ap (λ (b : Bool). plan_judgement verified b may) (fits ∙ ap (λ (m : ℕ). floats_fit m copy dense) (sym w.tall_is)))
        ∙ judgement_held w.most w.p w.q w.work verified copy dense may w.answered
        ∙ ap (λ (b : Bool). verify_answer (held_if b w.most w.p w.q work)) runs

    -- 1, 25, 2 to 6, 26 and 9
    pub test_plan : (reason : RunReason) → judged ≡ Refused reason → judgement_of (Refused reason) ≡ answer
    unfolding tested judgement_of
    test_plan reason refusal =
        let closed : verify_answer planned ≡ refused (reason_number reason) 0 = sym judgement_is ∙ ap judgement_of refusal in
        sym (refused-stays planned _ (reason_number reason) 0 closed)

    pub test_verified : judged ≡ MayRun → Verified (may_run w.p extent) w.most w.p w.q work
    unfolding judgement_of
    test_verified passed = verified_from _ w.most w.p w.q work (sym judgement_is ∙ ap judgement_of passed)

  module _ (v : Verified (may_run w.p extent) w.most w.p w.q work) where
    abbrev s : Planning
    s = plan (pattern_of w.p)

    answer_is : answer ≡ in_order (lending_fits w.p s lending) (all_finite lending) (order_fits (pattern_of w.p) choice extent)
    unfolding tested and_then
    answer_is = rw (held_is (may_run w.p extent) w.most w.p w.q work v)

    -- the numbers that 10 goes by
    pub lending_sizes : {values right solution pivots diagonal l_places u_places : ℕ} → length lending.values ≡ values → length lending.right ≡ right → lending.solution ≡ solution
        → lending.pivots ≡ pivots → lending.diagonal ≡ diagonal → lending.lower_slots ≡ l_places → lending.upper_slots ≡ u_places
        → Sizes w.p s lending n height entries values right solution pivots diagonal l_places u_places l_slots u_slots
    lending_sizes a b c d e f g =
        let counted = slots-counted (may_run w.p extent) w.most w.p w.q work v in
        record {
          width = w.width;
          tall_is = w.tall_is;
          entries_are = w.entries_are;
          values_are = a;
          right_are = b;
          solution_is = c;
          pivots_are = d;
          diagonal_is = e;
          lower_places_lem = f;
          upper_places_lem = g;
          lower_slots_lem = counted.0 ∙ w.l_slots_lem;
          upper_slots_lem = counted.1 ∙ w.u_slots_lem;
        }

    -- 10, 11 and 12, as the code finds them
    pub test_order : (judged : Judgement) (lends fine ordered : Bool) → judgement_of judged ≡ in_order lends fine ordered → lends ≡ lending_fits w.p s lending → fine ≡ all_finite lending
        → ordered ≡ order_fits (pattern_of w.p) choice extent → judgement_of judged ≡ answer
    test_order judged lends fine ordered is a b c =
        let same : in_order lends fine ordered ≡ in_order (lending_fits w.p s lending) (all_finite lending) (order_fits (pattern_of w.p) choice extent) = rw (a, b, c) in
        is ∙ same ∙ sym answer_is

-- each of 11 and 12 has two parts
pub finite_first : (xs ys : List Float) (r : Bool) → r ≡ all finite xs → r ≡ false → false ≡ (all finite xs && all finite ys)
finite_first xs ys r e f = rw (sym e ∙ f)

pub finite-second : (xs ys : List Float) (r r' : Bool) → r ≡ all finite xs → r ≡ true → r' ≡ all finite ys → r' ≡ (all finite xs && all finite ys)
finite-second xs ys r r' e f is = rw (sym e ∙ f) is

pub order_first : (p : Pattern) (choice : Choice) (extent : Extent) (r : Bool) → r ≡ choice_fits p choice → r ≡ false → false ≡ order_fits p choice extent
unfolding order_fits
order_first p choice extent r e f = rw (sym e ∙ f)

pub order-second : (p : Pattern) (choice : Choice) (extent : Extent) (r r' : Bool) → r ≡ choice_fits p choice → r ≡ true → r' ≡ extent_fits p extent → r' ≡ order_fits p choice extent
unfolding order_fits
order-second p choice extent r r' e f is = rw (sym e ∙ f) is
