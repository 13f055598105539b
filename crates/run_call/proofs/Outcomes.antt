-- What a run answers and leaves: refused by a test, or as the reference goes.
use mathlib.Core.Bool.{true}
use mathlib.Core.List.{List, map}
use mathlib.Core.Path.{◌≡◌, refl, sym, ap, ◌∙◌}
use Prim.Native.Nat.{ℕ, suc, ◌≤◌}
use native.Mathlib.Numerals.{add-one}
use native.Mathlib.Omega.{arith}
use lib.Dec.{eqb, leb}
use lib.Ieee.{Float}
use lib.ListN.{length, replicate, length-map}
use borrow.Author.Tests.{eqb-true, leb-true}
use Rattle.lists.specs.Functions.{all, padded}
use Rattle.lists.specs.Sets.{upto}
use Rattle.lists.proofs.Members.{by_test, and_left, and_right}
use Rattle.lists.proofs.Places.{length-upto, padded-full}
use Rattle.foundation.specs.Answer.{Answer, refused, granted, refuse_if, and_then, result_store}
use Rattle.foundation.specs.Numbers.{plus_zero, finite}
use Rattle.foundation.specs.Pattern.{Lent, pattern_of}
use Rattle.foundation.specs.Plan.{Planning, lower, upper, plan}
use Rattle.foundation.specs.PlanCall.{LentPlan, WorkSizes, sizes_fit, held_if}
use Rattle.foundation.specs.Reference.{Choice, Extent, Reason, noPivot, notFinite, Course, number_of, reference}
use Rattle.foundation.specs.RunCall.{Lending, RunStores, lending_fits, all_finite, order_fits, may_run, value_at, right_at, course_answer, ran_with, ran, run_answer, slots_after, diagonal_after, solution_after, pivots_after, run_leaves}
use Rattle.foundation.specs.Shown.{shown, shown_diagonal}
use Rattle.foundation.specs.Slots.{slots_of}
use Rattle.foundation.proofs.Passing.{passes_plannable, passes_starts}
use Rattle.foundation.proofs.Stores.{not-granted}
use Rattle.answers.specs.Answers.{verify_answer}
use Rattle.answers.specs.declared.VerifyAnswer.{VerifyAnswer}
use Rattle.answers.specs.Runs.{reason_number, outcome_of}
use Rattle.answers.specs.declared.RunOutcome.{RunOutcome}
use Rattle.answers.specs.declared.RunOutcome.TheVariants.{Finished, Stopped}
use Rattle.answers.specs.declared.RunReason.{RunReason}
use Rattle.run_slots.specs.Handing.{Clear}
use Rattle.run_loop.specs.Running.{reason_of, RunAsks, Finishes, EndsAs, RunLeaves}
use Rattle.run_call.specs.Calling.{Inputs, lending_in, Given, ran_on, StoresAs, OutcomeLeft}
use Rattle.run_clear.specs.Blanks.{Blank}
use Rattle.run_clear.proofs.Stores.{same_stores}
use Rattle.run_judge.specs.Judgement.{judgement_of, floats_fit, with_floats, in_order, tested, JudgeAsks}
use Rattle.run_judge.specs.declared.judging.Judgement.{Judgement}
use Rattle.run_judge.specs.declared.judging.Judgement.TheVariants.{MayRun, Refused}
use Rattle.run_judge.proofs.Resized.{sizes_more}
use Rattle.run_judge.proofs.Verified.{Verified, held_is, verified_from}
use Rattle.run_call.proofs.Agreed.{agreed_layout}

-- ---- the tests and the run

-- all tests passed
pub record Passed (most : ℕ) (p : Lent) (q : LentPlan) (work : WorkSizes) (choice : Choice) (extent : Extent) (lending : Lending) : Type 0 where
  pub verified : Verified (may_run p extent) most p q work
  pub lends : lending_fits p (plan (pattern_of p)) lending ≡ true
  pub fine : all_finite lending ≡ true
  pub order : order_fits (pattern_of p) choice extent ≡ true

refused_consent : {A : Type 0} (number step : ℕ) → ◌≡◌ {A = Answer (Unit {0})} (granted tt) (refused number step) → A
refused_consent number step e = let z : ◌≡◌ {A = ℕ} 0 1 = cc in absurd (omega arith)

refused_as : {A : Type 0} (m k number step : ℕ) → ◌≡◌ {A = Answer (Unit {0})} (refused m k) (refused number step) → ◌≡◌ {A = Answer A} (refused m k) (refused number step)
refused_as m k number step e =
    let a : m ≡ number = cc in
    let b : k ≡ step = cc in
    rw (a, b)

-- what is granted in the end was granted before
granted-before : (a : Answer Planning) (f : Planning → Answer (Unit {0})) → and_then a f ≡ granted tt → verify_answer a ≡ granted tt
unfolding verify_answer and_then
granted-before (refused m k) f e = e
granted-before (granted s) f e = refl

module _ (most : ℕ) (p : Lent) (q : LentPlan) (work : WorkSizes) (choice : Choice) (extent : Extent) (lending : Lending) where
  pub passed_from : tested most p q work choice extent lending ≡ granted tt → Passed most p q work choice extent lending
  unfolding tested in_order refuse_if and_then
  passed_from e = at (verified_from (may_run p extent) most p q work (granted-before (held_if (may_run p extent) most p q work) _ e))
    where
      at : Verified (may_run p extent) most p q work → Passed most p q work choice extent lending
      at v =
          by_test (lending_fits p (plan (pattern_of p)) lending)
          (λ a.
          by_test (all_finite lending)
          (λ b.
          by_test (order_fits (pattern_of p) choice extent)
          (λ c. record { verified = v; lends = a; fine = b; order = c })
          (λ c. not-granted 12 0 (rw (held_is (may_run p extent) most p q work v, a, b, c) at e)))
          (λ b. not-granted 11 0 (rw (held_is (may_run p extent) most p q work v, a, b) at e)))
          (λ a. not-granted 10 0 (rw (held_is (may_run p extent) most p q work v, a) at e))

  -- refused by a test
  pub ran-refused : (number step : ℕ) → tested most p q work choice extent lending ≡ refused number step → ran most p q work choice extent lending ≡ refused number step
  unfolding tested in_order ran ran_with refuse_if and_then
  ran-refused number step e = at (held_if (may_run p extent) most p q work) e
    where
      at : (a : Answer Planning) → and_then a (λ s. in_order (lending_fits p s lending) (all_finite lending) (order_fits (pattern_of p) choice extent)) ≡ refused number step → and_then a (ran_with p choice extent lending) ≡ refused number step
      at (refused m k) e = refused_as m k number step e
      at (granted s) e =
          by_test (lending_fits p s lending)
          (λ a.
          by_test (all_finite lending)
          (λ b.
          by_test (order_fits (pattern_of p) choice extent)
          (λ c. refused_consent number step (rw (a, b, c) at e))
          (λ c. rw (a, b, c) (refused_as 12 0 number step (rw (a, b, c) at e))))
          (λ b. rw (a, b) (refused_as 11 0 number step (rw (a, b) at e))))
          (λ a. rw a (refused_as 10 0 number step (rw a at e)))

  -- as the reference goes
  pub ran_passed : Passed most p q work choice extent lending
      → ran most p q work choice extent lending ≡ course_answer (plan (pattern_of p)) (reference choice extent (pattern_of p) (value_at p lending.values) (right_at lending.right))
  unfolding ran ran_with refuse_if and_then
  ran_passed w = rw (held_is (may_run p extent) most p q work w.verified, w.lends, w.fine, w.order)

-- ---- what the run takes for granted

-- what 10 lets pass
record Lends (p : Lent) (s : Planning) (w : Lending) : Type 0 where
  values_size : length w.values ≡ length p.columns
  right_size : length w.right ≡ p.height
  solution_size : w.solution ≡ p.height
  pivots_size : w.pivots ≡ p.n
  diagonal_size : w.diagonal ≡ p.n
  lower_room : slots_of s lower p.n ≤ w.lower_slots
  upper_room : slots_of s upper p.n ≤ w.upper_slots

lends_from : (p : Lent) (s : Planning) (w : Lending) → lending_fits p s w ≡ true → Lends p s w
unfolding lending_fits
lends_from p s w e =
    let a = and_right (eqb (length w.values) (length p.columns)) _ e in
    let b = and_right (eqb (length w.right) p.height) _ a in
    let c = and_right (eqb w.solution p.height) _ b in
    let d = and_right (eqb w.pivots p.n) _ c in
    let f = and_right (eqb w.diagonal p.n) _ d in
    record {
      values_size = eqb-true _ _ (and_left (eqb (length w.values) (length p.columns)) _ e);
      right_size = eqb-true _ _ (and_left (eqb (length w.right) p.height) _ a);
      solution_size = eqb-true _ _ (and_left (eqb w.solution p.height) _ b);
      pivots_size = eqb-true _ _ (and_left (eqb w.pivots p.n) _ c);
      diagonal_size = eqb-true _ _ (and_left (eqb w.diagonal p.n) _ d);
      lower_room = leb-true _ _ (and_left (leb (slots_of s lower p.n) w.lower_slots) _ f);
      upper_room = leb-true _ _ (and_right (leb (slots_of s lower p.n) w.lower_slots) _ f);
    }

-- what 6 lets pass of the two f64 stores
floats-from : (most : ℕ) (p : Lent) (q : LentPlan) (work : WorkSizes) (copy dense : ℕ) → sizes_fit p q.stores (with_floats work copy dense) ≡ true → (copy ≡ p.height) × (dense ≡ suc p.height)
unfolding floats_fit
floats-from most p q work copy dense e =
    let both = and_right (sizes_fit p q.stores work) _ (sym (sizes_more most p q work copy dense) ∙ e) in
    (sym (eqb-true p.height copy (and_left (eqb p.height copy) _ both)), sym (eqb-true (suc p.height) dense (and_right (eqb p.height copy) _ both)))

-- ---- how a course ended, as an outcome and in the stores

-- the answer's reasons have the reference's numbers
reason_numbered : (why : Reason) → reason_number (reason_of why) ≡ number_of why
unfolding reason_number reason_of number_of
reason_numbered noPivot = refl
reason_numbered notFinite = refl

-- a store that is full has nothing behind it
full-store : (f : ℕ → Float) (n room : ℕ) (store : List Float) → store ≡ map f (upto n) → room ≡ n → store ≡ padded plus_zero room (map f (upto n))
full-store f n room store e size =
    let long : length (map f (upto n)) ≡ room = length-map (upto n) f ∙ length-upto n ∙ sym size in
    e ∙ sym (padded-full plus_zero (map f (upto n))) ∙ ap (λ (m : ℕ). padded plus_zero m (map f (upto n))) long

module _ (s : Planning) (i : Inputs) (stores : RunStores) (course : Course)
    (d_size : length stores.diagonal ≡ i.p.n) (x_size : length stores.solution ≡ i.p.height) (pivots_size : length stores.pivots ≡ i.p.n)
    (stores' : RunStores) (l_size : length stores'.lower_slots ≡ length stores.lower_slots) (u_size : length stores'.upper_slots ≡ length stores.upper_slots) where
  finished-stores : (updates : ℕ) → Finishes s i.p.n i.p.height course updates stores' → stores' ≡ run_leaves i.p (lending_in i stores) (course_answer s course)
  unfolding run_leaves slots_after diagonal_after solution_after pivots_after result_store course_answer shown_diagonal
  finished-stores updates w =
      rw w.course_is
      (same_stores
      (w.shows.lowers.holds ∙ ap (λ (m : ℕ). padded plus_zero m (shown s lower i.p.n w.g.square)) l_size)
      (w.shows.uppers.holds ∙ ap (λ (m : ℕ). padded plus_zero m (shown s upper i.p.n w.g.square)) u_size)
      (full-store (λ j. w.g.square j j) i.p.n (length stores.diagonal) stores'.diagonal w.shows.diagonal d_size)
      (full-store w.g.right i.p.height (length stores.solution) stores'.solution w.shows.rights x_size)
      (w.pivots_are ∙ ap (λ (m : ℕ). padded 0 m w.g.pivots) (sym pivots_size)))

  pub ends_left : (r : RunOutcome) → EndsAs r s i.p.n i.p.height course stores'
      → (outcome_of r ≡ run_answer (course_answer s course)) × StoresAs r i.p (lending_in i stores) (course_answer s course) stores'
  unfolding outcome_of run_answer course_answer and_then
  ends_left (Finished updates) w = (rw w.course_is (ap granted w.counted), finished-stores updates w)
  ends_left (Stopped reason k) w = (rw (w.course_is, w.named) (ap (λ (number : ℕ). refused number k) (reason_numbered w.why)), tt)

-- ---- a run in cleared stores

module _ (i : Inputs) (stores : RunStores) (copy dense : List Float) where
  -- all tests passed by what is lent
  abbrev AllPassed : ℕ → WorkSizes → Type 0
  AllPassed most work = Passed most i.p i.q (with_floats work (length copy) (length dense)) i.choice i.extent (lending_in i stores)

  abbrev Asks : Type 0
  Asks = RunAsks i.p i.values i.right i.q.stores i.choice i.extent stores copy dense

  -- what the run then takes for granted
  pub passed_asks : (most : ℕ) (work : WorkSizes) → AllPassed most work → Blank stores → Clear dense → Asks
  unfolding all_finite Clear
  passed_asks most work w blank clear =
      let lends = lends_from i.p (plan (pattern_of i.p)) (lending_in i stores) w.lends in
      let floats = floats-from most i.p i.q work (length copy) (length dense) w.verified.sizes in
      record {
        load = record {
          s = plan (pattern_of i.p);
          plannable = passes_plannable most i.p w.verified.passes;
          starts_fitting = passes_starts most i.p w.verified.passes;
          layout = agreed_layout most i.p i.q w.verified.passes w.verified.same_plan;
          values_size = lends.values_size;
          right_size = lends.right_size;
          l_size = lends.lower_room;
          u_size = lends.upper_room;
          d_size = lends.diagonal_size;
          x_size = lends.solution_size;
          l_clear = ap (λ (z : RunStores). z.lower_slots) blank;
          u_clear = ap (λ (z : RunStores). z.upper_slots) blank;
        };
        values-finite = and_left (all finite i.values) (all finite i.right) w.fine;
        right_finite = and_right (all finite i.values) (all finite i.right) w.fine;
        order = w.order;
        may = w.verified.may_be;
        copy_size = floats.0;
        dense_size = floats.1 ∙ sym (add-one i.p.height);
        clear = clear;
        pivots_blank = ap (λ (z : RunStores). z.pivots) blank ∙ ap (λ (m : ℕ). replicate m 0) lends.pivots_size;
      }

  module _ {verified : VerifyAnswer} (g : Given verified i) where
    -- what the tests are told
    judge_asks : JudgeAsks verified i.p.n i.p.height (length i.p.columns) i.q.counts.lower_slots i.q.counts.upper_slots
    judge_asks = record {
      most = g.most;
      p = i.p;
      q = i.q;
      work = g.work;
      answered = g.answered;
      width = refl;
      tall_is = refl;
      entries_are = refl;
      l_slots_lem = refl;
      u_slots_lem = refl;
    }

    -- what they say
    abbrev pub Says : Judgement → Type 0
    Says judged =
        (w : JudgeAsks verified i.p.n i.p.height (length i.p.columns) i.q.counts.lower_slots i.q.counts.upper_slots)
        → judgement_of judged ≡ tested w.most w.p w.q (with_floats w.work (length copy) (length dense)) i.choice i.extent (lending_in i stores)

    pub all_passed : Says MayRun → AllPassed g.most g.work
    unfolding judge_asks judgement_of
    all_passed says =
        passed_from g.most i.p i.q (with_floats g.work (length copy) (length dense)) i.choice i.extent (lending_in i stores) (sym (says judge_asks))

    -- a test refused
    pub refused_left : {reason : RunReason} → Says (Refused reason) → (results' : RunStores) → OutcomeLeft (Stopped reason 0) verified i g stores copy dense results'
    unfolding judge_asks judgement_of outcome_of run_answer and_then
    refused_left {reason} says results' =
        let refusal : ran_on g.most g.work i stores copy dense ≡ refused (reason_number reason) 0 =
        ran-refused g.most i.p i.q (with_floats g.work (length copy) (length dense)) i.choice i.extent (lending_in i stores) (reason_number reason) 0 (sym (says judge_asks)) in
        record { answer = rw refusal; results_left = tt }

    -- the run went
    pub planned_left : Says MayRun → Blank stores → Clear dense → (r : RunOutcome) (stores' : RunStores)
        → ((v : Asks) → RunLeaves r i.p i.values i.right i.q.stores i.choice i.extent stores copy dense stores' v)
        → length stores'.lower_slots ≡ length stores.lower_slots → length stores'.upper_slots ≡ length stores.upper_slots
        → OutcomeLeft r verified i g stores copy dense stores'
    unfolding passed_asks
    planned_left says blank clear r stores' leaves l_size u_size =
        let passed = all_passed says in
        let went = ran_passed g.most i.p i.q (with_floats g.work (length copy) (length dense)) i.choice i.extent (lending_in i stores) passed in
        let lends = lends_from i.p (plan (pattern_of i.p)) (lending_in i stores) passed.lends in
        let left = ends_left (plan (pattern_of i.p)) i stores
        (reference i.choice i.extent (pattern_of i.p) (value_at i.p i.values) (right_at i.right))
        lends.diagonal_size lends.solution_size lends.pivots_size stores' l_size u_size r (leaves (passed_asks g.most g.work passed blank clear)) in
        record { answer = left.0 ∙ ap run_answer (sym went); results_left = rw went left.1 }
