-- Orthogonal steps stay within the plan: the theorem about closed lists and steps on places, carried through every list of steps with what their vectors and the upper factor hold.
use mathlib.Core.Bool.{Bool, true, false, not, false≢true}
use mathlib.Core.List.{List}
use mathlib.Core.Logic.{inl, inr}
use mathlib.Core.Path.{◌≡◌, refl, sym, ap, ◌∙◌}
use Prim.Native.Nat.{ℕ, suc, ◌-◌, ◌≤◌, ◌<◌}
use native.Mathlib.Decide.{dec_lt}
use native.Mathlib.Omega.{arith}
use lib.Dec.{eqb}
use lib.ListN.{take, drop}
use borrow.Author.Tests.{eqb-true, eqb-false}
use Rattle.lists.specs.Sets.{member}
use Rattle.lists.proofs.Members.{by_test}
use Rattle.foundation.specs.Closed.{Closed, StepOn, Held, marked}
use Rattle.foundation.specs.Claims.Orthogonal.{WithinPlan, WrittenStays, OrthogonalSuffices, Replaces, StepLeaves, OrthogonalRunsOn}
use Rattle.foundation.specs.Facts.{Plannable, PlanFacts}
use Rattle.foundation.specs.Orthogonal.{OrthogonalStep, OrthogonalState, orthogonal_start, orthogonal_taken, orthogonal_step, orthogonal_run, orthogonal_after}
use Rattle.foundation.specs.Pattern.{Lent, Pattern, present, pattern_of, pattern_fault}
use Rattle.foundation.specs.Plan.{lower, upper, list, plan}
use Rattle.foundation.specs.Slots.{has_slot}
use Rattle.foundation.specs.Square.{Square, placed}
use Rattle.foundation.proofs.Containment.{involved_from, contained, held_at_start, held_after_step, involved_at, involved_now}
use Rattle.foundation.proofs.FreeSteps.{marked-present, present-inside}
use Rattle.foundation.proofs.Inside.{Inside, involved_or-not, inside-after_step}
use Rattle.foundation.proofs.OrthogonalSteps.{Brings, taken-says, leaves, unchanged, Cleared, none_before, orthogonal_on, clears}
use Rattle.foundation.proofs.StepLists.{run_keeps, run_append, after-later}

-- ---- what was written stays

module _ {A : Type 0} (is_zero : A → Bool) (p : Pattern) where
  -- a step, taken or refused, leaves what the steps before k wrote, and k does not fall
  step_stays : (s : OrthogonalState A) (step : OrthogonalStep A) → (s.k ≤ (orthogonal_step p is_zero s step).k) × WrittenStays s (orthogonal_step p is_zero s step)
  step_stays s step =
      by_test (orthogonal_taken p is_zero s step)
      (λ ok.
      let left : StepLeaves p is_zero s step (orthogonal_step p is_zero s step) = leaves is_zero p s step ok in (
        omega (arith, left.next_k),
        record {
          rows = λ l j h. left.other_rows l j (λ (v, range). omega (arith, involved_from s.k l (marked is_zero s.rows) v));
          vectors = λ i l h. left.other_vectors i l (λ (v, same). omega arith);
          factor = λ l j h. left.other_factor l j (λ same. omega arith);
        },
      ))
      (λ refused. rw (unchanged is_zero p s step refused) (omega arith, record { rows = λ l j h. refl; vectors = λ i l h. refl; factor = λ l j h. refl }))

  -- so does every list of steps
  run_stays : (s : OrthogonalState A) (steps : List (OrthogonalStep A)) → WrittenStays s (orthogonal_run p is_zero s steps)
  unfolding orthogonal_run
  run_stays s steps =
      (run_keeps (orthogonal_step p is_zero) (orthogonal_run p is_zero) (λ r. refl) (λ r step rest. refl) (λ r. (s.k ≤ r.k) × WrittenStays s r) later s steps
      (omega arith, record { rows = λ l j h. refl; vectors = λ i l h. refl; factor = λ l j h. refl })).1
    where
      later : (r : OrthogonalState A) (step : OrthogonalStep A) → (s.k ≤ r.k) × WrittenStays s r
          → (s.k ≤ (orthogonal_step p is_zero r step).k) × WrittenStays s (orthogonal_step p is_zero r step)
      later r step (grown, stayed) =
          let (further, stays) = step_stays r step in (
            omega arith,
            record {
              rows = λ l j h. stays.rows l j (omega arith) ∙ stayed.rows l j h;
              vectors = λ i l h. stays.vectors i l (omega arith) ∙ stayed.vectors i l h;
              factor = λ l j h. stays.factor l j (omega arith) ∙ stayed.factor l j h;
            },
          )

  -- from the first t steps to the first t'
  stays-later :
      (zero : A) (values : Square A) (steps : List (OrthogonalStep A)) (t t' : ℕ) → t ≤ t'
      → WrittenStays (orthogonal_after p is_zero zero values steps t) (orthogonal_after p is_zero zero values steps t')
  unfolding orthogonal_run orthogonal_after
  stays-later zero values steps t t' h =
      rw (after-later (orthogonal_step p is_zero) (orthogonal_run p is_zero) (λ s. refl) (λ s step rest. refl) (orthogonal_start p zero values) steps t t' h)
      (run_stays (orthogonal_after p is_zero zero values steps t) (take (t' - t) (drop t steps)))

-- A run goes on from where it came.
pub runs_on : OrthogonalRunsOn
unfolding OrthogonalRunsOn orthogonal_run orthogonal_after
runs_on p A is_zero = (
  λ s. (refl, λ step. refl, run_append (orthogonal_step p is_zero) (orthogonal_run p is_zero) (λ r. refl) (λ r step rest. refl) s),
  λ zero values steps t. refl,
)

-- ---- the invariant

-- How a state stands before its step k: the theorem's invariant holds of its nonzeros, all of them are in range and below the diagonal there are none before column k; vectors stand in
-- L, rows of the upper factor in U.
record Standing {A : Type 0} (is_zero : A → Bool) (p : Pattern) (L U : ℕ → List ℕ) (s : OrthogonalState A) : Type 0 where
  low : 1 ≤ s.k
  high : s.k ≤ suc p.n
  held : Held p L U s.k (marked is_zero s.rows)
  inside : Inside p.height p.n (marked is_zero s.rows)
  cleared : Cleared is_zero s.k s.rows
  vectors : (i l : ℕ) → is_zero (s.vectors i l) ≡ false → (1 ≤ l) × (l < s.k) × (member i (L l) ≡ true)
  factor : (l j : ℕ) → is_zero (s.factor l j) ≡ false → (1 ≤ l) × (l < s.k) × (member j (U l) ≡ true)
  factor_is_row : (l j : ℕ) → (1 ≤ l) × (l < s.k) → s.factor l j ≡ s.rows l j

module _ {A : Type 0} (is_zero : A → Bool) (p : Pattern) (tall : p.n ≤ p.height) {L U : ℕ → List ℕ} (closed : Closed p L U)
    (own_lower : (k : ℕ) → 1 ≤ k → k ≤ p.n → member k (L k) ≡ true) (own_upper : (k : ℕ) → 1 ≤ k → k ≤ p.n → member k (U k) ≡ true) where
  module _ (s : OrthogonalState A) (step : OrthogonalStep A) (ok : orthogonal_taken p is_zero s step ≡ true) (st : Standing is_zero p L U s) where
    abbrev after : OrthogonalState A
    after = orthogonal_step p is_zero s step

    said : (s.k ≤ p.n) × Brings is_zero p s step
    said = taken-says is_zero p s step ok

    left : StepLeaves p is_zero s step after
    left = leaves is_zero p s step ok

    on : StepOn s.k (marked is_zero s.rows) (marked is_zero after.rows)
    on = orthogonal_on is_zero p tall s step after said left st.inside st.cleared

    -- an involved row is in L_k
    in_lower : (i : ℕ) → Replaces is_zero s i → member i (L s.k) ≡ true
    in_lower i (inl e) = rw e (own_lower s.k st.low said.0)
    in_lower i (inr m) = (involved_at closed st.held on i s.k (inr m) (omega arith) m.1).0

    -- row k, as the step leaves it, is in U_k
    in_upper : (j : ℕ) → is_zero (after.rows s.k j) ≡ false → member j (U s.k) ≡ true
    in_upper j n =
        elim (dec_lt s.k j) [
          | yes right ↦ involved_now closed st.held on s.k j (inl refl) right (ap not n)
          | no x ↦ elim (dec_lt j s.k) [
            | yes before ↦
                absurd (false≢true (sym n ∙ none_before is_zero p tall s step after said left st.inside st.cleared s.k j (inl refl) before))
            | no y ↦
                let same : j ≡ s.k = omega arith in
                rw same (own_upper s.k st.low said.0)
          ]
        ]

    next_vectors : (i l : ℕ) → is_zero (after.vectors i l) ≡ false → (1 ≤ l) × (l < after.k) × (member i (L l) ≡ true)
    next_vectors i l n =
        by_test (eqb l s.k)
        (λ e.
        let same : l ≡ s.k = eqb-true l s.k e in
        elim (involved_or-not s.k i (marked is_zero s.rows)) [
          | inl v ↦ (omega (arith, same, st.low), omega (arith, same, left.next_k), rw same (in_lower i v))
          | inr nv ↦ earlier (λ (v, q). nv v)
        ])
        (λ e. earlier (λ (v, q). eqb-false l s.k e q))
      where
        earlier : (Replaces is_zero s i × (l ≡ s.k) → ⊥) → (1 ≤ l) × (l < after.k) × (member i (L l) ≡ true)
        earlier other = let (a, b, c) = st.vectors i l (ap is_zero (sym (left.other_vectors i l other)) ∙ n) in (a, omega (arith, b, left.next_k), c)

    next_factor : (l j : ℕ) → is_zero (after.factor l j) ≡ false → (1 ≤ l) × (l < after.k) × (member j (U l) ≡ true)
    next_factor l j n =
        by_test (eqb l s.k)
        (λ e.
        let same : l ≡ s.k = eqb-true l s.k e in
        let row : is_zero (after.factor s.k j) ≡ false = rw same at n in
        (omega (arith, same, st.low), omega (arith, same, left.next_k), rw same (in_upper j (ap is_zero (sym (left.factor j)) ∙ row))))
        (λ e.
        let (a, b, c) = st.factor l j (ap is_zero (sym (left.other_factor l j (eqb-false l s.k e))) ∙ n) in
        (a, omega (arith, b, left.next_k), c))

    next_factor_row : (l j : ℕ) → (1 ≤ l) × (l < after.k) → after.factor l j ≡ after.rows l j
    next_factor_row l j (from, to) =
        by_test (eqb l s.k)
        (λ e.
        let same : l ≡ s.k = eqb-true l s.k e in
        rw same (left.factor j))
        (λ e.
        let before : l < s.k = omega (arith, to, left.next_k, eqb-false l s.k e) in
        left.other_factor l j (eqb-false l s.k e)
        ∙ st.factor_is_row l j (from, before)
        ∙ sym (left.other_rows l j (λ (v, range). omega (arith, before, involved_from s.k l (marked is_zero s.rows) v))))

    stands-taken : Standing is_zero p L U after
    stands-taken =
        record {
          low = omega (arith, left.next_k);
          high = omega (arith, left.next_k, said.0);
          held = rw left.next_k (held_after_step closed s.k st.low st.held on);
          inside = inside-after_step p.height p.n s.k st.low (omega (arith, said.0)) said.0 on st.inside;
          cleared = rw left.next_k (clears is_zero p tall s step after said left st.inside st.cleared);
          vectors = next_vectors;
          factor = next_factor;
          factor_is_row = next_factor_row;
        }

  -- a step that is taken leaves a state that stands so, and a refused one changes nothing
  stands_next : (s : OrthogonalState A) (step : OrthogonalStep A) → Standing is_zero p L U s → Standing is_zero p L U (orthogonal_step p is_zero s step)
  stands_next s step st =
      by_test (orthogonal_taken p is_zero s step) (λ ok. stands-taken s step ok st) (λ refused. rw (unchanged is_zero p s step refused) st)

  -- the given numbers stand so, zero outside a pattern whose places are in range
  stands_first :
      Inside p.height p.n (present p) → (zero : A) → is_zero zero ≡ true → (values : Square A) → Standing is_zero p L U (orthogonal_start p zero values)
  unfolding orthogonal_start
  stands_first inside zero z values =
      let given : (i j : ℕ) → marked is_zero (placed p zero values) i j ≡ true → present p i j ≡ true = marked-present p is_zero zero z values in
      record {
        low = omega arith;
        high = omega arith;
        held = held_at_start closed (marked is_zero (placed p zero values)) given (λ i j m. (inside i j m).2);
        inside = λ i j m. inside i j (given i j m);
        cleared = λ i l li h.
            by_test (is_zero (placed p zero values i l)) (λ e. e)
            (λ n. absurd (omega (arith, (inside i l (given i l (ap not n))).2)));
        vectors = λ i l n. absurd (false≢true (sym n ∙ z));
        factor = λ l j n. absurd (false≢true (sym n ∙ z));
        factor_is_row = λ l j (from, to). absurd (omega arith);
      }

-- ---- the theorem

module _ {A : Type 0} (is_zero : A → Bool) (zero : A) (z : is_zero zero ≡ true) (p : Pattern) (able : Plannable p) (facts : PlanFacts p (plan p)) where
  -- Every state is within the plan, for every pattern that can be planned.
  within-plan :
      (values : Square A) (steps : List (OrthogonalStep A)) → WithinPlan p (plan p) is_zero (orthogonal_run p is_zero (orthogonal_start p zero values) steps)
  unfolding has_slot list orthogonal_run
  within-plan values steps =
      let st : Standing is_zero p (plan p).L (plan p).U (orthogonal_run p is_zero (orthogonal_start p zero values) steps) =
      run_keeps (orthogonal_step p is_zero) (orthogonal_run p is_zero) (λ s. refl) (λ s step rest. refl) (Standing is_zero p (plan p).L (plan p).U)
      (stands_next is_zero p able.tall facts.closed (facts.own lower) (facts.own upper)) (orthogonal_start p zero values) steps
      (stands_first is_zero p able.tall facts.closed (facts.own lower) (facts.own upper) (present-inside p able) zero z values)
      in
      record {
        k_range = (st.low, st.high);
        rows = λ i j n.
            let (a, b, c, d) = st.inside i j (ap not n) in
            (a, b, c, d, contained facts.closed st.held i j (ap not n));
        vectors = st.vectors;
        factor = st.factor;
        factor_is_row = st.factor_is_row;
        cleared = st.cleared;
      }

-- Orthogonal steps stay within the plan, if what passes can be planned and the plan of such a pattern is as PlanFacts says.
pub orthogonal_suffices-from :
    ((p : Pattern) → Plannable p → PlanFacts p (plan p)) → ((most : ℕ) (p : Lent) → pattern_fault most p ≡ 0 → Plannable (pattern_of p)) → OrthogonalSuffices
unfolding OrthogonalSuffices orthogonal_after
orthogonal_suffices-from facts passes most p ok A is_zero zero z values steps t =
    let able : Plannable (pattern_of p) = passes most p ok in (
      within-plan is_zero zero z (pattern_of p) able (facts (pattern_of p) able) values (take t steps),
      λ t' h. stays-later is_zero (pattern_of p) zero values steps t t' h,
    )
