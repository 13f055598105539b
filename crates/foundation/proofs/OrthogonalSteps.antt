-- An orthogonal step: when it is taken and what it leaves, said of places; and that one that is taken is a step on places, which clears its column.
use mathlib.Core.Bool.{Bool, true, false, not, ◌&&◌, ◌||◌, false≢true}
use mathlib.Core.Logic.{inl, inr, ⊎_elim}
use mathlib.Core.Path.{◌≡◌, refl, sym, ap, ◌∙◌}
use Prim.Native.Nat.{ℕ, suc, ◌≤◌, ◌<◌}
use native.Mathlib.Decide.{dec_lt}
use native.Mathlib.Omega.{arith}
use lib.Dec.{eqb, ltb, leb}
use borrow.Author.Tests.{eqb-true, ltb-true, leb-true, eq-eqb, ne_eqb, lt-ltb, le-leb, not-true}
use Rattle.lists.specs.Sets.{member, upto, between}
use Rattle.lists.proofs.Members.{by_test, and_left, and_right, and_both, or_left, or_right, or_true_cases, fails, all_in, all_from, some_of, some-found, in_upto, upto-low, upto-high, in_between, between-high}
use Rattle.foundation.specs.Closed.{Involved, StepOn, marked}
use Rattle.foundation.specs.Claims.Orthogonal.{Replaces, TakenAsSaid, StepLeaves, LeftAsSaid}
use Rattle.foundation.specs.Orthogonal.{OrthogonalStep, OrthogonalState, involves, in_union, may_replace, orthogonal_taken, replaced_rows, kept_vectors, factor_rows, orthogonal_step}
use Rattle.foundation.specs.Pattern.{Pattern}
use Rattle.foundation.specs.Square.{Square}
use Rattle.foundation.proofs.Containment.{involved_from}
use Rattle.foundation.proofs.FreeSteps.{marked_alike}
use Rattle.foundation.proofs.Inside.{Inside, involved_or-not, involved_row}

-- ---- when a step is taken

module _ {ℓ} {A : Type ℓ} (is_zero : A → Bool) where
  -- what a step involves, as a test and of the nonzero places
  pub involves_is : (k : ℕ) (rows : Square A) (i : ℕ) → involves is_zero k rows i ≡ true → Involved k (marked is_zero rows) i
  unfolding involves
  involves_is k rows i e = ⊎_elim
      (λ t. inl (eqb-true i k t))
      (λ t. inr (ltb-true k i (and_left (ltb k i) (not (is_zero (rows i k))) t), and_right (ltb k i) (not (is_zero (rows i k))) t))
      (or_true_cases (eqb i k) (ltb k i && not (is_zero (rows i k))) e)

  pub is_involved : (k : ℕ) (rows : Square A) (i : ℕ) → Involved k (marked is_zero rows) i → involves is_zero k rows i ≡ true
  unfolding involves
  is_involved k rows i (inl e) = or_left (eqb i k) _ (eq-eqb i k e)
  is_involved k rows i (inr m) = or_right (eqb i k) _ (and_both (ltb k i) _ (lt-ltb k i m.0) m.1)

  module _ (p : Pattern) (k : ℕ) (rows : Square A) where
    -- A place that may be brought for row i: in its column a row that is involved has a nonzero, and it is not in column k below row k.
    abbrev pub Allowed : ℕ → ℕ → Type 0
    Allowed i j =
        ((h : ℕ) × Involved k (marked is_zero rows) h × (h ≤ p.height) × (is_zero (rows h j) ≡ false)) × ((k < i) × (j ≡ k) → ⊥)

    -- so says the test of a place
    allowed : (i j : ℕ) → in_union p is_zero k rows j && not (ltb k i && eqb j k) ≡ true → Allowed i j
    unfolding in_union
    allowed i j e =
        let (h, m, t) = some-found (λ r. involves is_zero k rows r && not (is_zero (rows r j))) (between k p.height) (and_left _ _ e) in (
          (
            h,
            involves_is k rows h (and_left (involves is_zero k rows h) _ t),
            between-high h k p.height m,
            not-true _ (and_right (involves is_zero k rows h) (not (is_zero (rows h j))) t),
          ),
          λ (ki, jk). false≢true (sym (not-true _ (and_right (in_union p is_zero k rows j) _ e)) ∙ and_both (ltb k i) _ (lt-ltb k i ki) (eq-eqb j k jk)),
        )

    is_allowed : (i j : ℕ) → Allowed i j → in_union p is_zero k rows j && not (ltb k i && eqb j k) ≡ true
    unfolding in_union
    is_allowed i j ((h, v, high, n), below) =
        and_both (in_union p is_zero k rows j) _
        (some_of h (λ r. involves is_zero k rows r && not (is_zero (rows r j))) (between k p.height) (in_between h k p.height (involved_from k h (marked is_zero rows) v) high)
        (and_both (involves is_zero k rows h) _ (is_involved k rows h v) (ap not n)))
        (ap not (fails (ltb k i && eqb j k) (λ e. below (ltb-true k i (and_left (ltb k i) _ e), eqb-true j k (and_right (ltb k i) _ e)))))

  module _ (p : Pattern) (s : OrthogonalState A) (step : OrthogonalStep A) where
    -- each nonzero that the step brings for an involved row, in the pattern's rows and columns, is allowed
    abbrev pub Brings : Type 0
    Brings =
        (i j : ℕ) → Replaces is_zero s i → (i ≤ p.height) × (1 ≤ j) × (j ≤ p.n) → is_zero (step.rows i j) ≡ false
        → Allowed p s.k s.rows i j

    pub taken-says : orthogonal_taken p is_zero s step ≡ true → (s.k ≤ p.n) × Brings
    unfolding orthogonal_taken may_replace
    taken-says ok = (leb-true _ _ (and_left (leb s.k p.n) _ ok), brought)
      where
        brought : Brings
        brought i j v (high, j_low, j-high) n =
            let row : not (involves is_zero s.k s.rows i) || may_replace p is_zero s.k s.rows i (step.rows i) ≡ true =
            all_in i (λ r. not (involves is_zero s.k s.rows r) || may_replace p is_zero s.k s.rows r (step.rows r)) (between s.k p.height)
            (and_right (leb s.k p.n) _ ok)
            (in_between i s.k p.height (involved_from s.k i (marked is_zero s.rows) v) high)
            in
            let place : is_zero (step.rows i j) || (in_union p is_zero s.k s.rows j && not (ltb s.k i && eqb j s.k)) ≡ true =
            all_in j (λ c. is_zero (step.rows i c) || (in_union p is_zero s.k s.rows c && not (ltb s.k i && eqb c s.k))) (upto p.n)
            (rw (is_involved s.k s.rows i v) at row)
            (in_upto j p.n j_low j-high)
            in
            allowed p s.k s.rows i j (rw n at place)

    pub says-taken : (s.k ≤ p.n) × Brings → orthogonal_taken p is_zero s step ≡ true
    unfolding orthogonal_taken may_replace
    says-taken (in-n, brought) =
        and_both (leb s.k p.n) _ (le-leb _ _ in-n)
        (all_from (λ i. not (involves is_zero s.k s.rows i) || may_replace p is_zero s.k s.rows i (step.rows i)) (between s.k p.height)
        (λ i m. by_test (involves is_zero s.k s.rows i) (λ v. rw v (row i m v)) (λ v. rw v)))
      where
        row : (i : ℕ) → member i (between s.k p.height) ≡ true → involves is_zero s.k s.rows i ≡ true
            → may_replace p is_zero s.k s.rows i (step.rows i) ≡ true
        row i m v =
            all_from (λ j. is_zero (step.rows i j) || (in_union p is_zero s.k s.rows j && not (ltb s.k i && eqb j s.k))) (upto p.n)
            (λ j c. by_test (is_zero (step.rows i j))
            (λ z. rw z)
            (λ n.
            or_right (is_zero (step.rows i j)) _
            (is_allowed p s.k s.rows i j
            (brought i j (involves_is s.k s.rows i v) (between-high i s.k p.height m, upto-low j p.n c, upto-high j p.n c) n))))

-- Such steps are taken, and no others.
pub taken_as_said : TakenAsSaid
unfolding TakenAsSaid
taken_as_said p A is_zero s step = (taken-says is_zero p s step, says-taken is_zero p s step)

-- ---- what a step leaves

module _ {ℓ} {A : Type ℓ} (is_zero : A → Bool) (p : Pattern) (s : OrthogonalState A) (step : OrthogonalStep A) where
  -- a step that is taken
  pub leaves : orthogonal_taken p is_zero s step ≡ true → StepLeaves p is_zero s step (orthogonal_step p is_zero s step)
  unfolding orthogonal_step replaced_rows kept_vectors factor_rows
  leaves ok =
      rw ok (record {
        next_k = refl;
        rows = λ i j v (low, high). rw (is_involved is_zero s.k s.rows i v, le-leb 1 j low, le-leb j p.n high);
        other_rows = λ i j other.
            by_test (involves is_zero s.k s.rows i && (leb 1 j && leb j p.n))
            (λ e.
            let column : leb 1 j && leb j p.n ≡ true = and_right (involves is_zero s.k s.rows i) _ e in
            absurd (other (
              involves_is is_zero s.k s.rows i (and_left (involves is_zero s.k s.rows i) _ e),
              (leb-true 1 j (and_left (leb 1 j) _ column), leb-true j p.n (and_right (leb 1 j) _ column)),
            )))
            (λ e. rw e);
        vector = λ i v. rw (eq-eqb s.k s.k refl, is_involved is_zero s.k s.rows i v);
        other_vectors = λ i l other.
            by_test (eqb l s.k && involves is_zero s.k s.rows i)
            (λ e.
            absurd (other (involves_is is_zero s.k s.rows i (and_right (eqb l s.k) _ e), eqb-true l s.k (and_left (eqb l s.k) _ e))))
            (λ e. rw e);
        factor = λ j. rw (eq-eqb s.k s.k refl);
        other_factor = λ l j other. rw (ne_eqb l s.k other);
      })

  -- a step that is refused
  pub unchanged : orthogonal_taken p is_zero s step ≡ false → orthogonal_step p is_zero s step ≡ s
  unfolding orthogonal_step
  unchanged refused = rw refused

pub left_as_said : LeftAsSaid
unfolding LeftAsSaid
left_as_said p A is_zero s step = (leaves is_zero p s step, unchanged is_zero p s step)

-- ---- a step that is taken is a step on places

module _ {ℓ} {A : Type ℓ} (is_zero : A → Bool) where
  -- Below the diagonal, columns before k have no nonzero.
  abbrev pub Cleared : ℕ → Square A → Type 0
  Cleared k rows = (i l : ℕ) → l < i → l < k → is_zero (rows i l) ≡ true

  -- Of a step that brings what it may and leaves what it should, from rows that are in range and cleared.
  module _ (p : Pattern) (tall : p.n ≤ p.height) (s : OrthogonalState A) (step : OrthogonalStep A) (after : OrthogonalState A)
      (said : (s.k ≤ p.n) × Brings is_zero p s step) (left : StepLeaves p is_zero s step after)
      (inside : Inside p.height p.n (marked is_zero s.rows)) (cleared : Cleared s.k s.rows) where
    -- an involved row lies from k to the last row
    in_rows : (i : ℕ) → Replaces is_zero s i → (s.k ≤ i) × (i ≤ p.height)
    in_rows = let c = said.0 in involved_row p.height p.n s.k (omega arith) inside

    -- a nonzero that the step leaves in an involved row is allowed: in columns 1 to n it was brought, and outside them there is none
    left_allowed : (i j : ℕ) → Replaces is_zero s i → is_zero (after.rows i j) ≡ false → Allowed is_zero p s.k s.rows i j
    left_allowed i j v n =
        elim (dec_lt j 1) [
          | yes l ↦ outside (λ (low, high). omega arith)
          | no x ↦ elim (dec_lt p.n j) [
            | yes l ↦ outside (λ (low, high). omega arith)
            | no y ↦
                said.1 i j v ((in_rows i v).1, omega arith, omega arith) (ap is_zero (sym (left.rows i j v (omega arith, omega arith))) ∙ n)
          ]
        ]
      where
        outside : ((1 ≤ j) × (j ≤ p.n) → ⊥) → Allowed is_zero p s.k s.rows i j
        outside out =
            let (a, b, low, high) = inside i j (ap not (ap is_zero (sym (left.other_rows i j (λ (w, range). out range))) ∙ n)) in
            absurd (out (low, high))

    -- before column k none is left
    pub none_before : (i j : ℕ) → Replaces is_zero s i → j < s.k → is_zero (after.rows i j) ≡ true
    none_before i j v h =
        by_test (is_zero (after.rows i j)) (λ z. z)
        (λ n.
        let (r, w, high, m) = (left_allowed i j v n).0 in
        absurd (false≢true (sym m ∙ cleared r j (omega (arith, in_rows r w)) h)))

    -- nor in column k below row k, where a row that is not involved had none
    none_below : (i : ℕ) → s.k < i → is_zero (after.rows i s.k) ≡ true
    none_below i h =
        by_test (is_zero (after.rows i s.k)) (λ z. z)
        (λ n. absurd (elim (involved_or-not s.k i (marked is_zero s.rows)) [
          | inl v ↦ (left_allowed i s.k v n).1 (h, refl)
          | inr nv ↦ nv (inr (h, ap not (ap is_zero (sym (left.other_rows i s.k (λ (w, range). nv w))) ∙ n)))
        ]))

    pub orthogonal_on : StepOn s.k (marked is_zero s.rows) (marked is_zero after.rows)
    orthogonal_on =
        record {
          earlier = earlier-columns;
          others = λ i j nv. marked_alike is_zero (left.other_rows i j (λ (v, range). nv v));
          within = λ i j v h m. let (r, w, high, n) = (left_allowed i j v (not-true _ m)).0 in (r, w, ap not n);
          pivotal = λ i h m. absurd (false≢true (sym (ap not (none_below i h)) ∙ m));
        }
      where
        earlier-columns : (i j : ℕ) → j < s.k → marked is_zero after.rows i j ≡ marked is_zero s.rows i j
        earlier-columns i j h =
            elim (involved_or-not s.k i (marked is_zero s.rows)) [
              | inl v ↦ ap not (none_before i j v h ∙ sym (cleared i j (omega (arith, in_rows i v)) h))
              | inr nv ↦ marked_alike is_zero (left.other_rows i j (λ (v, range). nv v))
            ]

    -- After it columns up to k are clear below the diagonal.
    pub clears : Cleared (suc s.k) after.rows
    clears i l li h =
        elim (dec_lt l s.k) [
          | yes before ↦ elim (involved_or-not s.k i (marked is_zero s.rows)) [
            | inl v ↦ none_before i l v before
            | inr nv ↦ ap is_zero (left.other_rows i l (λ (v, range). nv v)) ∙ cleared i l li before
          ]
          | no n ↦
              let same : l ≡ s.k = omega arith in
              rw same (none_below i (omega arith))
        ]
