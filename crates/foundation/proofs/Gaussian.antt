-- Gaussian steps, with an exchange or without, are orthogonal steps: such a step brings the rows that it leaves, cleared in column k below row k, and what it leaves in column k as the
-- vector: its multipliers and, at row k, the pivot.
use mathlib.Core.Bool.{Bool, true, false, cond, not, ◌&&◌, false≢true}
use mathlib.Core.Logic.{◌⊎◌, inl, inr}
use mathlib.Core.Path.{◌≡◌, refl, sym, ap, ◌∙◌}
use Prim.Native.Nat.{ℕ, suc, ◌≤◌, ◌<◌}
use native.Mathlib.Decide.{dec_lt}
use native.Mathlib.Omega.{arith}
use lib.Dec.{eqb, ltb}
use borrow.Author.Tests.{eqb-true, eqb-false, ltb-true, eq-eqb, lt-ltb}
use Rattle.lists.proofs.Members.{by_test, and_left, and_right, fails}
use Rattle.foundation.specs.Claims.Orthogonal.{StepLeaves, SameElimination, GaussianSteps}
use Rattle.foundation.specs.Closed.{Involved, marked}
use Rattle.foundation.specs.Free.{FreeStep, FreeState, free_start, taken, replaced, free_step, free_run, free_after}
use Rattle.foundation.specs.Orthogonal.{OrthogonalStep, OrthogonalState, orthogonal_start, orthogonal_taken, orthogonal_step, orthogonal_run, orthogonal_after}
use Rattle.foundation.specs.Pattern.{Pattern}
use Rattle.foundation.specs.Square.{Square, swap, exchanged}
use Rattle.foundation.proofs.Containment.{involved_from}
use Rattle.foundation.proofs.FreeSteps.{exchanged_right_lem, replaced_clears, earlier_stay, others_stay, from_involved, taken_parts}
use Rattle.foundation.proofs.Inside.{involved_or-not}
use Rattle.foundation.proofs.StepLists.{run_beside}
use Rattle.foundation.proofs.OrthogonalSteps.{Allowed, says-taken, leaves}

-- Two squares that are the same at the places that a Gaussian step looks at for (i, j) are the same there after it.
replaced_same {ℓ} :
    {A : Type ℓ} (is_zero : A → Bool) (k : ℕ) (step : FreeStep A) (a b : Square A) (i j : ℕ) → a i k ≡ b i k → a k j ≡ b k j → a i j ≡ b i j
    → replaced is_zero k step a i j ≡ replaced is_zero k step b i j
unfolding replaced
replaced_same is_zero k step a b i j column pivot place = rw (column, pivot, place)

module _ {A : Type 0} (is_zero : A → Bool) (zero : A) (z : is_zero zero ≡ true) (p : Pattern) where
  -- the square after a Gaussian step k
  abbrev after : ℕ → FreeStep A → Square A → Square A
  after k step square = replaced is_zero k step (exchanged k step.row square)

  -- The orthogonal step that a Gaussian step is, at step k of these rows.
  gaussian : ℕ → Square A → FreeStep A → OrthogonalStep A
  gaussian k rows step = record { rows = λ i j. cond (ltb k i && eqb j k) zero (after k step rows i j); vector = λ i. after k step rows i k }

  -- What is so where a Gaussian step is taken at step k of a square: its row is one from k on with a nonzero in column k; and these rows are the square's in columns 1 to n, but for columns
  -- before k below the diagonal.
  record Applies (k : ℕ) (rows square : Square A) (step : FreeStep A) : Type 0 where
    low : 1 ≤ k
    in_columns : k ≤ p.n
    from_k : k ≤ step.row
    in_rows : step.row ≤ p.height
    pivot : is_zero (square step.row k) ≡ false
    same : (i j : ℕ) → (1 ≤ j) × (j ≤ p.n) → (i ≤ j) ⊎ (k ≤ j) → rows i j ≡ square i j

  module _ (k : ℕ) (rows square : Square A) (step : FreeStep A) (g : Applies k rows square step) where
    abbrev In : ℕ → Type 0
    In i = Involved k (marked is_zero rows) i

    -- column k is the square's, so that row p has its nonzero there and the same rows are involved
    column : (i : ℕ) → rows i k ≡ square i k
    column i = g.same i k (g.low, g.in_columns) (inr (omega arith))

    pivot_here : is_zero (rows step.row k) ≡ false
    pivot_here = ap is_zero (column step.row) ∙ g.pivot

    involved_here : (i : ℕ) → Involved k (marked is_zero square) i → In i
    involved_here i (inl e) = inl e
    involved_here i (inr m) = inr (m.0, ap (λ x. not (is_zero x)) (column i) ∙ m.1)

    -- a row that is not involved and stands below k has zero in column k
    zero_below : (i : ℕ) → k < i → (In i → ⊥) → is_zero (square i k) ≡ true
    zero_below i ki nv = by_test (is_zero (square i k)) (λ t. t) (λ n. absurd (nv (involved_here i (inr (ki, ap not n)))))

    -- ---- the step is taken

    allowed : (i j : ℕ) → In i → i ≤ p.height → is_zero ((gaussian k rows step).rows i j) ≡ false → Allowed is_zero p k rows i j
    unfolding gaussian
    allowed i j v high n =
        by_test (ltb k i && eqb j k)
        (λ e. absurd (false≢true (sym (rw e at n) ∙ z)))
        (λ e.
        let below : (k < i) × (j ≡ k) → ⊥ = λ (ki, jk). false≢true (sym e ∙ rw (lt-ltb k i ki, eq-eqb j k jk)) in
        (source below (rw e at n), below))
      where
        source : ((k < i) × (j ≡ k) → ⊥) → is_zero (after k step rows i j) ≡ false → (h : ℕ) × In h × (h ≤ p.height) × (is_zero (rows h j) ≡ false)
        source below m =
            elim (dec_lt j k) [
              | yes jk ↦ (
                i,
                v,
                high,
                ap is_zero (sym (earlier_stay is_zero k step.row rows (after k step rows) g.from_k pivot_here (replaced_clears is_zero k step _) i j jk)) ∙ m,
              )
              | no x ↦
                  from_involved is_zero k step.row rows (after k step rows) g.from_k pivot_here (replaced_clears is_zero k step _)
                  (λ r. r ≤ p.height)
                  (omega (arith, g.from_k, g.in_rows)) g.in_rows i j v high (omega arith) (λ ki. right_of_k ki (omega arith)) m
            ]
          where
            right_of_k : k < i → k ≤ j → k < j
            right_of_k ki kj = elim (dec_lt k j) [ yes l ↦ l | no n ↦ absurd (below (ki, omega arith)) ]

    -- ---- what it leaves

    -- from column k on, the Gaussian step leaves in these rows what it leaves in the square
    alike : (i j : ℕ) → (1 ≤ j) × (j ≤ p.n) → k ≤ j → after k step rows i j ≡ after k step square i j
    alike i j range kj =
        replaced_same is_zero k step (exchanged k step.row rows) (exchanged k step.row square) i j (exchanged_alike i k (g.low, g.in_columns) (omega arith))
        (exchanged_alike k j range kj) (exchanged_alike i j range kj)
      where
        exchanged_alike : (r c : ℕ) → (1 ≤ c) × (c ≤ p.n) → k ≤ c → exchanged k step.row rows r c ≡ exchanged k step.row square r c
        exchanged_alike r c range kc =
            exchanged_right_lem k step.row rows r c kc
            ∙ g.same (swap k step.row r) c range (inr kc)
            ∙ sym (exchanged_right_lem k step.row square r c kc)

    -- in the square, columns before k and rows that are not involved stay
    columns_stay : (i l : ℕ) → l < k → after k step square i l ≡ square i l
    columns_stay = earlier_stay is_zero k step.row square (after k step square) g.from_k g.pivot (replaced_clears is_zero k step _)

    rows_stay : (i j : ℕ) → (In i → ⊥) → after k step square i j ≡ square i j
    rows_stay i j nv =
        others_stay is_zero k step.row square (after k step square) g.from_k g.pivot (replaced_clears is_zero k step _) i j
        (λ v. nv (involved_here i v))

    -- right of k or at and right of the diagonal, an involved row gets what the Gaussian step leaves
    brought : (i j : ℕ) → In i → (1 ≤ j) × (j ≤ p.n) → (i ≤ j) ⊎ (suc k ≤ j) → (gaussian k rows step).rows i j ≡ after k step square i j
    unfolding gaussian
    brought i j v range w = rw (fails (ltb k i && eqb j k) (not_below w)) (alike i j range (from_k_on w))
      where
        from_k_on : (i ≤ j) ⊎ (suc k ≤ j) → k ≤ j
        from_k_on (inl h) = omega (arith, involved_from k i (marked is_zero rows) v)
        from_k_on (inr h) = omega arith

        not_below : (i ≤ j) ⊎ (suc k ≤ j) → ltb k i && eqb j k ≡ true → ⊥
        not_below (inl h) e = omega (arith, ltb-true k i (and_left (ltb k i) _ e), eqb-true j k (and_right (ltb k i) _ e))
        not_below (inr h) e = omega (arith, eqb-true j k (and_right (ltb k i) _ e))

  -- ---- both states

  -- How the two states stand beside each other before step k: they say the same, and no step from k on has a vector yet.
  record Beside (k : ℕ) (rows vectors factor square : Square A) : Type 0 where
    low : 1 ≤ k
    same_rows : (i j : ℕ) → (1 ≤ j) × (j ≤ p.n) → (i ≤ j) ⊎ (k ≤ j) → rows i j ≡ square i j
    same_vectors :
        (i l : ℕ) → (1 ≤ l) × (l < k) × (l < i) → (vectors i l ≡ square i l) ⊎ ((is_zero (vectors i l) ≡ true) × (is_zero (square i l) ≡ true))
    no_vector : (i l : ℕ) → k ≤ l → is_zero (vectors i l) ≡ true
    same_factor : (l j : ℕ) → (1 ≤ l) × (l < k) × (l ≤ j) × (j ≤ p.n) → factor l j ≡ square l j

  module _ (k : ℕ) (rows vectors factor square : Square A) (step : FreeStep A) (b : Beside k rows vectors factor square)
      (ok : taken p is_zero (record { k = k; square = square }) step ≡ true) where
    abbrev state : OrthogonalState A
    state = record { k = k; rows = rows; vectors = vectors; factor = factor }

    abbrev next : OrthogonalState A
    next = orthogonal_step p is_zero state (gaussian k rows step)

    applies : Applies k rows square step
    applies =
        let (in_columns, from_k, in_rows, pivot) = taken_parts is_zero p (record { k = k; square = square }) step ok in
        record { low = b.low; in_columns = in_columns; from_k = from_k; in_rows = in_rows; pivot = pivot; same = b.same_rows }

    gaussian_taken : orthogonal_taken p is_zero state (gaussian k rows step) ≡ true
    gaussian_taken =
        says-taken is_zero p state (gaussian k rows step) (applies.in_columns, λ i j v (high, from_one, to-n) n. allowed k rows square step applies i j v high n)

    left : StepLeaves p is_zero state (gaussian k rows step) next
    left = leaves is_zero p state (gaussian k rows step) gaussian_taken

    next_rows : (i j : ℕ) → (1 ≤ j) × (j ≤ p.n) → (i ≤ j) ⊎ (suc k ≤ j) → next.rows i j ≡ after k step square i j
    next_rows i j range w =
        elim (involved_or-not k i (marked is_zero rows)) [
          | inl v ↦ left.rows i j v range ∙ brought k rows square step applies i j v range w
          | inr nv ↦ left.other_rows i j (λ (v, r). nv v) ∙ b.same_rows i j range (wider w) ∙ sym (rows_stay k rows square step applies i j nv)
        ]
      where
        wider : (i ≤ j) ⊎ (suc k ≤ j) → (i ≤ j) ⊎ (k ≤ j)
        wider (inl h) = inl h
        wider (inr h) = inr (omega arith)

    -- the vector of step k has what column k then has, or both have zero; those before stay
    next_vectors :
        (i l : ℕ) → (1 ≤ l) × (l < suc k) × (l < i)
        → (next.vectors i l ≡ after k step square i l) ⊎ ((is_zero (next.vectors i l) ≡ true) × (is_zero (after k step square i l) ≡ true))
    unfolding gaussian
    next_vectors i l (from_one, to-k, below) =
        elim (dec_lt l k) [
          | yes before ↦
              rw (left.other_vectors i l (λ (v, same). omega arith), columns_stay k rows square step applies i l before)
              (b.same_vectors i l (from_one, before, below))
          | no n ↦
              let same : l ≡ k = omega arith in
              rw same
              (elim (involved_or-not k i (marked is_zero rows)) [
                | inl v ↦ inl (left.vector i v ∙ alike k rows square step applies i k (b.low, applies.in_columns) (omega arith))
                | inr nv ↦ inr (
                  ap is_zero (left.other_vectors i k (λ (v, q). nv v)) ∙ b.no_vector i k (omega arith),
                  ap is_zero (rows_stay k rows square step applies i k nv) ∙ zero_below k rows square step applies i (omega arith) nv,
                )
              ])
        ]

    next_factor : (l j : ℕ) → (1 ≤ l) × (l < suc k) × (l ≤ j) × (j ≤ p.n) → next.factor l j ≡ after k step square l j
    next_factor l j (from_one, to-k, right, to-n) =
        by_test (eqb l k)
        (λ e.
        let same : l ≡ k = eqb-true l k e in
        rw same (left.factor j ∙ next_rows k j (omega arith, to-n) (inl (omega arith))))
        (λ e.
        let before : l < k = omega (arith, eqb-false l k e) in
        left.other_factor l j (eqb-false l k e)
        ∙ b.same_factor l j (from_one, before, right, to-n)
        ∙ sym (rows_stay k rows square step applies l j (λ v. omega (arith, involved_from k l (marked is_zero rows) v))))

    beside_next : Beside (suc k) next.rows next.vectors next.factor (after k step square)
    beside_next =
        record {
          low = omega arith;
          same_rows = next_rows;
          same_vectors = next_vectors;
          no_vector = λ i l h. ap is_zero (left.other_vectors i l (λ (v, same). omega arith)) ∙ b.no_vector i l (omega arith);
          same_factor = next_factor;
        }

  -- ---- a list of steps

  -- The two states, of the same k.
  abbrev States : FreeState A → OrthogonalState A → Type 0
  States f o = (o.k ≡ f.k) × Beside f.k o.rows o.vectors o.factor f.square

  -- A step of the free elimination that is taken is an orthogonal step; one that is refused is none.
  each : (f : FreeState A) (o : OrthogonalState A) (step : FreeStep A) → States f o
      → States (free_step p is_zero f step) o ⊎ ((x : OrthogonalStep A) × States (free_step p is_zero f step) (orthogonal_step p is_zero o x))
  unfolding free_step
  each f o step (same_k, b) =
      by_test (taken p is_zero f step)
      (λ ok.
      let as_one : o ≡ record { k = f.k; rows = o.rows; vectors = o.vectors; factor = o.factor } =
      ap (λ c. record { k = c; rows = o.rows; vectors = o.vectors; factor = o.factor }) same_k
      in
      inr (
        gaussian f.k o.rows step,
        rw (ok, as_one)
            ((left f.k o.rows o.vectors o.factor f.square step b ok).next_k, beside_next f.k o.rows o.vectors o.factor f.square step b ok),
      ))
      (λ refused. inl (rw refused (same_k, b)))

  -- the given numbers, before any step
  first_states : (values : Square A) → States (free_start p zero values) (orthogonal_start p zero values)
  unfolding free_start orthogonal_start
  first_states values = (
    refl,
    record {
      low = omega arith;
      same_rows = λ i j range w. refl;
      same_vectors = λ i l (from_one, to-k, below). absurd (omega arith);
      no_vector = λ i l h. z;
      same_factor = λ l j (from_one, to-k, right, to-n). absurd (omega arith);
    },
  )

-- Gaussian steps are orthogonal steps.
pub gaussian_steps : GaussianSteps
unfolding GaussianSteps free_after orthogonal_after free_run orthogonal_run
gaussian_steps p A is_zero zero z values steps =
    let (orthogonal, beside) =
    run_beside (free_step p is_zero) (free_run p is_zero) (λ s. refl) (λ s step rest. refl) (orthogonal_step p is_zero) (orthogonal_run p is_zero) (λ s. refl) (λ s step rest. refl)
    (States is_zero zero z p) (each is_zero zero z p) (free_start p zero values) (orthogonal_start p zero values) steps (first_states is_zero zero z p values)
    in
    (orthogonal, λ t. let (t', states) = beside t in (t', same states))
  where
    same : {f : FreeState A} {o : OrthogonalState A} → States is_zero zero z p f o → SameElimination p is_zero f o
    same {f} {o} (same_k, b) =
        record {
          same_k = same_k;
          rows = rw same_k b.same_rows;
          vectors = rw same_k b.same_vectors;
          factor = rw same_k b.same_factor;
        }
