-- The reference run stays in the slots of lists that are closed: each step that it does is a step on the places whose bits are not +0's.
use mathlib.Core.Bool.{true, false, ◌&&◌, ◌||◌, false≢true}
use mathlib.Core.List.{List, [], ◌∷◌}
use mathlib.Core.Logic.{◌⊎◌, inl, inr, ⊎_elim}
use mathlib.Core.Path.{◌≡◌, refl, sym, ap, ◌∙◌}
use Prim.Native.Nat.{ℕ, zero, suc, ◌+◌, ◌≤◌, ◌<◌}
use native.Mathlib.Decide.{dec_lt}
use native.Mathlib.Omega.{arith}
use lib.Dec.{eqb, ltb, leb}
use lib.Ieee.{Float, nan, inf, fin, eq, lt, le}
use lib.IntN.{pos, negsuc}
use lib.ListN.{length, get_or}
use borrow.Author.Tests.{eqb-true, leb-true, eq-eqb, ne_eqb, lt-ltb, le-ltb}
use Rattle.lists.specs.Sets.{member, between}
use Rattle.lists.proofs.Members.{by_test, and_left, and_right, or_right, fails, member_head, member_tail, between-low, between-high}
use Rattle.foundation.specs.Closed.{StepOn, marked}
use Rattle.foundation.specs.Numbers.{plus_zero, is_zero, magnitude, least_pivot, may_pivot, is_plus_zero}
use Rattle.foundation.specs.Pattern.{Pattern}
use Rattle.foundation.specs.Reference.{Choice, largest, listed, better, best, pivot_row, multiplier, reduced, eliminated, Going, stepped}
use Rattle.foundation.specs.RunCall.{rows_in_range, choice_fits}
use Rattle.foundation.specs.Square.{Square, exchanged}
use Rattle.foundation.proofs.FreeSteps.{Clears, step_on}

-- ---- +0

-- What passes the test is +0.
pub plus_zero_is : (x : Float) → is_plus_zero x ≡ true → x ≡ plus_zero
unfolding is_plus_zero plus_zero
plus_zero_is nan e = absurd (false≢true e)
plus_zero_is (inf s) e = absurd (false≢true e)
plus_zero_is (fin true m d) e = absurd (false≢true e)
plus_zero_is (fin false (suc m) d) e = absurd (false≢true e)
plus_zero_is (fin false zero (pos (suc d))) e = absurd (false≢true e)
plus_zero_is (fin false zero (negsuc d)) e = absurd (false≢true e)
plus_zero_is (fin false zero (pos zero)) e = refl

-- +0 passes the test.
pub is_plus_zero_lem : (x : Float) → x ≡ plus_zero → is_plus_zero x ≡ true
unfolding is_plus_zero plus_zero
is_plus_zero_lem x e = rw e

-- +0 is zero.
pub zero_plus_zero : is_zero plus_zero ≡ true
unfolding is_zero plus_zero eq
zero_plus_zero = refl

-- What passes the test is zero.
pub plus_zero-zero : (x : Float) → is_plus_zero x ≡ true → is_zero x ≡ true
plus_zero-zero x e = rw (plus_zero_is x e) zero_plus_zero

-- A nonzero number is not +0.
pub nonzero_not_plus : (x : Float) → is_zero x ≡ false → is_plus_zero x ≡ false
nonzero_not_plus x e = fails (is_plus_zero x) (λ t. false≢true (sym e ∙ plus_zero-zero x t))

-- +0 cannot be a pivot.
pub plus_zero_faint : may_pivot plus_zero ≡ false
unfolding may_pivot least_pivot magnitude plus_zero le lt eq
plus_zero_faint = refl

-- What may be a pivot is not +0.
pub pivot_not_plus : (x : Float) → may_pivot x ≡ true → is_plus_zero x ≡ false
pivot_not_plus x e = fails (is_plus_zero x) (λ t. false≢true (sym plus_zero_faint ∙ ap may_pivot (sym (plus_zero_is x t)) ∙ e))

-- ---- one step

-- A zero entry is its own multiplier, with its sign.
pub multiplier-zero : (k : ℕ) (square : Square Float) (i : ℕ) → is_zero (square i k) ≡ true → multiplier k square i ≡ square i k
unfolding multiplier
multiplier-zero k square i z = rw z

-- Where the multiplier is zero nothing is taken off.
pub reduced_left : (m u place : Float) → is_zero m ≡ true → reduced m u place ≡ place
unfolding reduced
reduced_left m u place z = rw z

-- Where the pivot row's entry is zero nothing is taken off.
pub reduced_right : (m u place : Float) → is_zero u ≡ true → reduced m u place ≡ place
unfolding reduced
reduced_right m u place z = rw (or_right (is_zero m) (is_zero u) z)

-- The same, as the code asks it: where its test finds a zero, the old number is the reduced one.
pub reduced-zero : (m u old : Float) → eq u (fin false 0 (pos 0)) ≡ true → old ≡ reduced m u old
unfolding is_zero plus_zero
reduced-zero m u old t = sym (reduced_right m u old t)

module _ (k : ℕ) (square : Square Float) where
  -- Rows up to k stay.
  pub eliminated-above : (i j : ℕ) → i ≤ k → eliminated k square i j ≡ square i j
  unfolding eliminated
  eliminated-above i j h = rw (le-ltb k i h)

  -- Columns before k stay.
  pub eliminated_left : (i j : ℕ) → j < k → eliminated k square i j ≡ square i j
  unfolding eliminated
  eliminated_left i j h = by_test (ltb k i) (λ e. rw (e, ne_eqb j k (omega arith), le-ltb k j (omega arith))) (λ e. rw e)

  -- Column k gets the multipliers below row k.
  pub eliminated_column : (i : ℕ) → k < i → eliminated k square i k ≡ multiplier k square i
  unfolding eliminated
  eliminated_column i h = rw (lt-ltb k i h, eq-eqb k k refl)

  -- The places below row k and right of column k are reduced.
  pub eliminated_right_lem : (i j : ℕ) → k < i → k < j → eliminated k square i j ≡ reduced (multiplier k square i) (square k j) (square i j)
  unfolding eliminated
  eliminated_right_lem i j hi hj = rw (lt-ltb k i hi, lt-ltb k j hj, ne_eqb j k (omega arith))

  -- A row that is zero in column k stays, with the sign of that zero.
  pub eliminated-zero : (i j : ℕ) → is_zero (square i k) ≡ true → eliminated k square i j ≡ square i j
  eliminated-zero i j z =
      elim (dec_lt k i) [
        | yes hi ↦ elim (dec_lt k j) [
          | yes hj ↦ eliminated_right_lem i j hi hj ∙ reduced_left _ _ _ (ap is_zero same ∙ z)
          | no nj ↦ elim (dec_lt j k) [
            | yes l ↦ eliminated_left i j l
            | no n ↦ at_column hi (omega arith)
          ]
        ]
        | no ni ↦ eliminated-above i j (omega arith)
      ]
    where
      same : multiplier k square i ≡ square i k
      same = multiplier-zero k square i z

      at_column : k < i → j ≡ k → eliminated k square i j ≡ square i j
      at_column hi e = rw e (eliminated_column i hi ∙ same)

  -- The elimination of a step is a second half.
  eliminated_clears : Clears is_plus_zero k square (eliminated k square)
  eliminated_clears =
      record {
        left = eliminated_left;
        above = eliminated-above;
        unmarked = λ i j m. eliminated-zero i j (plus_zero-zero (square i k) m);
        spread = λ i j hi hj m.
            by_test (is_zero (square k j))
            (λ z. inl (rw (eliminated_right_lem i j hi hj, reduced_right (multiplier k square i) (square k j) (square i j) z) at m))
            (λ z. inr (nonzero_not_plus (square k j) z));
        column = λ i hi m.
            by_test (is_zero (square i k))
            (λ z. rw (eliminated-zero i k z) at m)
            (λ z. nonzero_not_plus (square i k) z);
      }

-- Step k with a pivot row p from k on is a step on the places that are not +0.
pub stepped_on :
    (height n k p : ℕ) (g : Going) → k ≤ p → may_pivot (g.square p k) ≡ true
    → StepOn k (marked is_plus_zero g.square) (marked is_plus_zero (stepped height n k p g).square)
unfolding stepped
stepped_on height n k p g low may =
    step_on is_plus_zero k p g.square (eliminated k (exchanged k p g.square)) low (pivot_not_plus (g.square p k) may)
    (eliminated_clears k (exchanged k p g.square))

-- ---- the pivot row

-- The best of some rows is the one found before, or one of them that may be a pivot.
pub best_cases :
    (entry : ℕ → Float) (found : ℕ) (rows : List ℕ)
    → (best entry found rows ≡ found) ⊎ ((member (best entry found rows) rows ≡ true) × (may_pivot (entry (best entry found rows)) ≡ true))
unfolding best better
best_cases entry found [] = inl refl
best_cases entry found (i ∷ rows) =
    by_test (may_pivot (entry i) && (eqb found 0 || lt (magnitude (entry found)) (magnitude (entry i))))
    (λ e. rw e (taken e (best_cases entry i rows)))
    (λ e. rw e (later found (best_cases entry found rows)))
  where
    later :
        (f : ℕ) → (best entry f rows ≡ f) ⊎ ((member (best entry f rows) rows ≡ true) × (may_pivot (entry (best entry f rows)) ≡ true))
        → (best entry f rows ≡ f) ⊎ ((member (best entry f rows) (i ∷ rows) ≡ true) × (may_pivot (entry (best entry f rows)) ≡ true))
    later f (inl e) = inl e
    later f (inr m) = inr (member_tail _ i rows m.0, m.1)

    taken :
        may_pivot (entry i) && (eqb found 0 || lt (magnitude (entry found)) (magnitude (entry i))) ≡ true
        → (best entry i rows ≡ i) ⊎ ((member (best entry i rows) rows ≡ true) × (may_pivot (entry (best entry i rows)) ≡ true))
        → (best entry i rows ≡ found) ⊎ ((member (best entry i rows) (i ∷ rows) ≡ true) × (may_pivot (entry (best entry i rows)) ≡ true))
    taken e (inl same) =
        inr (rw same (member_head i rows), rw same (and_left (may_pivot (entry i)) (eqb found 0 || lt (magnitude (entry found)) (magnitude (entry i))) e))
    taken e (inr m) = inr (member_tail _ i rows m.0, m.1)

-- Of rows in range from step k on, the one for step k + i lies from k + i to the last row.
rows_at_lem :
    (height k : ℕ) (rows : List ℕ) (i : ℕ) → rows_in_range height k rows ≡ true → i < length rows
    → (k + i ≤ get_or rows i 0) × (get_or rows i 0 ≤ height)
unfolding rows_in_range
rows_at_lem height k [] i e l = absurd (omega arith)
rows_at_lem height k (p ∷ ps) zero e l =
    let ends : leb k p && leb p height ≡ true = and_left (leb k p && leb p height) (rows_in_range height (suc k) ps) e in
    let low : k ≤ p = leb-true _ _ (and_left (leb k p) (leb p height) ends) in
    (omega arith, leb-true _ _ (and_right (leb k p) (leb p height) ends))
rows_at_lem height k (p ∷ ps) (suc i) e l =
    let (low, high) = rows_at_lem height (suc k) ps i (and_right (leb k p && leb p height) (rows_in_range height (suc k) ps) e) (omega arith) in
    (omega arith, high)

-- The row that a list has for step t + 1, where 12 lets the list pass, lies from that step to the last row.
pub listed_in_range :
    (p : Pattern) (rows : List ℕ) → choice_fits p (listed rows) ≡ true → (t : ℕ) → t < p.n
    → (suc t ≤ get_or rows t 0) × (get_or rows t 0 ≤ p.height)
unfolding choice_fits
listed_in_range p rows fits t h =
    let long : length rows ≡ p.n = eqb-true _ _ (and_left (eqb (length rows) p.n) (rows_in_range p.height 1 rows) fits) in
    let (low, high) = rows_at_lem p.height 1 rows t (and_right (eqb (length rows) p.n) (rows_in_range p.height 1 rows) fits) (omega arith) in
    (omega arith, high)

-- The pivot row of a step up to n is 0 or a row from the step on that may be a pivot.
pivot_cases :
    (p : Pattern) (choice : Choice) → choice_fits p choice ≡ true → (t : ℕ) → t < p.n → (entry : ℕ → Float)
    → let r = pivot_row choice p.height (suc t) entry in (r ≡ 0) ⊎ ((suc t ≤ r) × (r ≤ p.height) × (may_pivot (entry r) ≡ true))
unfolding pivot_row
pivot_cases p largest fits t h entry = from (best_cases entry 0 (between (suc t) p.height))
  where
    from :
        (best entry 0 (between (suc t) p.height) ≡ 0)
        ⊎ ((member (best entry 0 (between (suc t) p.height)) (between (suc t) p.height) ≡ true) × (may_pivot (entry (best entry 0 (between (suc t) p.height))) ≡ true))
        → let r = best entry 0 (between (suc t) p.height) in (r ≡ 0) ⊎ ((suc t ≤ r) × (r ≤ p.height) × (may_pivot (entry r) ≡ true))
    from (inl e) = inl e
    from (inr m) = inr (between-low _ _ _ m.0, between-high _ _ _ m.0, m.1)
pivot_cases p (listed rows) fits t h entry =
    let (low, high) = listed_in_range p rows fits t h in
    by_test (may_pivot (entry (get_or rows t 0)))
    (λ m. rw m (inr (low, high, m)))
    (λ m. rw m (inl refl))

-- A pivot row that is found lies from the step on to the last row, and may be a pivot.
pub pivot_found :
    (p : Pattern) (choice : Choice) → choice_fits p choice ≡ true → (t : ℕ) → t < p.n → (entry : ℕ → Float) (r : ℕ)
    → pivot_row choice p.height (suc t) entry ≡ r → 1 ≤ r → (suc t ≤ r) × (r ≤ p.height) × (may_pivot (entry r) ≡ true)
pivot_found p choice fits t h entry r e some =
    rw e at (⊎_elim (λ none. absurd (omega (arith, e))) (λ found. found) (pivot_cases p choice fits t h entry))
