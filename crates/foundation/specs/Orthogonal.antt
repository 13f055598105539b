-- Orthogonal steps (document 02, Ticket 7): the process of those who "reduce by Householder steps". It knows no plan. "The arithmetic of such steps is the user's": numbers are of any
-- kind, and only whether one is zero counts, as in the free elimination. There are as many rows as the pattern has and n columns (Ticket 9: "Ticket 7's property covers
-- them"); "square patterns" are those of n rows.
use Rattle.std.specs.Prelude.{Bool, cond, not, ◌&&◌, ◌||◌, List, [], ◌∷◌, ℕ, suc, eqb, ltb, leb, take}
use Rattle.lists.specs.Functions.{all, some}
use Rattle.lists.specs.Sets.{upto, between}
use Rattle.foundation.specs.Pattern.{Pattern}
use Rattle.foundation.specs.Square.{Square, placed}

-- What a step brings: rows, a number for each place, and its vector, a number for each row. What it brings for a row that it does not replace is not looked at.
pub record OrthogonalStep {ℓ} (A : Type ℓ) : Type ℓ where
  pub rows : Square A
  pub vector : ℕ → A

-- The step k that comes next, the rows, the vectors kept (`vectors i l` is what that of step l has at row i) and the upper factor (`factor l j` is what its row l
-- has in column j).
pub record OrthogonalState {ℓ} (A : Type ℓ) : Type ℓ where
  pub k : ℕ
  pub rows : Square A
  pub vectors : Square A
  pub factor : Square A

module _ {ℓ} {A : Type ℓ} where
  -- at first the given numbers in the pattern and zero elsewhere, as in the free elimination; no vector and no row of the upper factor
  unfoldable pub orthogonal_start : Pattern → A → Square A → OrthogonalState A
  orthogonal_start p zero values = record { k = 1; rows = placed p zero values; vectors = λ i l. zero; factor = λ l j. zero }

  -- "row k and the rows below it that have a nonzero in column k": whether row i is one of them. Row k is, whatever it has there. (Rows behind the last one are zero in every run.)
  unfoldable pub involves : (A → Bool) → ℕ → Square A → ℕ → Bool
  involves is_zero k rows i = eqb i k || (ltb k i && not (is_zero (rows i k)))

  -- "the union of their columns": whether one of those rows has a nonzero in column j
  unfoldable pub in_union : Pattern → (A → Bool) → ℕ → Square A → ℕ → Bool
  in_union p is_zero k rows j = some (λ i. involves is_zero k rows i && not (is_zero (rows i j))) (between k p.height)

  -- "any rows whose nonzeros lie in the union of their columns, those below k having none in column k": whether `row` may replace row i
  unfoldable pub may_replace : Pattern → (A → Bool) → ℕ → Square A → ℕ → (ℕ → A) → Bool
  may_replace p is_zero k rows i row = all (λ j. is_zero (row j) || (in_union p is_zero k rows j && not (ltb k i && eqb j k))) (upto p.n)

  -- A step is taken if k is at most n (Ticket 9: "document 01's steps stop at n") and every row that it replaces may be replaced by what it brings for it.
  unfoldable pub orthogonal_taken : Pattern → (A → Bool) → OrthogonalState A → OrthogonalStep A → Bool
  orthogonal_taken p is_zero s step =
      leb s.k p.n
      && all (λ i. not (involves is_zero s.k s.rows i) || may_replace p is_zero s.k s.rows i (step.rows i)) (between s.k p.height)

  -- "row k and the rows below it that have a nonzero in column k are replaced (..), all other rows unchanged": in columns 1 to n
  unfoldable pub replaced_rows : Pattern → (A → Bool) → ℕ → OrthogonalStep A → Square A → Square A
  replaced_rows p is_zero k step rows i j = cond (involves is_zero k rows i && (leb 1 j && leb j p.n)) (step.rows i j) (rows i j)

  -- "vectors are kept for those rows only": at every other row the vector of step k stays zero. `rows` are those before the step.
  unfoldable pub kept_vectors : (A → Bool) → ℕ → OrthogonalStep A → Square A → Square A → Square A
  kept_vectors is_zero k step rows vectors i l = cond (eqb l k && involves is_zero k rows i) (step.vector i) (vectors i l)

  -- Row k of the upper factor is row k as step k leaves it: `rows` are those after the step.
  unfoldable pub factor_rows : ℕ → Square A → Square A → Square A
  factor_rows k rows factor l j = cond (eqb l k) (rows l j) (factor l j)

  -- Any other step is refused and changes nothing, k included.
  unfoldable pub orthogonal_step : Pattern → (A → Bool) → OrthogonalState A → OrthogonalStep A → OrthogonalState A
  orthogonal_step p is_zero s step =
      cond (orthogonal_taken p is_zero s step)
      (record {
        k = suc s.k;
        rows = replaced_rows p is_zero s.k step s.rows;
        vectors = kept_vectors is_zero s.k step s.rows s.vectors;
        factor = factor_rows s.k (replaced_rows p is_zero s.k step s.rows) s.factor;
      })
      s

  -- each step gets what the last one left
  unfoldable pub orthogonal_run : Pattern → (A → Bool) → OrthogonalState A → List (OrthogonalStep A) → OrthogonalState A
  orthogonal_run p is_zero s [] = s
  orthogonal_run p is_zero s (step ∷ steps) = orthogonal_run p is_zero (orthogonal_step p is_zero s step) steps

  -- the state after the first t of a list of steps, refused ones counted, from the given numbers on
  unfoldable pub orthogonal_after : Pattern → (A → Bool) → A → Square A → List (OrthogonalStep A) → ℕ → OrthogonalState A
  orthogonal_after p is_zero zero values steps t = orthogonal_run p is_zero (orthogonal_start p zero values) (take t steps)
