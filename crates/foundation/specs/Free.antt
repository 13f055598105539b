-- The free elimination (document 01, "Free elimination"): demand 3's process. It knows no plan; numbers are of any kind, and only whether
-- one is zero counts. Document 02, Ticket 9: "the free elimination then have the full rectangle of that many rows and n columns in place of the square": a row p goes to the last row, k to n.
use Rattle.std.specs.Prelude.{Bool, cond, not, ◌&&◌, List, [], ◌∷◌, ℕ, suc, eqb, ltb, leb, take}
use Rattle.foundation.specs.Pattern.{Pattern}
use Rattle.foundation.specs.Square.{Square, placed, exchanged}

-- "A step brings a row p, a multiplier for each row and a number for each place of the square."
pub record FreeStep {ℓ} (A : Type ℓ) : Type ℓ where
  pub row : ℕ
  pub multiplier : ℕ → A
  pub number : Square A

-- "The state is k, at first 1, and a square".
pub record FreeState {ℓ} (A : Type ℓ) : Type ℓ where
  pub k : ℕ
  pub square : Square A

module _ {ℓ} {A : Type ℓ} where
  -- "at first the given numbers in the pattern and zero elsewhere"
  unfoldable pub free_start : Pattern → A → Square A → FreeState A
  free_start p zero values = record { k = 1; square = placed p zero values }

  -- "A step is taken if k is at most n, p is a row from k on, and row p's entry in column k is not zero." Numbers have no magnitude here, so the
  -- least magnitude of a pivot (document 02, Ticket 14) is not asked: every pivot that meets it differs from zero, so the steps of runs are among these.
  unfoldable pub taken : Pattern → (A → Bool) → FreeState A → FreeStep A → Bool
  taken p is_zero s step =
      leb s.k p.n && ((leb s.k step.row && leb step.row p.height) && not (is_zero (s.square step.row s.k)))

  -- "In each row i below k whose entry in column k is not zero, the step's multiplier for row i, zero or not, replaces it. Each place (i, j),
  -- j above k, of such a row becomes the step's number for it if that multiplier and the entry at (k, j) both differ from zero. All else stays".
  -- `square` is the square after the exchange.
  unfoldable pub replaced : (A → Bool) → ℕ → FreeStep A → Square A → Square A
  replaced is_zero k step square i j =
      cond (ltb k i && not (is_zero (square i k)))
      (cond (eqb j k) (step.multiplier i)
      (cond (ltb k j && (not (is_zero (step.multiplier i)) && not (is_zero (square k j)))) (step.number i j) (square i j)))
      (square i j)

  -- "Any other step is refused and changes nothing, k included."
  unfoldable pub free_step : Pattern → (A → Bool) → FreeState A → FreeStep A → FreeState A
  free_step p is_zero s step =
      cond (taken p is_zero s step)
      (record { k = suc s.k; square = replaced is_zero s.k step (exchanged s.k step.row s.square) })
      s

  -- "Each step gets the square and the k that the last one left; nothing else writes them."
  unfoldable pub free_run : Pattern → (A → Bool) → FreeState A → List (FreeStep A) → FreeState A
  free_run p is_zero s [] = s
  free_run p is_zero s (step ∷ steps) = free_run p is_zero (free_step p is_zero s step) steps

  -- the state after the first t of a list of steps, refused ones counted, from the given numbers on
  unfoldable pub free_after : Pattern → (A → Bool) → A → Square A → List (FreeStep A) → ℕ → FreeState A
  free_after p is_zero zero values steps t = free_run p is_zero (free_start p zero values) (take t steps)
