-- Squares of numbers of any kind, by row and column, and what the float run and the free elimination do alike.
use Rattle.std.specs.Prelude.{cond, ℕ, eqb, leb}
use Rattle.foundation.specs.Pattern.{Pattern, present}

-- a number at each place (i, j), rows and columns from 1
abbrev pub Square {ℓ} : Type ℓ → Type ℓ
Square A = ℕ → ℕ → A

-- row k for p and p for k, every other row for itself
unfoldable pub swap : ℕ → ℕ → ℕ → ℕ
swap k p i = cond (eqb i k) p (cond (eqb i p) k i)

module _ {ℓ} {A : Type ℓ} where
  -- the given numbers in the pattern and `zero` elsewhere
  unfoldable pub placed : Pattern → A → Square A → Square A
  placed p zero values i j = cond (present p i j) (values i j) zero

  -- Document 01, "Elimination": "Rows k and p are exchanged in columns k to n (..); earlier multipliers are not moved."
  -- "Free elimination": "Rows k and p are exchanged in columns k and above; earlier columns stay."
  unfoldable pub exchanged : ℕ → ℕ → Square A → Square A
  exchanged k p square i j = cond (leb k j) (square (swap k p i) j) (square i j)
