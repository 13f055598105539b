-- One row of back substitution, as its slots and subscripts read.
use Rattle.std.specs.Prelude.{List, [], ◌∷◌, ℕ, ◌-◌, ◌≤◌, ◌<◌, Float, length, get_or}
use Rattle.std.specs.Float.{nan}
use Rattle.run_slots.specs.Products.{less_product}

-- Document 01, "Elimination": "subtract u × solution for nonzero u, columns ascending": off a number, for the u of a row with their columns.
unfoldable pub less_all : List Float → List ℕ → List Float → Float → Float
less_all [] subs solution value = value
less_all (u ∷ us) [] solution value = value
less_all (u ∷ us) (j ∷ js) solution value = less_all us js solution (less_product u (get_or solution (j - 1) nan) value)

-- columns from 1 to n
abbrev pub Columns : ℕ → List ℕ → Type 0
Columns n subs = (q : ℕ) → q < length subs → (1 ≤ get_or subs q 0) × (get_or subs q 0 ≤ n)
