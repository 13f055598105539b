-- The two work stores of a step: a copy of the crossing list's numbers, and the same laid out by subscript.
use Rattle.std.specs.Prelude.{false, cond, List, map, ◌≡◌, ℕ, ◌+◌, ◌≤◌, ◌<◌, Float, length, get_or}
use Rattle.std.specs.Float.{nan}
use Rattle.lists.specs.Sets.{member}
use Rattle.foundation.specs.Numbers.{plus_zero}

-- a work store that is +0 but for some subscripts
unfoldable pub ClearBut : List ℕ → List Float → Type 0
ClearBut subs store = (x : ℕ) → x < length store → member x subs ≡ false → get_or store x nan ≡ plus_zero

-- values laid out by their subscripts, +0 elsewhere
unfoldable pub Spread : List ℕ → List Float → List Float → Type 0
Spread subs values store = (f : ℕ → Float) → values ≡ map f subs → (x : ℕ) → x < length store → get_or store x nan ≡ cond (member x subs) (f x) plus_zero

-- a work store with a place for 0 and each number up to n, the row count of a run, that has a list's values at its members and +0 elsewhere
pub record Dense (n : ℕ) (list : List ℕ) (value : ℕ → Float) (store : List Float) : Type 0 where
  pub size : length store ≡ n + 1
  pub has : (x : ℕ) → x ≤ n → get_or store x nan ≡ cond (member x list) (value x) plus_zero
