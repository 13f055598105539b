-- Where a subscript stands in an ascending list.
use Rattle.std.specs.Prelude.{List, ℕ, ◌≤◌, ◌<◌, length, get_or}

-- Place r is the first whose member is not below x: all before it are below x, all from it on are not.
pub record FirstFrom (list : List ℕ) (x r : ℕ) : Type 0 where
  pub within : r ≤ length list
  pub before : (t : ℕ) → t < r → get_or list t 0 < x
  pub behind : (t : ℕ) → r ≤ t → t < length list → x ≤ get_or list t 0
