-- Flags and counts of a step: whether all that it wrote is finite, and how many numbers are not zero.
use Rattle.std.specs.Prelude.{Bool, true, false, cond, List, [], ◌∷◌, map, ℕ, ◌+◌, Float, leb}
use Rattle.lists.specs.Functions.{all, keep}
use Rattle.foundation.specs.Numbers.{finite, is_zero}
use Rattle.foundation.specs.Plan.{Planning, Side}
use Rattle.foundation.specs.Subscripts.{kept}
use Rattle.foundation.specs.Square.{Square}
use Rattle.foundation.specs.Shown.{at_side}

-- A step's flag after one of its parts: 1 once something was not finite. (14 names the step, not the place, so it is looked at once, at the
-- step's end.)
unfoldable pub flagged : ℕ → Bool → ℕ
flagged bad true = bad
flagged bad false = 1

-- how many numbers of a list are not zero
unfoldable pub nonzeros : List Float → ℕ
nonzeros [] = 0
nonzeros (v ∷ vs) = cond (is_zero v) 0 1 + nonzeros vs

-- those of the rows that have a place on the diagonal, which ends at row n
unfoldable pub with_diagonal : ℕ → List ℕ → List ℕ
with_diagonal n rows = keep (λ i. leb i n) rows

-- whether the numbers of list i of a side are all finite
unfoldable pub sound_list : Planning → Side → Square Float → ℕ → Bool
sound_list s side square i = all finite (map (at_side side square i) (kept s side i))
