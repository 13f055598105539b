-- The square as the slots show it, and laid back into a square.
use Rattle.std.specs.Prelude.{List, map, ℕ, get_or, Float}
use Rattle.lists.specs.Functions.{chain}
use Rattle.lists.specs.Sets.{upto}
use Rattle.foundation.specs.Numbers.{plus_zero}
use Rattle.foundation.specs.Plan.{Planning, Side, lower, upper}
use Rattle.foundation.specs.Subscripts.{kept}
use Rattle.foundation.specs.Slots.{Slot, none, on_diagonal, in_side, slot_at}
use Rattle.foundation.specs.Square.{Square}

-- the place of a subscript x in list k of a side: (x, k) in L, (k, x) in U
unfoldable pub at_side : Side → Square Float → ℕ → ℕ → Float
at_side lower square k x = square x k
at_side upper square k x = square k x

-- Document 01, "Free elimination": "each slot has its place's bits". Slots of a side run list after list.
unfoldable pub shown : Planning → Side → ℕ → Square Float → List Float
shown s side n square = chain (λ k. map (at_side side square k) (kept s side k)) (upto n)

-- "the diagonal has n slots of its own"
unfoldable pub shown_diagonal : ℕ → Square Float → List Float
shown_diagonal n square = map (λ i. square i i) (upto n)

-- the number at place (i, j) of these stores: "each place of the square without a slot is +0"
unfoldable pub slot_read : List Float → List Float → List Float → Slot → Float
slot_read lowers uppers diagonal none = plus_zero
slot_read lowers uppers diagonal (on_diagonal q) = get_or diagonal q plus_zero
slot_read lowers uppers diagonal (in_side lower q) = get_or lowers q plus_zero
slot_read lowers uppers diagonal (in_side upper q) = get_or uppers q plus_zero

-- the square that these stores show
unfoldable pub laid : Planning → List Float → List Float → List Float → Square Float
laid s lowers uppers diagonal i j = slot_read lowers uppers diagonal (slot_at s i j)
