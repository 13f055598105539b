-- The exchange of rows k and p in the slots: what it takes for granted, and what it leaves.
use Rattle.std.specs.Prelude.{false, ◌≡◌, ℕ, ◌≤◌, ◌<◌, Float, length, get_or}
use Rattle.foundation.specs.Numbers.{plus_zero}
use Rattle.foundation.specs.Pattern.{Pattern}
use Rattle.foundation.specs.Plan.{Planning, lower}
use Rattle.foundation.specs.PlanCall.{PlanStores}
use Rattle.foundation.specs.Reference.{exchanged_right}
use Rattle.foundation.specs.Slots.{has_slot}
use Rattle.foundation.specs.Square.{Square, exchanged}
use Rattle.foundation.specs.Subscripts.{kept}
use Rattle.run_slots.specs.Index.{Layout}
use Rattle.run_slots.specs.Shows.{SquareStores, ShowsAll}

-- row p: the member at a place of L_k without k
abbrev pub row_at : Planning → ℕ → ℕ → ℕ
row_at s k place = get_or (kept s lower k) place 0

-- The stores show a square and a right side; before the exchange and after it nothing but +0 stands outside the slots.
pub record ExchangeAsks (k place : ℕ) (q : PlanStores) (z : SquareStores) : Type 0 where
  pub p : Pattern
  pub s : Planning
  pub n : ℕ
  pub square : Square Float
  pub right : ℕ → Float
  pub layout : Layout p s n q
  pub low : 1 ≤ k
  pub high : k ≤ n
  pub inside : place < length (kept s lower k)
  pub shows : ShowsAll s n p.height square right z
  pub outside : (i j : ℕ) → has_slot s i j ≡ false → square i j ≡ plus_zero
  pub stays : (i j : ℕ) → has_slot s i j ≡ false → exchanged k (row_at s k place) square i j ≡ plus_zero

-- Document 01, "Elimination": "Rows k and p are exchanged in columns k to n and in the right side; earlier multipliers are not moved."
abbrev pub ExchangeLeaves : (k place : ℕ) (q : PlanStores) (z z' : SquareStores) → ExchangeAsks k place q z → Type 0
ExchangeLeaves k place q z z' w =
    ShowsAll w.s w.n w.p.height (exchanged k (row_at w.s k place) w.square) (exchanged_right k (row_at w.s k place) w.right) z'
