-- The pivot row brought to row k, whether it stands there already or not.
use Rattle.std.specs.Prelude.{false, ◌⊎◌, ◌≡◌, ℕ, ◌≤◌, ◌<◌, Float, length, get_or}
use Rattle.foundation.specs.Numbers.{plus_zero}
use Rattle.foundation.specs.Pattern.{Pattern}
use Rattle.foundation.specs.Plan.{Planning, lower}
use Rattle.foundation.specs.PlanCall.{PlanStores}
use Rattle.foundation.specs.Reference.{exchanged_right}
use Rattle.foundation.specs.Slots.{has_slot}
use Rattle.foundation.specs.Square.{Square, exchanged}
use Rattle.foundation.specs.Subscripts.{kept}
use Rattle.run_slots.specs.Index.{Layout}
use Rattle.run_slots.specs.Shows.{SquareStores, ShowsAll}

-- The stores show a square and a right side; the pivot row is k, or stands at a place of L_k; before the exchange and after it nothing but +0
-- stands outside the slots.
pub record BringAsks (k row place : ℕ) (q : PlanStores) (z : SquareStores) : Type 0 where
  pub p : Pattern
  pub s : Planning
  pub n : ℕ
  pub square : Square Float
  pub right : ℕ → Float
  pub layout : Layout p s n q
  pub low : 1 ≤ k
  pub high : k ≤ n
  pub found_at : (row ≡ k) ⊎ ((place < length (kept s lower k)) × (row ≡ get_or (kept s lower k) place 0))
  pub shows : ShowsAll s n p.height square right z
  pub outside : (i j : ℕ) → has_slot s i j ≡ false → square i j ≡ plus_zero
  pub stays : (i j : ℕ) → has_slot s i j ≡ false → exchanged k row square i j ≡ plus_zero

-- Document 01, "Elimination": "Rows k and p are exchanged in columns k to n and in the right side; earlier multipliers are not moved."
abbrev pub BringLeaves : (k row place : ℕ) (q : PlanStores) (z z' : SquareStores) → BringAsks k row place q z → Type 0
BringLeaves k row place q z z' w =
    ShowsAll w.s w.n w.p.height (exchanged k row w.square) (exchanged_right k row w.right) z'
