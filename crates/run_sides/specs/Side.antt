-- One side's part of a step, with its work stores.
use Rattle.std.specs.Prelude.{true, cond, List, map, ◌≡◌, ℕ, ◌+◌, ◌≤◌, eqb, ltb, Float, length}
use Rattle.lists.specs.Functions.{all}
use Rattle.lists.specs.Sets.{member}
use Rattle.foundation.specs.Plan.{Planning, Side}
use Rattle.foundation.specs.PlanCall.{SideStores}
use Rattle.foundation.specs.Reference.{multiplier}
use Rattle.foundation.specs.Shown.{at_side}
use Rattle.foundation.specs.Square.{Square}
use Rattle.foundation.specs.Subscripts.{kept}
use Rattle.run_slots.specs.Flags.{flagged, sound_list}
use Rattle.run_slots.specs.Index.{Indexed}
use Rattle.run_slots.specs.Shows.{Shows}
use Rattle.run_sides.specs.Heads.{Reduction}
use Rattle.run_stretch.specs.Work.{Dense}

-- The square with the multipliers of step k in column k, nothing taken off yet.
unfoldable pub divided : ℕ → Square Float → Square Float
divided k square i j = cond (ltb k i) (cond (eqb j k) (multiplier k square i) (square i j)) (square i j)

-- The side's store shows the square before; however list k's numbers are laid out in the work stores, which go by the row count, they make of
-- it the square after.
pub record SideAsks (y : List Float) (stores : SideStores) (heads : List ℕ) (factors copy dense : List Float) (k : ℕ) : Type 0 where
  pub s : Planning
  pub side : Side
  pub n : ℕ
  pub height : ℕ
  pub old : Square Float
  pub new : Square Float
  pub low : 1 ≤ k
  pub high : k ≤ n
  pub tall : n ≤ height
  pub index : Indexed s side n stores
  pub shows : Shows s side n old y
  pub room : length dense ≡ height + 1
  pub fits : length (kept s side k) ≤ length copy
  pub bounded : (x : ℕ) → member x (kept s side k) ≡ true → x ≤ height
  pub reduction : (values dense : List Float) → values ≡ map (at_side side old k) (kept s side k) → Dense height (kept s side k) (at_side side old k) dense
      → Reduction s side n old new heads (kept s side k) factors values dense

-- The side's store shows the square after; the flag tells whether all that was written is finite.
pub record SideLeaves (y : List Float) (stores : SideStores) (heads : List ℕ) (factors copy dense : List Float) (k flag : ℕ) (y' : List Float) (r : ℕ)
    (w : SideAsks y stores heads factors copy dense k) : Type 0 where
  pub shows : Shows w.s w.side w.n w.new y'
  pub flags : r ≡ flagged flag (all (sound_list w.s w.side w.new) heads)
