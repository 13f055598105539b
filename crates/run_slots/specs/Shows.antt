-- What the stores of a run hold: a square, as its slots show it, and a right side.
use Rattle.std.specs.Prelude.{true, false, List, map, ◌≡◌, ℕ, ◌≤◌, Float, length}
use Rattle.lists.specs.Functions.{padded}
use Rattle.lists.specs.Sets.{upto}
use Rattle.foundation.specs.Closed.{Held, marked}
use Rattle.foundation.specs.Numbers.{plus_zero, is_plus_zero, finite}
use Rattle.foundation.specs.Pattern.{Pattern}
use Rattle.foundation.specs.Plan.{Planning, Side, lower, upper}
use Rattle.foundation.specs.Reference.{Going}
use Rattle.foundation.specs.Shown.{shown, shown_diagonal}
use Rattle.foundation.specs.Slots.{slots_of, has_slot}
use Rattle.foundation.specs.Square.{Square}

-- A side's store shows a square: its slots, and +0 behind them.
pub record Shows (s : Planning) (side : Side) (n : ℕ) (square : Square Float) (store : List Float) : Type 0 where
  pub fits : slots_of s side n ≤ length store
  pub holds : store ≡ padded plus_zero (length store) (shown s side n square)

-- The four stores that hold a square and its right side: the slots of L and of U, the diagonal, the right side.
pub record SquareStores : Type 0 where
  pub lower_slots : List Float
  pub upper_slots : List Float
  pub diagonal : List Float
  pub right_side : List Float

abbrev pub square_stores : (l u d x : List Float) → SquareStores
square_stores l u d x = record { lower_slots = l; upper_slots = u; diagonal = d; right_side = x }

-- The four stores of a run show a square and a right side.
pub record ShowsAll (s : Planning) (n height : ℕ) (square : Square Float) (right : ℕ → Float) (z : SquareStores) : Type 0 where
  pub lowers : Shows s lower n square z.lower_slots
  pub uppers : Shows s upper n square z.upper_slots
  pub diagonal : z.diagonal ≡ shown_diagonal n square
  pub rights : z.right_side ≡ map right (upto height)

-- A square that is finite and holds +0 at every place without a slot.
pub record InSlots (s : Planning) (square : Square Float) : Type 0 where
  pub outside : (i j : ℕ) → has_slot s i j ≡ false → square i j ≡ plus_zero
  pub sound : (i j : ℕ) → finite (square i j) ≡ true

-- Where a run stands before step k: the stores show its square and right side, all of which is finite, and the invariant of the theorem that
-- the slots suffice holds of the places whose bits are not +0's.
pub record Stands (p : Pattern) (s : Planning) (n k : ℕ) (g : Going) (z : SquareStores) : Type 0 where
  pub shows : ShowsAll s n p.height g.square g.right z
  pub held : Held p s.L s.U k (marked is_plus_zero g.square)
  pub sound : (i j : ℕ) → finite (g.square i j) ≡ true
  pub right_sound : (i : ℕ) → finite (g.right i) ≡ true
