-- The elimination of a step once its pivot row stands in place.
use Rattle.std.specs.Prelude.{true, List, ◌≡◌, ℕ, ◌+◌, ◌≤◌, Float, length}
use Rattle.foundation.specs.Numbers.{finite}
use Rattle.foundation.specs.Plan.{Planning, lower, upper}
use Rattle.foundation.specs.PlanCall.{PlanStores}
use Rattle.foundation.specs.Reference.{multiplier, eliminated, eliminated_right, updates_at, sound_step}
use Rattle.foundation.specs.Square.{Square}
use Rattle.run_slots.specs.Flags.{flagged}
use Rattle.run_slots.specs.Index.{Indexed, Grid}
use Rattle.run_slots.specs.Shows.{SquareStores, ShowsAll, InSlots}

-- The stores show a square in its slots, finite, and a right side, finite, of `height` rows; the two work stores have a place for each row and
-- one more.
pub record ElimAsks (k : ℕ) (q : PlanStores) (z : SquareStores) (copy dense : List Float) : Type 0 where
  pub s : Planning
  pub n : ℕ
  pub height : ℕ
  pub square : Square Float
  pub right : ℕ → Float
  pub low : 1 ≤ k
  pub high : k ≤ n
  pub few : n ≤ 1024
  pub tall : n ≤ height
  pub rows_few : height ≤ 2048
  pub lowers : Indexed s lower n q.lower_side
  pub uppers : Indexed s upper n q.upper_side
  pub grid : Grid s n height
  pub shows : ShowsAll s n height square right z
  pub held : InSlots s square
  pub right_sound : (i : ℕ) → finite (right i) ≡ true
  pub copy_size : length copy ≡ height
  pub dense_size : length dense ≡ height + 1

-- The stores show the step's square and right side; the flag is 0 where all that was written is finite.
pub record ElimLeaves (k : ℕ) (q : PlanStores) (z : SquareStores) (copy dense : List Float) (z' : SquareStores) (flag updates : ℕ)
    (w : ElimAsks k q z copy dense) : Type 0 where
  pub shows : ShowsAll w.s w.n w.height (eliminated k w.square) (eliminated_right k (multiplier k w.square) w.right) z'
  pub flags : flag ≡ flagged 0 (sound_step w.height w.n k w.square w.right)
  pub counts : updates ≡ updates_at w.height w.n k w.square
  pub few : updates ≤ 2097152
