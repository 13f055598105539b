-- Loading the rows of a pattern, entry after entry.
use Rattle.std.specs.Prelude.{Bool, true, cond, ◌&&◌, ◌||◌, List, [], ◌≡◌, ℕ, ◌-◌, ◌≤◌, ◌<◌, eqb, ltb, Float, length, get_or}
use Rattle.std.specs.Float.{nan}
use Rattle.lists.specs.Sets.{member, Ascending}
use Rattle.foundation.specs.Numbers.{plus_zero}
use Rattle.foundation.specs.Plan.{Planning, lower, upper}
use Rattle.foundation.specs.PlanCall.{PlanStores}
use Rattle.foundation.specs.Square.{Square}
use Rattle.foundation.specs.Subscripts.{kept}
use Rattle.run_slots.specs.Index.{Indexed}
use Rattle.run_slots.specs.Shows.{Shows}

-- whether place (a, b) was loaded, once the rows before i are, and of row i the columns `done`
unfoldable pub reached : ℕ → List ℕ → ℕ → ℕ → Bool
reached i done a b = ltb a i || (eqb a i && member b done)

-- the square so far: that which is loaded, and +0 elsewhere
unfoldable pub loaded_to : Square Float → ℕ → List ℕ → Square Float
loaded_to target i done a b = cond (reached i done a b) (target a b) plus_zero

-- The stores so far. The diagonal's store need not be +0 before, so it is told place by place.
pub record Loaded (s : Planning) (n : ℕ) (target : Square Float) (i : ℕ) (done : List ℕ) (l u d : List Float) : Type 0 where
  pub lowers : Shows s lower n (loaded_to target i done) l
  pub uppers : Shows s upper n (loaded_to target i done) u
  pub size : length d ≡ n
  pub diagonal : (a : ℕ) → 1 ≤ a → a ≤ n → reached i done a a ≡ true → get_or d (a - 1) nan ≡ target a a

-- The rows before i are loaded; row i's columns have their slots, and its values are the square's. Of a row above n every column lies before i.
pub record RowAsks (i : ℕ) (columns : List ℕ) (values : List Float) (stores : PlanStores) (l u d : List Float) : Type 0 where
  pub s : Planning
  pub n : ℕ
  pub target : Square Float
  pub low : 1 ≤ i
  pub lower_index : Indexed s lower n stores.lower_side
  pub upper_index : Indexed s upper n stores.upper_side
  pub as_many : length values ≡ length columns
  pub ascends : Ascending 1 columns
  pub bounded : (j : ℕ) → member j columns ≡ true → j ≤ n
  pub lower_slot : (j : ℕ) → member j columns ≡ true → j < i → member i (kept s lower j) ≡ true
  pub upper_slot : (j : ℕ) → member j columns ≡ true → i < j → member j (kept s upper i) ≡ true
  pub entries : (q : ℕ) → q < length columns → get_or values q nan ≡ target i (get_or columns q 0)
  pub loaded : Loaded s n target i [] l u d
