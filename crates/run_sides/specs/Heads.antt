-- The lists of a side that a step reaches, each by its head: what is taken off their numbers.
use Rattle.std.specs.Prelude.{true, false, List, ◌≡◌, ℕ, ◌+◌, ◌≤◌, ◌<◌, Float, length, get_or, take, drop}
use Rattle.std.specs.Float.{nan}
use Rattle.lists.specs.Functions.{all}
use Rattle.lists.specs.Sets.{member, Ascending}
use Rattle.foundation.specs.Numbers.{is_zero, finite}
use Rattle.foundation.specs.Plan.{Planning, Side}
use Rattle.foundation.specs.PlanCall.{SideStores}
use Rattle.foundation.specs.Reference.{reduced}
use Rattle.foundation.specs.Shown.{at_side}
use Rattle.foundation.specs.Square.{Square}
use Rattle.foundation.specs.Subscripts.{kept}
use Rattle.run_slots.specs.Flags.{flagged, sound_list}
use Rattle.run_slots.specs.Index.{Indexed}
use Rattle.run_slots.specs.Shows.{Shows}
use Rattle.run_stretch.specs.Stretches.{gathered}

-- What a side's part of a step makes of a square: off the list of each head, its factor times what `dense` has. Only at the members of `over`
-- need `dense` be other than zero. There are lists for 1 to n: a head that `over` goes beyond has one, a head above n has none.
pub record Reduction (s : Planning) (side : Side) (n : ℕ) (old new : Square Float) (heads over : List ℕ) (factors values dense : List Float) : Type 0 where
  pub headed : (i x : ℕ) → member i heads ≡ true → member x over ≡ true → i < x → (1 ≤ i) × (i ≤ n)
  pub once : Ascending 0 heads
  pub factored : length factors ≡ length heads
  pub over_ascends : Ascending 0 over
  pub valued : values ≡ gathered dense over
  pub within : (i x : ℕ) → member i heads ≡ true → member x over ≡ true → i < x → member x (kept s side i) ≡ true
  pub others : (i x : ℕ) → member x (kept s side i) ≡ true → member x over ≡ false → is_zero (get_or dense x nan) ≡ true
  pub room : (i x : ℕ) → member x (kept s side i) ≡ true → x < length dense
  pub becomes : (t x : ℕ) → t < length heads → member x (kept s side (get_or heads t 0)) ≡ true
      → at_side side new (get_or heads t 0) x ≡ reduced (get_or factors t nan) (get_or dense x nan) (at_side side old (get_or heads t 0) x)
  pub stays : (i x : ℕ) → member i heads ≡ false → member x (kept s side i) ≡ true → at_side side new i x ≡ at_side side old i x
  pub sound : (i x : ℕ) → member i heads ≡ true → member x (kept s side i) ≡ true → finite (at_side side old i x) ≡ true

-- The side's store shows the square before; the crossing list opens at cell `opening` of the side's own subscripts.
pub record HeadsAsk (y : List Float) (stores : SideStores) (heads over : List ℕ) (factors values dense : List Float) (opening : ℕ) : Type 0 where
  pub s : Planning
  pub side : Side
  pub n : ℕ
  pub old : Square Float
  pub new : Square Float
  pub index : Indexed s side n stores
  pub reduction : Reduction s side n old new heads over factors values dense
  pub shows : Shows s side n old y
  pub inside : opening + length over ≤ length stores.subs
  pub opens : take (length over) (drop opening stores.subs) ≡ over

-- The side's store shows the square after; the flag tells whether all that was written is finite.
pub record HeadsLeave (y : List Float) (stores : SideStores) (heads over : List ℕ) (factors values dense : List Float) (opening flag : ℕ) (y' : List Float) (r : ℕ)
    (w : HeadsAsk y stores heads over factors values dense opening) : Type 0 where
  pub shows : Shows w.s w.side w.n w.new y'
  pub flags : r ≡ flagged flag (all (sound_list w.s w.side w.new) heads)
