-- The columns of U_k that are not before row p: p itself and those beyond it. A row above n has none of them.
use Rattle.std.specs.Prelude.{true, List, ◌≡◌, ℕ, ◌+◌, ◌-◌, ◌≤◌, ◌<◌, Float, length, get_or}
use Rattle.lists.specs.Sets.{member}
use Rattle.foundation.specs.Plan.{Planning, lower, upper}
use Rattle.foundation.specs.PlanCall.{SideStores}
use Rattle.foundation.specs.Slots.{slots_of}
use Rattle.foundation.specs.Square.{Square}
use Rattle.foundation.specs.Subscripts.{kept}
use Rattle.run_slots.specs.Index.{Indexed, Grid}
use Rattle.run_slots.specs.Shows.{square_stores}
use Rattle.run_swap.specs.Swapping.{Swapped}

-- The columns of U_k before p are done, t of them: p stands at place t, or is no column. `us` is U_k, whose subscripts begin at `from` and whose
-- slots begin at `first`.
pub record BehindAsks (us : List ℕ) (from first t p : ℕ) (i : SideStores) (u d : List Float) : Type 0 where
  pub s : Planning
  pub n : ℕ
  pub height : ℕ
  pub k : ℕ
  pub square : Square Float
  pub right : ℕ → Float
  pub l : List Float
  pub x : List Float
  pub grid : Grid s n height
  pub index : Indexed s upper n i
  pub low : 1 ≤ k
  pub row : member p (kept s lower k) ≡ true
  pub us_are : us ≡ kept s upper k
  pub cells : from + length us ≤ length i.subs
  pub first_is : first ≡ slots_of s upper (k - 1)
  pub inside : t ≤ length us
  pub at : t < length us → get_or us t 0 ≡ p
  pub swapped : Swapped s n height k p t square right (square_stores l u d x)

-- All columns of U_k are done.
abbrev pub BehindLeaves : (us : List ℕ) (from first t p : ℕ) (i : SideStores) (u d u' d' : List Float) → BehindAsks us from first t p i u d → Type 0
BehindLeaves us from first t p i u d u' d' w =
    Swapped w.s w.n w.height w.k p (length us) w.square w.right (square_stores w.l u' d' w.x)
