-- Rows k and p change places column by column: k itself, then the members of U_k, first those before p, then p, then those beyond it. U_k has p unless p is above n.
use Rattle.std.specs.Prelude.{true, cond, List, ◌∷◌, ◌≡◌, ℕ, ◌-◌, ◌≤◌, ◌<◌, Float, length, get_or, take}
use Rattle.lists.specs.Sets.{member}
use Rattle.foundation.specs.Plan.{Planning, lower, upper}
use Rattle.foundation.specs.PlanCall.{SideStores}
use Rattle.foundation.specs.Slots.{slots_of}
use Rattle.foundation.specs.Square.{Square, exchanged}
use Rattle.foundation.specs.Subscripts.{kept}
use Rattle.run_slots.specs.Index.{Indexed, Grid}
use Rattle.run_slots.specs.Shows.{SquareStores, square_stores, ShowsAll}

-- some columns of one square, the others of another
unfoldable pub columns_of : List ℕ → Square Float → Square Float → Square Float
columns_of done new old i j = cond (member j done) (new i j) (old i j)

-- The stores show the square in which rows k and p are exchanged in column k and in the first t columns of U_k.
pub record Swapped (s : Planning) (n height k p t : ℕ) (square : Square Float) (right : ℕ → Float) (z : SquareStores) : Type 0 where
  pub shows : ShowsAll s n height (columns_of (k ∷ take t (kept s upper k)) (exchanged k p square) square) right z

-- Column k is done; `us` is U_k, whose slots begin at `first`; p is a member of L_k.
pub record BeforeAsks (us : List ℕ) (first p : ℕ) (i : SideStores) (l u : List Float) : Type 0 where
  pub s : Planning
  pub n : ℕ
  pub height : ℕ
  pub k : ℕ
  pub square : Square Float
  pub right : ℕ → Float
  pub d : List Float
  pub x : List Float
  pub grid : Grid s n height
  pub index : Indexed s lower n i
  pub low : 1 ≤ k
  pub row : member p (kept s lower k) ≡ true
  pub us_are : us ≡ kept s upper k
  pub first_is : first ≡ slots_of s upper (k - 1)
  pub swapped : Swapped s n height k p 0 square right (square_stores l u d x)

-- The columns of U_k before p are done, t of them: p stands at place t. A row above n is no column: all of U_k is before it.
pub record BeforeLeaves (t : ℕ) (us : List ℕ) (first p : ℕ) (i : SideStores) (l u l' u' : List Float) (w : BeforeAsks us first p i l u) : Type 0 where
  pub inside : t ≤ length us
  pub at : t < length us → get_or us t 0 ≡ p
  pub above : t ≡ length us → w.n < p
  pub swapped : Swapped w.s w.n w.height w.k p t w.square w.right (square_stores l' u' w.d w.x)

-- The columns of U_k up to p are done, `from` of them; `own` is U_p, whose slots begin at `second`.
pub record BeyondAsks (us : List ℕ) (first from : ℕ) (own : List ℕ) (second : ℕ) (u : List Float) : Type 0 where
  pub s : Planning
  pub n : ℕ
  pub height : ℕ
  pub k : ℕ
  pub p : ℕ
  pub square : Square Float
  pub right : ℕ → Float
  pub l : List Float
  pub d : List Float
  pub x : List Float
  pub grid : Grid s n height
  pub low : 1 ≤ k
  pub row : member p (kept s lower k) ≡ true
  pub us_are : us ≡ kept s upper k
  pub first_is : first ≡ slots_of s upper (k - 1)
  pub own_are : own ≡ kept s upper p
  pub second_is : second ≡ slots_of s upper (p - 1)
  pub some : 1 ≤ from
  pub within : from ≤ length us
  pub last : get_or us (from - 1) 0 ≡ p
  pub swapped : Swapped s n height k p from square right (square_stores l u d x)

-- All columns of U_k are done.
abbrev pub BeyondLeaves : (us : List ℕ) (first from : ℕ) (own : List ℕ) (second : ℕ) (u u' : List Float) → BeyondAsks us first from own second u → Type 0
BeyondLeaves us first from own second u u' w =
    Swapped w.s w.n w.height w.k w.p (length us) w.square w.right (square_stores w.l u' w.d w.x)
