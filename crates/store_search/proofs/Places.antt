-- Laws of where a subscript stands in an ascending list.
use mathlib.Core.Bool.{true, false}
use mathlib.Core.List.{List}
use mathlib.Core.Path.{◌≡◌}
use Prim.Native.Nat.{ℕ, ◌+◌, ◌≤◌, ◌<◌}
use native.Mathlib.Decide.{dec_lt}
use native.Mathlib.Omega.{arith}
use lib.ListN.{length, get_or}
use Rattle.lists.specs.Sets.{member, Ascending, index_of}
use Rattle.lists.proofs.Members.{fails}
use Rattle.lists.proofs.Places.{ascending_at, ascending_below, index_at, index_below}
use Rattle.store_search.specs.Places.{FirstFrom}

-- a member stands at the place found
pub found-member :
    (low : ℕ) (list : List ℕ) (x r : ℕ) → Ascending low list → FirstFrom list x r → member x list ≡ true → (r < length list) × (get_or list r 0 ≡ x)
found-member low list x r h f m =
    let i = index_of x list in
    let at : get_or list i 0 ≡ x = index_at x list m in
    let inside : i < length list = index_below x list m in
    elim (dec_lt i r) [
      | yes l ↦ absurd (omega (arith, f.before i l))
      | no l ↦ elim (dec_lt r i) [
        | yes k ↦ absurd (omega (arith, f.behind r (omega arith) (omega arith), ascending_below low r i list h k inside))
        | no k ↦ let same : r ≡ i = omega arith in (omega arith, rw same at)
      ]
    ]

-- what does not stand there is no member
pub found_none :
    (low : ℕ) (list : List ℕ) (x r : ℕ) → Ascending low list → FirstFrom list x r → (r < length list → get_or list r 0 ≡ x → ⊥) → member x list ≡ false
found_none low list x r h f none = fails (member x list) (λ m. let (a, b) = found-member low list x r h f m in none a b)

-- ---- the search by halves

-- all before `low` are below x, all from `high` on are not
pub record Halving (list : List ℕ) (x low high : ℕ) : Type 0 where
  pub before : (t : ℕ) → t < low → get_or list t 0 < x
  pub behind : (t : ℕ) → high ≤ t → t < length list → x ≤ get_or list t 0

pub halving_start : (list : List ℕ) (x : ℕ) → Halving list x 0 (length list)
halving_start list x = record { before = λ t l. absurd (omega arith); behind = λ t l u. absurd (omega arith) }

module _ (list : List ℕ) (x low high mid : ℕ) (asc : Ascending 0 list) (h : Halving list x low high) (inside : mid < length list) where
  pub halving_up : get_or list mid 0 < x → Halving list x (mid + 1) high
  halving_up l =
      record {
        before = λ t u. let b = ascending_at 0 t mid list asc (omega arith) inside in omega arith;
        behind = h.behind;
      }

  pub halving_down : x ≤ get_or list mid 0 → Halving list x low mid
  halving_down l =
      record {
        before = h.before;
        behind = λ t u v. let b = ascending_at 0 mid t list asc u v in omega arith;
      }

pub halving_end : (list : List ℕ) (x low high : ℕ) → low ≤ length list → high ≤ low → Halving list x low high → FirstFrom list x low
halving_end list x low high within e h = record { within = within; before = h.before; behind = λ t l u. h.behind t (omega arith) u }
