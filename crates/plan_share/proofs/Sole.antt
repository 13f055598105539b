-- The place of a list that step k shares with a sole step l, as the code reads and notes it.
use mathlib.Core.Bool.{false}
use mathlib.Core.List.{List}
use mathlib.Core.Path.{◌≡◌}
use Prim.Native.Nat.{ℕ, ◌+◌, ◌-◌, ◌≤◌, ◌<◌}
use native.Mathlib.Nat.{le_of_lt}
use native.Mathlib.Omega.{arith}
use lib.Dec.{eqb}
use lib.ListN.{length, get_or}
use Rattle.lists.specs.Functions.{span}
use mir.Syntax.{w64}
use mir.Val.{Fits}
use borrow.Author.Tests.{eq-eqb, ne_eqb}
use Rattle.store_place.specs.Places.{ListAsks, ListAt}
use Rattle.plan_share.specs.Sole.{SoleReady, sole_start, sole_slots, sole_followed}

module _ (l end : ℕ) (starts slots : List ℕ) where
  -- where l's list has one member k's has none, and starts at the store's end
  pub sole-empty : span slots l ≡ 1 → sole_start l starts slots end ≡ end
  unfolding sole_start
  sole-empty e = rw (eq-eqb (span slots l) 1 e)

  -- any other starts one place behind
  pub sole-behind : (span slots l ≡ 1 → ⊥) → sole_start l starts slots end ≡ get_or starts (l - 1) 0 + 1
  unfolding sole_start
  sole-behind e = rw (ne_eqb (span slots l) 1 e)

-- ---- what the code reads and writes

module _ {k l : ℕ} {starts slots : List ℕ} (r : SoleReady k l starts slots) where
  -- where l's list lies can be told
  pub sole-asks : ListAsks starts slots l
  sole-asks =
      record {
        low = r.low;
        in_slots = omega (arith, r);
        in_starts = omega (arith, r);
        rises = le_of_lt r.rising;
        fits = record { fits = omega (arith, r.small, r.small_start) };
      }

  -- the places of k
  pub sole-low : 1 ≤ k
  sole-low = omega (arith, r)

  pub sole-before_in_slots : k - 1 < length slots
  sole-before_in_slots = omega (arith, r)

  pub sole_in_starts : k - 1 < length starts
  sole_in_starts = omega (arith, r)

  module _ {from to slot next : ℕ} (at : ListAt starts slots l from to slot next) where
    -- the slots of l's list do not end before they begin, and it has a member
    pub sole-rises : slot ≤ next
    sole-rises = omega (arith, r.rising, at.slot_is, at.next_is)

    pub sole-some : 1 ≤ next - slot
    sole-some = omega (arith, r.rising, at.slot_is, at.next_is)

    -- where k's slots end
    pub sole-slots : get_or slots (k - 1) 0 + (next - slot - 1) ≡ sole_slots k l slots
    unfolding sole_slots
    sole-slots = rw (at.slot_is, at.next_is)

    pub sole-fits : Fits w64 (get_or slots (k - 1) 0 + (next - slot - 1))
    sole-fits = record { fits = omega (arith, r.small, at.slot_is, at.next_is) }

    -- it starts where l's does or behind it
    pub start_fits : (d : ℕ) → d ≤ 1 → Fits w64 (from + d)
    start_fits d few = record { fits = omega (arith, r.small_start, at.from_is) }

    -- k's list is empty
    pub sole-starts_end : (end : ℕ) → next - slot - 1 ≡ 0 → sole_start l starts slots end ≡ end
    sole-starts_end end none = sole-empty l end starts slots (omega (arith, r.rising, at.slot_is, at.next_is))

    -- or it is not
    pub sole-starts-behind : (end : ℕ) → (next - slot - 1 ≡ 0 → ⊥) → sole_start l starts slots end ≡ from + 1
    sole-starts-behind end some = rw at.from_is (sole-behind l end starts slots (λ e. some (omega (arith, at.slot_is, at.next_is))))

-- ---- compared

module _ (k l end : ℕ) (starts slots : List ℕ) where
  -- its slots end elsewhere
  pub followed-apart : (get_or slots k 0 ≡ sole_slots k l slots → ⊥) → sole_followed k l starts slots end ≡ false
  unfolding sole_followed
  followed-apart other = rw (ne_eqb (get_or slots k 0) (sole_slots k l slots) other)

  -- they end there: its start decides
  pub followed_start :
      (start : ℕ) → get_or slots k 0 ≡ sole_slots k l slots → sole_start l starts slots end ≡ start
      → sole_followed k l starts slots end ≡ eqb (get_or starts (k - 1) 0) start
  unfolding sole_followed
  followed_start start ends is = rw (is, eq-eqb (get_or slots k 0) (sole_slots k l slots) ends)
