-- Where a list lies: list k of a side, by the four numbers that `store_place::list_place` reads from the side's index stores. Its subscripts are
-- those from `from` to before `to`, its slots those from `slot` to before `next`.
use mathlib.Core.List.{List, ◌++◌, map}
use mathlib.Core.Path.{◌≡◌, ◌∙◌}
use Prim.Native.Nat.{ℕ, ◌+◌, ◌-◌, ◌*◌, ◌^◌, ◌≤◌, ◌<◌}
use native.Mathlib.Omega.{arith}
use mir.Syntax.{w64}
use mir.Val.{Fits}
use lib.Ieee.{Float}
use lib.ListN.{length, take, drop, get_or}
use Rattle.lists.specs.Functions.{span}
use Rattle.lists.specs.Sets.{Ascending, index_of}
use Rattle.lists.proofs.Order.{ascending_weaken}
use Rattle.lists.proofs.Places.{at_index}
use Rattle.lists.proofs.Small.{part_fits, end_fits}
use Rattle.foundation.specs.Plan.{Planning, Side}
use Rattle.foundation.specs.PlanCall.{SideStores}
use Rattle.foundation.specs.Shown.{at_side}
use Rattle.foundation.specs.Slots.{slots_of}
use Rattle.foundation.specs.Square.{Square}
use Rattle.foundation.specs.Subscripts.{kept}
use Rattle.store_place.specs.Places.{ListAsks, ListAt}
use Rattle.run_slots.specs.Index.{Indexed}
use Rattle.run_slots.specs.Lists.{SlotAsks, SlotOf}
use Rattle.store_search.specs.Places.{FirstFrom}
use Rattle.run_slots.specs.Shows.{Shows}
use Rattle.store_search.proofs.Places.{found-member}
use Rattle.run_slots.proofs.Shows.{part, Elsewhere, slots_step, part_inside, shows_part, shows_write}

-- the part of a list from one place to before another, as code lends it
abbrev pub part_of : {A : Type 0} → ℕ → ℕ → List A → List A
part_of from to xs = take (to - from) (drop from xs)

-- the list with that part written anew
abbrev pub patched : {A : Type 0} → ℕ → ℕ → List A → List A → List A
patched from to new xs = take from xs ++ (new ++ drop (to - from) (drop from xs))

-- The four numbers of list k.
pub record ListLies (s : Planning) (side : Side) (i : SideStores) (k from to slot next : ℕ) : Type 0 where
  pub opens : part_of from to i.subs ≡ kept s side k
  pub size : to ≡ from + length (kept s side k)
  pub ends : to ≤ length i.subs
  pub slot_is : slot ≡ slots_of s side (k - 1)
  pub next_is : next ≡ slot + length (kept s side k)

-- What code that lends list k's subscripts and slots asks of them, each fact as it asks it.
pub record Lends (i : SideStores) (store : List Float) (from to slot next : ℕ) : Type 0 where
  pub opens : from ≤ to
  pub closes : to ≤ length i.subs
  pub from-fits : Fits w64 (from * 8)
  pub rises : slot ≤ next
  pub ends : next ≤ length store
  pub slot-fits : Fits w64 (slot * 8)

module _ (s : Planning) (side : Side) (n : ℕ) (i : SideStores) (index : Indexed s side n i) (k : ℕ) (low : 1 ≤ k) (high : k ≤ n) where
  -- as many slots as the kept list has members
  count_is : span i.slot_starts k ≡ length (kept s side k)
  count_is = omega (arith, index.slot (k - 1) (omega arith), index.slot k high, slots_step s side n k low)

  -- the numbers are there
  pub list_asks : length i.subs * 8 < 2 ^ 63 → ListAsks i.starts i.slot_starts k
  list_asks room =
      record {
        low = low;
        in_slots = omega (arith, index.places);
        in_starts = omega (arith, index.started);
        rises = omega (arith, index.slot (k - 1) (omega arith), index.slot k high, slots_step s side n k low);
        fits = end_fits (rw count_is (index.inside k low high)) room;
      }

  module _ (from to slot next : ℕ) (at : ListAt i.starts i.slot_starts k from to slot next) where
    to_is : to ≡ from + length (kept s side k)
    to_is = omega (arith, at.from_is, at.to_is, count_is)

    subscripts_are : part_of from to i.subs ≡ kept s side k
    subscripts_are =
        let size : to - from ≡ length (kept s side k) = omega (arith, to_is) in
        rw (size, at.from_is) (index.opens k low high)

    pub list_lies : ListLies s side i k from to slot next
    list_lies =
        record {
          opens = subscripts_are;
          size = to_is;
          ends = rw (to_is, at.from_is) (index.inside k low high);
          slot_is = at.slot_is ∙ index.slot (k - 1) (omega arith);
          next_is = omega (arith, at.slot_is, at.next_is, index.slot (k - 1) (omega arith), index.slot k high, slots_step s side n k low);
        }

    pub list_within : (from ≤ to) × (to ≤ length i.subs)
    list_within = (omega (arith, to_is), list_lies.ends)

    module _ (square : Square Float) (store : List Float) (shows : Shows s side n square store) where
      slots_count : next - slot ≡ length (kept s side k)
      slots_count = omega (arith, list_lies.next_is)

      -- the slots have the list's numbers
      pub list_shows : part_of slot next store ≡ map (at_side side square k) (kept s side k)
      unfolding part
      list_shows = rw (slots_count, list_lies.slot_is) (shows_part s side n square store shows k low high)

      pub slots-within : (slot ≤ next) × (next ≤ length store)
      slots-within = (omega (arith, list_lies.next_is), omega (arith, list_lies.next_is, list_lies.slot_is, part_inside s side n square store shows k low high))

      -- other numbers in the list's slots are another square
      pub list_written : (square' : Square Float) → Elsewhere s side n k square square' → (new : List Float) → new ≡ map (at_side side square' k) (kept s side k)
          → Shows s side n square' (patched slot next new store)
      unfolding part
      list_written square' agree new e = rw (slots_count, list_lies.slot_is) (shows_write s side n square store shows k low high square' agree new e)

      -- stores that lie in memory are short enough
      pub list_lends : length i.subs * 8 < 2 ^ 63 → length store * 8 < 2 ^ 63 → Lends i store from to slot next
      list_lends subs-room store-room =
          record {
            opens = list_within.0;
            closes = list_within.1;
            from-fits = part_fits list_within subs-room;
            rises = slots-within.0;
            ends = slots-within.1;
            slot-fits = part_fits slots-within store-room;
          }

-- ---- the slot of a member

module _ (i : SideStores) (k x : ℕ) (w : SlotAsks i k x) where
  pub slot-asks : length i.subs * 8 < 2 ^ 63 → ListAsks i.starts i.slot_starts k
  slot-asks = list_asks w.s w.side w.n i w.index k w.low w.high

  module _ (from to slot next : ℕ) (at : ListAt i.starts i.slot_starts k from to slot next) where
    lies : ListLies w.s w.side i k from to slot next
    lies = list_lies w.s w.side w.n i w.index k w.low w.high from to slot next at

    pub slot-within : (from ≤ to) × (to ≤ length i.subs)
    slot-within = list_within w.s w.side w.n i w.index k w.low w.high from to slot next at

    pub slot-ascends : Ascending 0 (part_of from to i.subs)
    slot-ascends = rw lies.opens (ascending_weaken 0 (k + 1) (kept w.s w.side k) (omega arith) (w.index.ascends k))

    module _ (q : ℕ) (found : FirstFrom (part_of from to i.subs) x q) where
      there : (q < length (kept w.s w.side k)) × (get_or (kept w.s w.side k) q 0 ≡ x)
      there = found-member (k + 1) (kept w.s w.side k) x q (w.index.ascends k) (rw lies.opens at found) w.has

      -- a slot lies before the next list's
      pub slot-before : slot + q < next
      slot-before = omega (arith, lies.next_is, there.0)

      pub slot-found : SlotOf w.s w.side k x (slot + q)
      slot-found = record { at = q; inside = there.0; member_is = there.1; is = rw lies.slot_is }

-- a slot by the place that its subscript has in the list
pub slot-index : (s : Planning) (side : Side) (k x q low : ℕ) → Ascending low (kept s side k) → SlotOf s side k x q → q ≡ slots_of s side (k - 1) + index_of x (kept s side k)
slot-index s side k x q low up w =
    let place : index_of x (kept s side k) ≡ w.at = rw (← w.member_is) (at_index low w.at (kept s side k) up w.inside) in
    w.is ∙ rw place
