-- The slot of a member of a list, as the index stores of its side tell.
use Rattle.std.specs.Prelude.{true, ◌≡◌, ℕ, ◌+◌, ◌-◌, ◌≤◌, ◌<◌, length, get_or}
use Rattle.lists.specs.Sets.{member}
use Rattle.foundation.specs.Plan.{Planning, Side}
use Rattle.foundation.specs.PlanCall.{SideStores}
use Rattle.foundation.specs.Slots.{slots_of}
use Rattle.foundation.specs.Subscripts.{kept}
use Rattle.run_slots.specs.Index.{Indexed}

-- The index stores are those of a side that has a list k, and x is a member of it.
pub record SlotAsks (i : SideStores) (k x : ℕ) : Type 0 where
  pub s : Planning
  pub side : Side
  pub n : ℕ
  pub index : Indexed s side n i
  pub low : 1 ≤ k
  pub high : k ≤ n
  pub has : member x (kept s side k) ≡ true

-- Place q of a side's store is the slot of member x of list k: "Value slots run list after list".
pub record SlotOf (s : Planning) (side : Side) (k x q : ℕ) : Type 0 where
  pub at : ℕ
  pub inside : at < length (kept s side k)
  pub member_is : get_or (kept s side k) at 0 ≡ x
  pub is : q ≡ slots_of s side (k - 1) + at

abbrev pub SlotLeaves : (r : ℕ) (i : SideStores) (k x : ℕ) → SlotAsks i k x → Type 0
SlotLeaves r i k x w = SlotOf w.s w.side k x r
