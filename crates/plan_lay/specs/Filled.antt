-- A side's stores filled with the first k steps of a plan.
use Rattle.std.specs.Prelude.{◌≡◌, ℕ, suc, ◌≤◌}
use Rattle.lists.specs.Functions.{padded}
use Rattle.foundation.specs.Plan.{Planning, Side, lower, upper}
use Rattle.foundation.specs.Subscripts.{shared, starts_store}
use Rattle.foundation.specs.Slots.{slot_starts}
use Rattle.foundation.specs.Pattern.{Lent}
use Rattle.foundation.specs.PlanCall.{SideStores, PlanStores}
use Rattle.plan_gather.specs.Ready.{plan_of}
use Rattle.plan_gather.specs.Contains.{used}

-- The stores of a side are filled with the first k steps, and zeros stand behind.
pub record Filled (s : Planning) (side : Side) (n k room : ℕ) (i : SideStores) : Type 0 where
  pub fits : used s side k ≤ room
  pub subs_are : i.subs ≡ padded 0 room (shared s side k).store
  pub starts_are : i.starts ≡ padded 0 n (starts_store s side k)
  pub slots_are : i.slot_starts ≡ padded 0 (suc n) (slot_starts s side k)

-- both sides' stores
pub record BothFilled (p : Lent) (n k room_l room_u : ℕ) (stores : PlanStores) : Type 0 where
  pub lowers : Filled (plan_of p) lower n k room_l stores.lower_side
  pub uppers : Filled (plan_of p) upper n k room_u stores.upper_side
