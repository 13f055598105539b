-- What a side's stores contain after k steps of a plan.
use Rattle.std.specs.Prelude.{◌≡◌, ℕ, suc, ◌-◌, ◌≤◌, length, take, get_or}
use Rattle.foundation.specs.Plan.{Planning, Side}
use Rattle.foundation.specs.Subscripts.{shared}
use Rattle.foundation.specs.Slots.{slots_of}
use Rattle.foundation.specs.PlanCall.{SideStores}

-- how many subscripts a side has after k steps
unfoldable pub used : Planning → Side → ℕ → ℕ
used s side k = length (shared s side k).store

-- The stores of a side begin with the lists of the first k steps: enough to read them, whatever stands behind.
pub record Contains (s : Planning) (side : Side) (n k : ℕ) (i : SideStores) : Type 0 where
  pub subs-begin : take (used s side k) i.subs ≡ (shared s side k).store
  pub subs-room : used s side k ≤ length i.subs
  pub starts_size : length i.starts ≡ n
  pub slots_size : length i.slot_starts ≡ suc n
  pub starts_at : (l : ℕ) → 1 ≤ l → l ≤ k → get_or i.starts (l - 1) 0 ≡ (shared s side k).start l
  pub slots_at : (l : ℕ) → l ≤ k → get_or i.slot_starts l 0 ≡ slots_of s side l
