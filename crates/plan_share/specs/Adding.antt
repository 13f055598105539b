-- What the list of a step adds to its side's store, and what adding it there, or looking for it, takes for granted and leaves.
use Rattle.std.specs.Prelude.{List, ◌++◌, ◌≡◌, ℕ, ◌+◌, ◌-◌, ◌≤◌, ◌<◌, length, take, drop, set, get_or}
use Rattle.foundation.specs.Pattern.{Lent}
use Rattle.foundation.specs.Plan.{Side}
use Rattle.foundation.specs.PlanCall.{SideStores}
use Rattle.foundation.specs.Subscripts.{kept, shared, shared_end, sole_step}
use Rattle.plan_gather.specs.Ready.{plan_of}
use Rattle.plan_gather.specs.Steps.{SideAt}
use Rattle.plan_share.specs.declared.write.Placed.{Placed}
use Rattle.plan_share.specs.declared.write.Placed.TheVariants.{End, Short}

-- `new` is the kept list of step k, which is to follow the lists of the steps before it; k does not share the list of a sole step.
pub record NewList (p : Lent) (side : Side) (n k : ℕ) (new : List ℕ) (i : SideStores) (end : ℕ) : Type 0 where
  pub at : SideAt p side n k i end
  pub new_is : new ≡ kept (plan_of p) side k
  pub not-sole : sole_step (plan_of p) k ≡ 0

-- Document 01, "Shared subscripts": "The start is the end less t; the rest is added": t members of the kept list of step k stand at the
-- store's end, and `rest` is what is added.
pub record RestOf (p : Lent) (side : Side) (k t : ℕ) (rest : List ℕ) : Type 0 where
  pub shares : t ≡ shared_end (shared (plan_of p) side (k - 1)) (kept (plan_of p) side k)
  pub is : rest ≡ drop t (kept (plan_of p) side k)

-- The rest of a list can be written at a store's end, or looked for there: `shared` of its members stand before it.
pub record Writable (k shared : ℕ) (rest : List ℕ) (i : SideStores) (end : ℕ) : Type 0 where
  pub step : 1 ≤ k
  pub starts_size : k ≤ length i.starts
  pub slots_size : k < length i.slot_starts
  pub end_inside : end ≤ length i.subs
  pub shared_end_lem : shared ≤ end
  pub small : get_or i.slot_starts (k - 1) 0 + (shared + length rest) < 4294967296

-- it was written into the stores, or the first of them was too short
abbrev pub Written : Placed → ℕ → ℕ → List ℕ → (i i' : SideStores) → ℕ → Type 0
Written (End place) k shared rest i i' end =
    (place.0 ≡ end + length rest)
    × (i'.subs ≡ take end i.subs ++ rest ++ drop (end + length rest) i.subs)
    × (i'.starts ≡ set i.starts (k - 1) (end - shared))
    × (i'.slot_starts ≡ set i.slot_starts k (get_or i.slot_starts (k - 1) 0 + (shared + length rest)))
Written Short k shared rest i i' end = length i.subs < end + length rest
