-- What a step of planning hands to the functions that it calls, and what it leaves.
use mathlib.Core.List.{List}
use mathlib.Core.Path.{◌≡◌, refl, ◌∙◌}
use Prim.Native.Nat.{ℕ, ◌-◌}
use lib.ListN.{get_or}
use Rattle.foundation.specs.Pattern.{Lent}
use Rattle.foundation.specs.Plan.{Side, lower, upper}
use Rattle.foundation.specs.PlanCall.{SideStores}
use Rattle.answers.specs.Stores.{plan_stores, side_stores}
use Rattle.plan_gather.specs.Ready.{plan_of}
use Rattle.plan_gather.specs.Contains.{used}
use Rattle.plan_gather.specs.Steps.{StepOf, SideAt, ChainStores, ChainsAt, EndsAre, kept_steps}
use Rattle.plan_gather.proofs.Progress.{sets-counted}
use Rattle.plan_lists.specs.declared.lying.Lies.{Lies}
use Rattle.plan_lists.specs.declared.lying.Lists.{Lists}
use Rattle.plan_lists.specs.Lying.{LiesAs, GrownAlone, ListsWhole}
use Rattle.plan_lay.specs.Filled.{Filled, BothFilled}
use Rattle.plan_lay.specs.Placing.{Layable}
use Rattle.plan_lay.proofs.Filled.{filled_at}

-- ---- what a step hands on

module _ {p : Lent} {n k : ℕ} (step : StepOf p n k) where
  -- the lists of the step are made: of both sides the lists of the steps before it can be read
  pub lists_ask :
      {room_l room_u l u reads list_size spare_size : ℕ} {chains : ChainStores} {l_subs l_starts l_slots u_subs u_starts u_slots : List ℕ} → ChainsAt p n (k - 1) chains
      → BothFilled p n (k - 1) room_l room_u (plan_stores l_subs l_starts l_slots u_subs u_starts u_slots)
      → EndsAre p (k - 1) l u reads × ((list_size ≡ p.height) × (spare_size ≡ p.height))
      → (SideAt p lower n k (side_stores l_subs l_starts l_slots) l × SideAt p upper n k (side_stores u_subs u_starts u_slots) u)
      × ((ChainsAt p n (k - 1) chains × (get_or chains.row_heads k 0 ≡ get_or chains.row_heads k 0))
      × (EndsAre p (k - 1) l u reads × ((list_size ≡ p.height) × (spare_size ≡ p.height))))
  lists_ask chains both (ends, sizes) = (
    (filled_at step both.lowers ends.lower_end, filled_at step both.uppers ends.upper_end),
    ((chains, refl), (ends, sizes)),
  )

  -- a list that is whole is laid into its side's stores
  pub side_layable :
      {lies : Lies} {side : Side} {row room end : ℕ} {growing : List ℕ} {i : SideStores} → LiesAs lies p side k row growing (kept_steps p side k) → GrownAlone lies p k
      → Filled (plan_of p) side n (k - 1) room i → end ≡ used (plan_of p) side (k - 1) → Layable lies p side n k row growing room i end
  side_layable lies alone filled end_is =
      record { step = step; whole = record { lies_there = lies; alone = alone }; filled = filled; end_is = end_is }

  -- ---- what it leaves

  -- all stores are filled with it, and what was counted is what was read
  pub turned_on :
      {lists : Lists} {row l u room_l room_u : ℕ} {list_l list_u : List ℕ} {chains : ChainStores} {lowers uppers : SideStores} → ListsWhole lists p k row list_l list_u
      → ChainsAt p n k chains → (l ≡ used (plan_of p) lower k) × Filled (plan_of p) lower n k room_l lowers
      → (u ≡ used (plan_of p) upper k) × Filled (plan_of p) upper n k room_u uppers
      → EndsAre p k l u lists.reads × ChainsAt p n k chains × BothFilled p n k room_l room_u (record { lower_side = lowers; upper_side = uppers })
  turned_on whole chains (lower_end, filledL) (upper_end, filledU) = (
    record { lower_end = lower_end; upper_end = upper_end; read = whole.at.counted ∙ sets-counted step },
    chains,
    record { lowers = filledL; uppers = filledU },
  )
