-- What putting the list of step k into a side's stores leaves.
use Rattle.std.specs.Prelude.{List, ◌≡◌, ℕ, ◌-◌, ◌<◌}
use Rattle.foundation.specs.Pattern.{Lent}
use Rattle.foundation.specs.Plan.{Side}
use Rattle.foundation.specs.PlanCall.{SideStores}
use Rattle.plan_gather.specs.Ready.{plan_of}
use Rattle.plan_gather.specs.Contains.{used}
use Rattle.plan_gather.specs.Steps.{StepOf}
use Rattle.plan_lists.specs.declared.lying.Lies.{Lies}
use Rattle.plan_lists.specs.Lying.{WholeAt}
use Rattle.plan_share.specs.declared.write.Placed.{Placed}
use Rattle.plan_share.specs.declared.write.Placed.TheVariants.{End, Short}
use Rattle.plan_lay.specs.Filled.{Filled}

-- the stores are filled with step k too, or their subscripts do not fit
abbrev pub PlacedAs : Placed → Lent → Side → ℕ → ℕ → ℕ → SideStores → Type 0
PlacedAs (End place) p side n k room i =
    (place.0 ≡ used (plan_of p) side k) × Filled (plan_of p) side n k room i
PlacedAs Short p side n k room i = room < used (plan_of p) side k

-- The kept list of step k is whole, and the stores of its side are filled with the steps before it: it can be laid there.
pub record Layable (lies : Lies) (p : Lent) (side : Side) (n k row : ℕ) (growing : List ℕ) (room : ℕ) (i : SideStores) (end : ℕ) : Type 0 where
  pub step : StepOf p n k
  pub whole : WholeAt lies p side k row growing
  pub filled : Filled (plan_of p) side n (k - 1) room i
  pub end_is : end ≡ used (plan_of p) side (k - 1)
