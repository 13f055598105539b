-- What growing a list by the lists of earlier steps takes for granted.
use Rattle.std.specs.Prelude.{List, ℕ, ◌-◌}
use Rattle.foundation.specs.Pattern.{Lent}
use Rattle.foundation.specs.Plan.{Side}
use Rattle.foundation.specs.PlanCall.{SideStores}
use Rattle.store_lists.specs.Chains.{Linked}
use Rattle.plan_gather.specs.Ready.{plan_of}
use Rattle.plan_gather.specs.Contains.{Contains}
use Rattle.plan_gather.specs.Gathering.{GrownIn}
use Rattle.plan_gather.specs.Steps.{StepOf, kept_rows}

-- What joining the steps of S_k takes for granted: the list has grown by the report's 2.2, and the side's stores contain the steps before k.
pub record StepsReady (p : Lent) (side : Side) (n k first : ℕ) (links : List ℕ) (i : SideStores) (count : ℕ) (growing : List ℕ) : Type 0 where
  pub step : StepOf p n k
  pub linked : Linked links first ((plan_of p).S k)
  pub contained : Contains (plan_of p) side n (k - 1) i
  pub grown : GrownIn p.height count growing (kept_rows p side k)
