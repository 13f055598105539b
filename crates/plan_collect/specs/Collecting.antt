-- What collecting the steps of S_k on one side takes for granted.
use Rattle.std.specs.Prelude.{List, ◌≡◌, ℕ, length}
use Rattle.foundation.specs.Pattern.{Lent}
use Rattle.foundation.specs.Plan.{Side}
use Rattle.foundation.specs.Subscripts.{sole_step}
use Rattle.foundation.specs.PlanCall.{SideStores}
use Rattle.plan_gather.specs.Ready.{plan_of}
use Rattle.plan_gather.specs.Steps.{ChainsOf, SideAt, kept_rows}
use Rattle.plan_lists.specs.declared.lying.Lies.{Lies}
use Rattle.plan_lists.specs.Lying.{LiesAs}

-- The side's stores contain the steps before k, the chains are those of step k, S_k is not a sole step whose list is shared, and what the rows brought lies where it is said.
pub record Collectable (lies : Lies) (p : Lent) (side : Side) (n k row : ℕ) (row_links : List ℕ) (set : ℕ) (set_links : List ℕ) (i : SideStores) (end : ℕ)
    (growing : List ℕ) : Type 0 where
  pub at : SideAt p side n k i end
  pub chains : ChainsOf p k row row_links set set_links
  pub not-sole : sole_step (plan_of p) k ≡ 0
  pub size : length growing ≡ p.height
  pub lies_there : LiesAs lies p side k row growing (kept_rows p side k)
