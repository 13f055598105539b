-- What the report's 2.5 takes for granted of the lists of step k.
use Rattle.std.specs.Prelude.{List, ◌≡◌, ℕ}
use Rattle.foundation.specs.Pattern.{Lent}
use Rattle.foundation.specs.Plan.{lower}
use Rattle.foundation.specs.PlanCall.{SideStores}
use Rattle.plan_gather.specs.Steps.{SideAt}
use Rattle.plan_lists.specs.declared.lying.Lies.{Lies}
use Rattle.plan_lists.specs.Lying.{WholeAt}

-- The kept list of L_k lies where it is said, and these are the starts of the slots of stores that contain the lists of L of the steps before k.
pub record LowerWhole (lies : Lies) (p : Lent) (n k row : ℕ) (slots : List ℕ) : Type 0 where
  pub stores : SideStores
  pub end : ℕ
  pub growing : List ℕ
  pub slots_are : stores.slot_starts ≡ slots
  pub at : SideAt p lower n k stores end
  pub whole : WholeAt lies p lower k row growing
