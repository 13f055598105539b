-- How far verifying a lent plan has come, step after step.
use Rattle.std.specs.Prelude.{ℕ}
use Rattle.foundation.specs.Pattern.{Lent}
use Rattle.foundation.specs.Plan.{lower, upper}
use Rattle.foundation.specs.PlanCall.{PlanStores}
use Rattle.plan_gather.specs.Ready.{plan_of}
use Rattle.plan_gather.specs.Contains.{Contains}
use Rattle.plan_gather.specs.Steps.{ChainStores, ChainsAt, EndsAre}
use Rattle.verify_loop.specs.declared.steps.Compared.{Compared}
use Rattle.verify_loop.specs.declared.steps.Compared.TheVariants.{Agrees, Differs}

-- the lent stores of both sides begin with the lists of the first k steps
pub record BothContain (p : Lent) (n k : ℕ) (stores : PlanStores) : Type 0 where
  pub lowers : Contains (plan_of p) lower n k stores.lower_side
  pub uppers : Contains (plan_of p) upper n k stores.upper_side

-- after a turn at step k: the lent stores contain it, or they do not
abbrev pub StepCompared : Compared → Lent → ℕ → ℕ → ChainStores → PlanStores → Type 0
StepCompared (Agrees l u reads) p n k c stores = EndsAre p k l.0 u.0 reads × ChainsAt p n k c × BothContain p n k stores
StepCompared Differs p n k c stores = BothContain p n k stores → ⊥

-- after all steps: the lent stores contain the plan, or they do not
abbrev pub AllCompared : Compared → Lent → ℕ → PlanStores → Type 0
AllCompared (Agrees l u reads) p n stores = EndsAre p n l.0 u.0 reads × BothContain p n n stores
AllCompared Differs p n stores = BothContain p n n stores → ⊥
