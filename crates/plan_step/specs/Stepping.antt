-- What a step of planning leaves.
use Rattle.std.specs.Prelude.{ℕ, ◌≤◌, ◌<◌}
use Rattle.foundation.specs.Pattern.{Lent}
use Rattle.foundation.specs.Plan.{lower, upper}
use Rattle.foundation.specs.PlanCall.{PlanStores}
use Rattle.plan_gather.specs.Ready.{plan_of}
use Rattle.plan_gather.specs.Contains.{used}
use Rattle.plan_gather.specs.Steps.{ChainStores, ChainsAt, EndsAre}
use Rattle.plan_lay.specs.Filled.{BothFilled}
use Rattle.plan_step.specs.declared.step.Turned.{Turned}
use Rattle.plan_step.specs.declared.step.Turned.TheVariants.{On, LowerFull, UpperFull}

-- after a turn at step k: all stores are filled with it, or the first side that does not fit
abbrev pub TurnedAs : Turned → Lent → ℕ → ℕ → ℕ → ℕ → ChainStores → PlanStores → Type 0
TurnedAs (On l u reads) p n k room_l room_u c stores = EndsAre p k l.0 u.0 reads × ChainsAt p n k c × BothFilled p n k room_l room_u stores
TurnedAs LowerFull p n k room_l room_u c stores = room_l < used (plan_of p) lower k
TurnedAs UpperFull p n k room_l room_u c stores =
    (used (plan_of p) lower k ≤ room_l) × (room_u < used (plan_of p) upper k)
