-- How far planning has come when it ends.
use Rattle.std.specs.Prelude.{ℕ, ◌≤◌, ◌<◌}
use Rattle.foundation.specs.Pattern.{Lent}
use Rattle.foundation.specs.Plan.{lower, upper}
use Rattle.foundation.specs.PlanCall.{PlanStores}
use Rattle.plan_gather.specs.Ready.{plan_of}
use Rattle.plan_gather.specs.Contains.{used}
use Rattle.plan_gather.specs.Steps.{EndsAre}
use Rattle.plan_lay.specs.Filled.{BothFilled}
use Rattle.plan_loop.specs.declared.steps.Ended.{Ended}
use Rattle.plan_loop.specs.declared.steps.Ended.TheVariants.{All, LowerAt, UpperAt}

-- both sides of the first k steps fit
pub record FitTo (p : Lent) (k room_l room_u : ℕ) : Type 0 where
  pub lower_fits : used (plan_of p) lower k ≤ room_l
  pub upper_fits : used (plan_of p) upper k ≤ room_u

-- after all steps: the stores are filled with the plan, or the first step, and side, whose subscripts do not fit
abbrev pub EndedAs : Ended → Lent → ℕ → ℕ → ℕ → PlanStores → Type 0
EndedAs (All l u reads) p n room_l room_u stores =
    EndsAre p n l.0 u.0 reads × BothFilled p n n room_l room_u stores
EndedAs (LowerAt k) p n room_l room_u stores =
    (1 ≤ k) × (k ≤ n) × ((t : ℕ) → t < k → FitTo p t room_l room_u) × (room_l < used (plan_of p) lower k)
EndedAs (UpperAt k) p n room_l room_u stores =
    (1 ≤ k) × (k ≤ n) × ((t : ℕ) → t < k → FitTo p t room_l room_u) × (used (plan_of p) lower k ≤ room_l) × (room_u < used (plan_of p) upper k)
