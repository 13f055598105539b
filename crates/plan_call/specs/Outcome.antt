-- What planning comes to: its answer, and the plan in its stores.
use Rattle.std.specs.Prelude.{ℕ}
use Rattle.foundation.specs.Answer.{Answer, refused, granted}
use Rattle.foundation.specs.Pattern.{Lent}
use Rattle.foundation.specs.PlanCall.{Counts, PlanStores}
use Rattle.answers.specs.Answers.{counted}
use Rattle.answers.specs.declared.PlanAnswer.{PlanAnswer}
use Rattle.answers.specs.declared.PlanAnswer.TheVariants.{Planned, Refused}
use Rattle.plan_lay.specs.Filled.{BothFilled}
use Rattle.plan_loop.specs.declared.steps.Ended.{Ended}
use Rattle.plan_loop.specs.declared.steps.Ended.TheVariants.{All, LowerAt, UpperAt}

-- a plan that was made stands in its stores; of a refusal nothing is said, since who asked clears them
abbrev pub PlannedAs : PlanAnswer → Lent → ℕ → ℕ → ℕ → PlanStores → Type 0
PlannedAs (Planned c) p n room_l room_u stores = BothFilled p n n room_l room_u stores
PlannedAs (Refused r) p n room_l room_u stores = Unit {0}

-- what the ending of the steps is as an answer, with the ends of both sides' slots
unfoldable pub ended_answer : Ended → (n height entries lower_slots upper_slots : ℕ) → Answer Counts
ended_answer (All l u reads) n height entries lower_slots upper_slots = granted (counted n height entries l.0 u.0 lower_slots upper_slots reads)
ended_answer (LowerAt k) n height entries lower_slots upper_slots = refused 7 k
ended_answer (UpperAt k) n height entries lower_slots upper_slots = refused 8 k
