-- The free elimination over a list of steps and what follows it: demand 3's first half as one claim.
use mathlib.Core.Bool.{Bool}
use mathlib.Core.List.{List}
use mathlib.Core.Path.{◌≡◌, refl, ap, ◌∙◌}
use Prim.Native.Nat.{ℕ, ◌-◌, ◌≤◌, ◌<◌}
use lib.ListN.{take, drop}
use Rattle.foundation.specs.Pattern.{Pattern, pattern_of}
use Rattle.foundation.specs.Square.{Square}
use Rattle.foundation.specs.Free.{FreeStep, free_start, free_step, free_run, free_after}
use Rattle.foundation.specs.Claims.{FirstHalf, RunsOn, SlotsSuffice}
use Rattle.foundation.proofs.FreeSteps.{columns_stay}
use Rattle.foundation.proofs.StepLists.{run_append, after-later}

module _ {A : Type 0} (is_zero : A → Bool) (p : Pattern) where
  -- what stands before column k after t steps stands there after more
  pub stays-later :
      (zero : A) (values : Square A) (steps : List (FreeStep A)) (t t' i j : ℕ) → t ≤ t' → j < (free_after p is_zero zero values steps t).k
      → (free_after p is_zero zero values steps t').square i j ≡ (free_after p is_zero zero values steps t).square i j
  unfolding free_run free_after
  stays-later zero values steps t t' i j h before =
      ap (λ s. s.square i j) (after-later (free_step p is_zero) (free_run p is_zero) (λ s. refl) (λ s step rest. refl) (free_start p zero values) steps t t' h)
      ∙ columns_stay is_zero p (free_after p is_zero zero values steps t) (take (t' - t) (drop t steps)) i j before

pub runs_on : RunsOn
unfolding RunsOn free_run
runs_on p A is_zero = run_append (free_step p is_zero) (free_run p is_zero) (λ s. refl) (λ s step rest. refl)

-- demand 3's first half from its two parts
pub first_half_from : SlotsSuffice → FirstHalf
unfolding FirstHalf SlotsSuffice free_after
first_half_from suffice most p ok A is_zero zero z values steps t i j = (
  suffice most p ok A is_zero zero z values steps t i j,
  λ t' h before. stays-later is_zero (pattern_of p) zero values steps t t' i j h before,
)
