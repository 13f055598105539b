-- The end of a run, case by case: stopped in its steps, cut, solved, or stopped in back substitution.
use mathlib.Core.Bool.{true, false, true≢false, false≢true}
use mathlib.Core.List.{List}
use mathlib.Core.Path.{◌≡◌, refl}
use Prim.Native.Nat.{ℕ}
use lib.Ieee.{Float}
use Rattle.foundation.specs.PlanCall.{SideStores}
use Rattle.foundation.specs.Reference.{whole, cut, notFinite, solved}
use Rattle.answers.specs.Runs.{extent_of}
use Rattle.answers.specs.declared.Extent.{Extent}
use Rattle.answers.specs.declared.Extent.TheVariants.{Whole, Cut}
use Rattle.answers.specs.declared.RunOutcome.{RunOutcome}
use Rattle.answers.specs.declared.RunOutcome.TheVariants.{Finished, Stopped}
use Rattle.answers.specs.declared.RunReason.{RunReason}
use Rattle.answers.specs.declared.RunReason.TheVariants.{NotFinite}
use Rattle.run_slots.specs.Handing.{SolveAsks, SolveLeaves}
use Rattle.run_slots.specs.declared.SolveEnd.TheVariants.{Solved, NotFiniteAt as UnsolvedAt}
use Rattle.run_request.specs.Asking.{is_whole}
use Rattle.run_loop.specs.Running.{reason_of, FinishAsks, FinishLeaves}

-- how far a run goes, by what its extent was found to be
extent-cut : (extent : Extent) → is_whole extent ≡ false → (s : ℕ) × (extent_of extent ≡ cut s)
unfolding is_whole extent_of
extent-cut Whole e = absurd (true≢false e)
extent-cut (Cut s) e = (s, refl)

extent-whole : (extent : Extent) → is_whole extent ≡ true → extent_of extent ≡ whole
unfolding is_whole extent_of
extent-whole Whole e = refl
extent-whole (Cut s) e = absurd (false≢true e)

module _ (end : RunOutcome) (extent : Extent) (n : ℕ) (i : SideStores) (u d x : List Float) where
  -- a run that stopped stays so
  pub stays_halted : {reason : RunReason} {k : ℕ} → end ≡ Stopped reason k
      → (w : FinishAsks end (extent_of extent) n i u d x) → FinishLeaves end (extent_of extent) (Stopped reason k) n i u d x x w
  stays_halted e = rw e (λ w. refl)

  module _ {updates : ℕ} (all : end ≡ Finished updates) where
    -- a cut run stays as it is
    pub cut-ends : is_whole extent ≡ false → (w : FinishAsks end (extent_of extent) n i u d x) → FinishLeaves end (extent_of extent) (Finished updates) n i u d x x w
    cut-ends e = let (s, is) = extent-cut extent e in rw (all, is) (λ w. (refl, refl))

    module _ (e : is_whole extent ≡ true) where
      -- a whole run that came through its steps may be solved
      pub may-solve : FinishAsks end (extent_of extent) n i u d x → SolveAsks n i u d x
      may-solve asks = rw (all, extent-whole extent e) at asks

      -- it is
      pub solved-ends : {x' : List Float} → ((v : SolveAsks n i u d x) → SolveLeaves Solved n i u d x x' v)
          → (w : FinishAsks end (extent_of extent) n i u d x) → FinishLeaves end (extent_of extent) (Finished updates) n i u d x x' w
      unfolding solved
      solved-ends leaves = rw (all, extent-whole extent e) (λ w. let (h, back, rights) = leaves w in (h, back, refl, rights))

      -- or stops at a row
      pub unsolved_ends : (x' : List Float) {k : ℕ} → ((v : SolveAsks n i u d x) → SolveLeaves (UnsolvedAt k) n i u d x x' v)
          → (w : FinishAsks end (extent_of extent) n i u d x) → FinishLeaves end (extent_of extent) (Stopped NotFinite k) n i u d x x' w
      unfolding solved reason_of
      unsolved_ends x' leaves = rw (all, extent-whole extent e) (λ w. record { why = notFinite; named = refl; course_is = leaves w })
