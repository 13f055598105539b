-- The reference's course: a step that goes on, 13, 14, and that a run once stopped stays so.
use mathlib.Core.Bool.{true, false}
use mathlib.Core.Path.{◌≡◌}
use Prim.Native.Nat.{ℕ, zero, suc, ◌+◌, ◌-◌, ◌≤◌}
use native.Mathlib.Nat.{add-zero, add-suc}
use native.Mathlib.Omega.{arith}
use Rattle.foundation.specs.Reference.{Choice, Reason, noPivot, notFinite, Going, going, stopped, pivot_row, stepped, sound_with, step_with, step, running}

module _ (choice : Choice) (height n : ℕ) (start : Going) where
  -- a step with a pivot row, all of it finite
  pub goes_on : (t r : ℕ) (g : Going) → running choice height n start t ≡ going g → pivot_row choice height (suc t) (λ i. g.square i (suc t)) ≡ r → 1 ≤ r
      → sound_with height n (suc t) r g ≡ true → running choice height n start (suc t) ≡ going (stepped height n (suc t) r g)
  unfolding running step step_with
  goes_on t zero g course chosen found sound = absurd (omega arith)
  goes_on t (suc r) g course chosen found sound = rw (course, chosen, sound)

  -- 13
  pub lacks_pivot_lem : (t : ℕ) (g : Going) → running choice height n start t ≡ going g → pivot_row choice height (suc t) (λ i. g.square i (suc t)) ≡ 0
      → running choice height n start (suc t) ≡ stopped noPivot (suc t)
  unfolding running step step_with
  lacks_pivot_lem t g course none = rw (course, none)

  -- 14
  pub not_sound : (t r : ℕ) (g : Going) → running choice height n start t ≡ going g → pivot_row choice height (suc t) (λ i. g.square i (suc t)) ≡ suc r
      → sound_with height n (suc t) (suc r) g ≡ false → running choice height n start (suc t) ≡ stopped notFinite (suc t)
  unfolding running step step_with
  not_sound t r g course chosen unsound = rw (course, chosen, unsound)

  -- later steps change nothing
  stopped-after : (reason : Reason) (at t more : ℕ) → running choice height n start t ≡ stopped reason at → running choice height n start (t + more) ≡ stopped reason at
  unfolding running step
  stopped-after reason at t zero e = rw (add-zero t) e
  stopped-after reason at t (suc more) e = rw (add-suc t more, stopped-after reason at t more e)

  pub stays-stopped : (reason : Reason) (at t count : ℕ) → t ≤ count → running choice height n start t ≡ stopped reason at → running choice height n start count ≡ stopped reason at
  stays-stopped reason at t count h e =
      let all : t + (count - t) ≡ count = omega arith in
      rw all at (stopped-after reason at t (count - t) e)
