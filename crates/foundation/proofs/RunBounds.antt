-- How many updates a run of at most 128 fields and 2,048 rows counts, and at which step or row it can stop.
use mathlib.Core.Bool.{cond}
use mathlib.Core.Path.{◌≡◌, ap}
use Prim.Native.Nat.{ℕ, zero, suc, ◌-◌, ◌*◌, ◌≤◌}
use native.Mathlib.Nat.{suc-mul}
use native.Mathlib.Omega.{arith}
use lib.Ieee.{Float}
use Rattle.lists.specs.Functions.{total}
use Rattle.lists.specs.Sets.{between}
use Rattle.lists.proofs.Counting.{total-le, total_constant}
use Rattle.lists.proofs.Members.{by_test}
use Rattle.lists.proofs.Places.{length_run}
use Rattle.foundation.specs.Numbers.{is_zero}
use Rattle.foundation.specs.Pattern.{Pattern}
use Rattle.foundation.specs.Reference.{Choice, whole, steps_of, multiplier, updates_at, Going, Course, going, stopped, stepped, sound_with, step_with, step, running, starting, solved_row, back, solved, ended, reference, pivot_row}
use Rattle.foundation.specs.Square.{Square, exchanged}
use Rattle.foundation.proofs.FloatRun.{run_to, run_did}

-- a step counts at most one update for each place
step_few : (height n k : ℕ) (square : Square Float) → height ≤ 2048 → n ≤ 128 → updates_at height n k square ≤ 262144
unfolding updates_at between
step_few height n k square h l =
    let across : (i : ℕ) → cond (is_zero (multiplier k square i)) 0 (total (λ j. cond (is_zero (square k j)) 0 1) (between (suc k) n)) ≤ 128 =
    λ i. by_test (is_zero (multiplier k square i)) (λ e. rw e (omega arith)) (λ e. rw e (omega (arith, row_few))) in
    omega (
      arith,
      total-le _ (λ i. 128) (between (suc k) height) (λ i m. across i),
      rw (length_run (suc k) (suc height - suc k)) at (total_constant 128 (between (suc k) height)),
    )
  where
    row_few : total (λ j. cond (is_zero (square k j)) 0 1) (between (suc k) n) ≤ 128
    row_few =
        omega (
          arith,
          total-le (λ j. cond (is_zero (square k j)) 0 1) (λ j. 1) (between (suc k) n)
              (λ j m. by_test (is_zero (square k j)) (λ e. rw e (omega arith)) (λ e. rw e (omega arith))),
          rw (length_run (suc k) (suc n - suc k)) at (total_constant 1 (between (suc k) n)),
        )

module _ (p : Pattern) (choice : Choice) (values : Square Float) (right : ℕ → Float) (height-few : p.height ≤ 2048) (n_few : p.n ≤ 128) where
  -- so after s steps there are few
  pub run_few : (s : ℕ) (g : Going) → run_to p choice values right s ≡ going g → g.updates ≤ s * 262144
  unfolding running starting stepped
  run_few zero g e = let same : starting p values right ≡ g = cc in let none : 0 ≡ g.updates = ap (λ h. h.updates) same in omega arith
  run_few (suc s) g e =
      let d = run_did p choice values right s g e in
      rw d.becomes
      (omega (
        arith,
        run_few s d.was d.from,
        step_few p.height p.n (suc s) (exchanged (suc s) d.row d.was.square) height-few n_few,
        suc-mul s 262144,
      ))

-- a course that stopped did so at this step or row or before it
abbrev pub Early : ℕ → Course → Type 0
Early m (going g) = Unit
Early m (stopped reason k) = k ≤ m

early_step : (choice : Choice) (height n s : ℕ) (c : Course) → Early s c → Early (suc s) (step choice height n (suc s) c)
unfolding step step_with
early_step choice height n s (stopped reason k) h = omega arith
early_step choice height n s (going g) h = at (pivot_row choice height (suc s) (λ i. g.square i (suc s)))
  where
    at : (r : ℕ) → Early (suc s) (step_with height n (suc s) g r)
    at zero = omega arith
    at (suc r) = by_test (sound_with height n (suc s) (suc r) g) (λ e. rw e tt) (λ e. rw e (omega arith))

early_run : (choice : Choice) (height n : ℕ) (g : Going) (s : ℕ) → Early s (running choice height n g s)
unfolding running
early_run choice height n g zero = tt
early_run choice height n g (suc s) = early_step choice height n s (running choice height n g s) (early_run choice height n g s)

early_back : (n i m : ℕ) (g : Going) → i ≤ m → Early m (back n i g)
unfolding back
early_back n zero m g h = tt
early_back n (suc i) m g h =
    by_test (solved_row n g.square g.right (suc i)).sound (λ e. rw e (early_back n i m _ (omega arith))) (λ e. rw e (omega arith))

pub early_reference : (choice : Choice) (p : Pattern) (values : Square Float) (right : ℕ → Float) → Early p.n (reference choice whole p values right)
unfolding reference ended solved steps_of
early_reference choice p values right = at (run_to p choice values right p.n) (early_run choice p.height p.n (starting p values right) p.n)
  where
    at : (c : Course) → Early p.n c → Early p.n (solved p.n c)
    at (going g) h = early_back p.n p.n p.n g (omega arith)
    at (stopped reason k) h = h
