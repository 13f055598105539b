-- The pivot row of every step of a run by the largest entry, and where such a run stops with 13.
use mathlib.Core.Bool.{true, false}
use mathlib.Core.Logic.{◌↔◌}
use mathlib.Core.Path.{◌≡◌, refl, subst}
use Prim.Native.Nat.{ℕ, zero, suc, ◌≤◌}
use native.Mathlib.Omega.{arith}
use lib.Ieee.{Float}
use lib.ListN.{get_or}
use Rattle.lists.proofs.Members.{and_right}
use Rattle.lists.proofs.Small.{less_one}
use Rattle.foundation.specs.Claims.{LargestFrom, LargestRow, FiniteGiven, LargestAtEveryStep}
use Rattle.foundation.specs.Numbers.{may_pivot}
use Rattle.foundation.specs.Pattern.{Pattern}
use Rattle.foundation.specs.Reference.{largest, Extent, steps_of, pivot_row, noPivot, Going, going, stopped, ended, reference}
use Rattle.foundation.specs.RunCall.{choice_fits, extent_fits, order_fits}
use Rattle.foundation.specs.Square.{Square}
use Rattle.foundation.proofs.FloatRun.{run_to, steps_fit}
use Rattle.foundation.proofs.LargestRow.{largest_row}
use Rattle.foundation.proofs.FiniteRun.{sound-running}
use Rattle.foundation.proofs.PivotSteps.{chosen_by_lem, stops_just_where, no_step}

module _ (p : Pattern) (extent : Extent) (order : order_fits p largest extent ≡ true) (values : Square Float) (right : ℕ → Float)
    (given : FiniteGiven p values right) where
  within : steps_of extent p.n ≤ p.n
  unfolding order_fits
  within = steps_fit p extent (and_right (choice_fits p largest) (extent_fits p extent) order)

  -- the row of a step that a run came to is the lowest of those with the largest magnitude
  row_largest :
      (t : ℕ) → suc t ≤ steps_of extent p.n → (before : Going) → run_to p largest values right t ≡ going before
      → LargestFrom (suc t) p.height (λ i. before.square i (suc t)) (pivot_row largest p.height (suc t) (λ i. before.square i (suc t)))
  unfolding choice_fits LargestRow
  row_largest t high before e =
      largest_row p.height (suc t) (λ i. before.square i (suc t)) (omega arith)
      (λ i b. (sound-running p values right given largest refl t before (omega (arith, within)) e).square i (suc t) (omega (arith, b.0), b.1, omega arith, omega (arith, within)))

  goes_on :
      (t : ℕ) → suc t ≤ steps_of extent p.n → (g : Going) → reference largest extent p values right ≡ going g
      → (before : Going) × (run_to p largest values right t ≡ going before) × (1 ≤ get_or g.pivots t 0)
      × LargestFrom (suc t) p.height (λ i. before.square i (suc t)) (get_or g.pivots t 0)
  goes_on t high g e =
      let c = chosen_by_lem p largest values right extent t high g e in
      (c.before, c.from, c.some, subst (LargestFrom (suc t) p.height (λ i. c.before.square i (suc t))) c.row (row_largest t high c.before c.from))

  stops :
      (t : ℕ) → suc t ≤ steps_of extent p.n → (before : Going) → run_to p largest values right t ≡ going before
      → (reference largest extent p values right ≡ stopped noPivot (suc t)) ↔ ((i : ℕ) → (suc t ≤ i) × (i ≤ p.height) → may_pivot (before.square i (suc t)) ≡ false)
  stops t high before e =
      let (there, back) = stops_just_where p largest extent values right t high before e in
      (λ f. none.0 (there f), λ f. back (none.1 f))
    where
      none :
          (pivot_row largest p.height (suc t) (λ i. before.square i (suc t)) ≡ 0)
          ↔ ((i : ℕ) → (suc t ≤ i) × (i ≤ p.height) → may_pivot (before.square i (suc t)) ≡ false)
      none = (row_largest t high before e).without

pub largest_at_every_step : LargestAtEveryStep
unfolding LargestAtEveryStep reference ended steps_of
largest_at_every_step p extent order values right given zero (low, high) = absurd (no_step low)
largest_at_every_step p extent order values right given (suc t) (low, high) =
    rw (less_one t)
    (λ g e. goes_on p extent order values right given t high g e, λ before e. stops p extent order values right given t high before e)
