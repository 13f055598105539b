-- `place_of` meets its contract: the loop's invariant is `Halving`, its measure what is left between the two ends.
use native.Mathlib.Omega.{arith}
use Rattle.store_search.proofs.Places.{halving_start, halving_up, halving_down, halving_end}
use Rattle.store_search.proofs.finding.place_of.Goals as goal

pub loop-low-init : goal.loop-low-init
loop-low-init c = (omega arith, omega arith, λ up. halving_start _ _)

pub loop-low-preserved-then-list-mid : goal.loop-low-preserved-then-list-mid
loop-low-preserved-then-list-mid c =
    let loop = c.loop-low in
    (omega arith, loop.invariant.1, λ up. halving_up _ _ _ _ _ up (loop.invariant.2 up) (omega arith) c.if-list-mid.true)

pub loop-low-preserved : goal.loop-low-preserved
loop-low-preserved c =
    (omega arith, omega arith, λ up. halving_down _ _ _ _ _ up (c.loop-low.invariant.2 up) (omega arith) c.if-list-mid.false)

pub returns : goal.returns
returns c = (omega arith, λ up. halving_end _ _ _ _ (omega arith) c.loop-low-test.false (c.loop-low.invariant.2 up))
