-- `first_above` meets its contract: all members passed are no greater than i.
use Prim.Native.Nat.{◌≤◌, ◌-◌}
use lib.ListN.{length}
use Rattle.run_stretch.specs.Stretches.{UpTo}
use Rattle.run_stretch.proofs.first_above.Given as goal

abbrev pub invariant-loop-q : goal.invariant-loop-q
invariant-loop-q l = (l.q ≤ length l.list) × (l.s ≤ l.q) × UpTo l.i l.q l.list

abbrev pub decreases-loop-q : goal.decreases-loop-q
decreases-loop-q l = length l.list - l.q
