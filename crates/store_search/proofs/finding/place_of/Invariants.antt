-- `place_of` meets its contract: the loop's invariant is `Halving`, its measure what is left between the two ends.
use Prim.Native.Nat.{◌≤◌, ◌-◌}
use lib.ListN.{length}
use Rattle.lists.specs.Sets.{Ascending}
use Rattle.store_search.proofs.Places.{Halving}
use Rattle.store_search.proofs.finding.place_of.Given as goal

abbrev pub invariant-loop-low : goal.invariant-loop-low
invariant-loop-low l =
    (l.low ≤ l.high) × (l.high ≤ length l.list) × (Ascending 0 l.list → Halving l.list l.x l.low l.high)

abbrev pub decreases-loop-low : goal.decreases-loop-low
decreases-loop-low l = l.high - l.low
