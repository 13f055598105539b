-- `count_nonzero` meets its contract: the loop's invariant is `Counting`.
use Prim.Native.Nat.{◌≤◌, ◌-◌}
use lib.ListN.{length}
use Rattle.run_column.proofs.Dividing.{Counting}
use Rattle.run_column.proofs.loops.count_nonzero.Given as goal

abbrev pub invariant-loop-q : goal.invariant-loop-q
invariant-loop-q l = (l.q ≤ length l.values) × Counting l.values l.count l.q

abbrev pub decreases-loop-q : goal.decreases-loop-q
decreases-loop-q l = length l.values - l.q
