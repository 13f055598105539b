-- `divide` meets its contract: the loop's invariant is `Dividing`.
use Prim.Native.Nat.{◌≤◌, ◌-◌}
use lib.ListN.{length}
use Rattle.run_column.proofs.Dividing.{Dividing}
use Rattle.run_column.proofs.loops.divide.Given as goal

abbrev pub invariant-loop-q : goal.invariant-loop-q
invariant-loop-q l = (l.q ≤ length l.initial.part) × Dividing l.pivot l.initial.part l.part l.flag l.bad l.count l.q

abbrev pub decreases-loop-q : goal.decreases-loop-q
decreases-loop-q l = length l.initial.part - l.q
