-- `put_counters` meets its contract: before turn t the first t places are written.
use Prim.Native.Nat.{◌-◌, ◌≤◌}
use lib.ListN.{length}
use Rattle.numbers.proofs.CutOrPadded.{Laying}
use Rattle.numbers.proofs.counters.put_counters.Given as goal

abbrev pub invariant-loop-t : goal.invariant-loop-t
invariant-loop-t l = (l.t ≤ length l.initial.out) × Laying l.counters l.initial.out l.out l.t

abbrev pub decreases-loop-t : goal.decreases-loop-t
decreases-loop-t l = length l.initial.out - l.t
