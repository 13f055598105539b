-- `put` meets its contract: before turn t the first t places are written.
use Prim.Native.Nat.{◌-◌, ◌≤◌}
use lib.ListN.{length}
use Rattle.numbers.proofs.CutOrPadded.{Laying}
use Rattle.numbers.proofs.laying.put.Given as goal

abbrev pub invariant-loop-t : goal.invariant-loop-t
invariant-loop-t l = (l.t ≤ length l.initial.answer) × Laying l.numbers l.initial.answer l.answer l.t

abbrev pub decreases-loop-t : goal.decreases-loop-t
decreases-loop-t l = length l.initial.answer - l.t
