-- The loop's invariant: the first fault of what is still to come, behind the column before, is the first fault of all.
use mathlib.Core.Path.{◌≡◌}
use Prim.Native.Nat.{◌≤◌, ◌-◌}
use lib.ListN.{length, drop}
use Rattle.foundation.specs.Pattern.{entries_fault}
use Rattle.plan_pattern.proofs.judge.entries_fault.Given as goal

abbrev pub invariant-loop-i : goal.invariant-loop-i
invariant-loop-i l = (l.i ≤ length l.row) × (entries_fault l.n l.before (drop l.i l.row) ≡ entries_fault l.n 0 l.row)

abbrev pub decreases-loop-i : goal.decreases-loop-i
decreases-loop-i l = length l.row - l.i
