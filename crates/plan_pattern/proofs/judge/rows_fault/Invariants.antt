-- The loop's invariant: the first fault of the rows that are still to come is the first fault of all.
use mathlib.Core.Path.{◌≡◌}
use Prim.Native.Nat.{◌+◌, ◌≤◌, ◌-◌}
use Rattle.foundation.specs.Pattern.{lent, rows_fault}
use Rattle.plan_pattern.proofs.Judging.{Fitted}
use Rattle.plan_pattern.proofs.judge.rows_fault.Given as goal

abbrev pub invariant-loop-i : goal.invariant-loop-i
invariant-loop-i l =
    (l.i ≤ l.height) × Fitted l.height l.starts l.columns × (rows_fault (lent l.n l.height l.starts l.columns) (l.i + 1) (l.height - l.i) ≡
    rows_fault (lent l.n l.height l.starts l.columns) 1 l.height)

abbrev pub decreases-loop-i : goal.decreases-loop-i
decreases-loop-i l = l.height - l.i
