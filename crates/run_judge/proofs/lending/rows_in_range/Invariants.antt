-- `lending::rows_in_range` meets its contract: what is still to be tested decides.
use mathlib.Core.Path.{◌≡◌}
use Prim.Native.Nat.{◌≤◌, ◌-◌, ◌+◌}
use lib.ListN.{length, drop}
use Rattle.foundation.specs.RunCall.{rows_in_range}
use Rattle.run_judge.proofs.lending.rows_in_range.Given as goal

abbrev pub invariant-loop-k : goal.invariant-loop-k
invariant-loop-k l =
    (l.k ≤ length l.rows) × (rows_in_range l.height (l.k + 1) (drop l.k l.rows) ≡ rows_in_range l.height 1 l.rows)

abbrev pub decreases-loop-k : goal.decreases-loop-k
decreases-loop-k l = length l.rows - l.k
