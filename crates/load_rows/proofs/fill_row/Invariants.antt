-- `fill_row` meets its contract. The loop's invariant: the first j places of the row are laid from `filled` on.
use Prim.Native.Nat.{◌≤◌, ◌-◌}
use lib.ListN.{length}
use Rattle.load_rows.proofs.Rows.{RowAt}
use Rattle.load_rows.proofs.fill_row.Given as goal

abbrev pub invariant-loop-j : goal.invariant-loop-j
invariant-loop-j l =
    (l.j ≤ l.n) × RowAt l.d l.row l.state (length l.initial.columns) l.filled l.j l.initial.columns l.columns l.initial.values l.values l.current l.end

abbrev pub decreases-loop-j : goal.decreases-loop-j
decreases-loop-j l = l.n - l.j
