-- `fill_rows` meets its contract. The loop's invariant: the first i rows of the load are in the stores, zeros beyond.
use Prim.Native.Nat.{◌-◌}
use lib.ListN.{length}
use Rattle.foundation.specs.Load.{rows_up_to}
use Rattle.load_rows.proofs.Stores.{Holds}
use Rattle.load_rows.proofs.fill_rows.Given as goal

abbrev pub invariant-loop-i : goal.invariant-loop-i
invariant-loop-i l =
    Holds (rows_up_to l.seed l.n l.d l.i) l.n l.i (length l.initial.columns) l.starts l.columns l.values l.right l.state l.filled

abbrev pub decreases-loop-i : goal.decreases-loop-i
decreases-loop-i l = l.n - l.i
