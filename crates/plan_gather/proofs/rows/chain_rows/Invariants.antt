-- `chain_rows` meets its contract: the rows behind row i stand in the chains of their least columns.
use Prim.Native.Nat.{◌-◌, ◌≤◌}
use lib.ListN.{length}
use Rattle.store_lists.specs.Chains.{Chained}
use Rattle.plan_gather.specs.Ready.{lent_by, Ready}
use Rattle.plan_gather.specs.Steps.{rows_from}
use Rattle.plan_gather.proofs.rows.chain_rows.Given as goal

abbrev pub invariant-loop-i : goal.invariant-loop-i
invariant-loop-i l =
    (l.i ≤ length l.starts - 1) × Ready (lent_by l.n l.starts l.columns) × Chained l.heads l.links (length l.starts - 1) l.n (rows_from (lent_by l.n l.starts l.columns) l.i)

abbrev pub decreases-loop-i : goal.decreases-loop-i
decreases-loop-i l = l.i
