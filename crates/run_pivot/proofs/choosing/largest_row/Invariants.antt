-- `largest_row` meets its contract: the loop's invariant is `Seeking`.
use Prim.Native.Nat.{◌≤◌, ◌-◌}
use mathlib.Core.Path.{◌≡◌}
use lib.ListN.{length}
use Rattle.run_pivot.proofs.Seeking.{Seeking}
use Rattle.run_pivot.proofs.choosing.largest_row.Given as goal

abbrev pub invariant-loop-q : goal.invariant-loop-q
invariant-loop-q l =
    (l.q ≤ length l.subs) × (length l.slots ≡ length l.subs) × Seeking l.k l.own l.slots l.subs l.row l.place l.top l.q

abbrev pub decreases-loop-q : goal.decreases-loop-q
decreases-loop-q l = length l.subs - l.q
