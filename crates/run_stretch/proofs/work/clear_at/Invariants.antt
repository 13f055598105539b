-- `clear_at` meets its contract: the loop's invariant is `Clearing`.
use mathlib.Core.Path.{◌≡◌}
use Prim.Native.Nat.{◌≤◌, ◌-◌}
use lib.ListN.{length}
use Rattle.run_stretch.proofs.Laying.{Clearing}
use Rattle.run_stretch.proofs.work.clear_at.Given as goal

abbrev pub invariant-loop-i : goal.invariant-loop-i
invariant-loop-i l = (l.i ≤ length l.subs) × (length l.dense ≡ length l.initial.dense) × Clearing l.subs l.dense l.i

abbrev pub decreases-loop-i : goal.decreases-loop-i
decreases-loop-i l = length l.subs - l.i
