-- `spread` meets its contract: the loop's invariant is `Spreading`.
use mathlib.Core.Path.{◌≡◌}
use Prim.Native.Nat.{◌≤◌, ◌-◌}
use lib.ListN.{length}
use Rattle.run_stretch.proofs.Laying.{Spreading}
use Rattle.run_stretch.proofs.work.spread.Given as goal

abbrev pub invariant-loop-i : goal.invariant-loop-i
invariant-loop-i l =
    (l.i ≤ length l.subs) × (length l.dense ≡ length l.initial.dense) × Spreading l.subs l.values l.dense l.i

abbrev pub decreases-loop-i : goal.decreases-loop-i
decreases-loop-i l = length l.subs - l.i
