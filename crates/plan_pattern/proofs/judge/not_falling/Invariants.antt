-- The loop's invariant: the judgement of what is still to come, from the last start on, is the judgement of all.
use mathlib.Core.Path.{◌≡◌}
use Prim.Native.Nat.{◌≤◌, ◌-◌}
use lib.ListN.{length, drop}
use Rattle.foundation.specs.Pattern.{not_falling}
use Rattle.plan_pattern.proofs.judge.not_falling.Given as goal

abbrev pub invariant-loop-i : goal.invariant-loop-i
invariant-loop-i l = (l.i ≤ length l.starts) × (not_falling l.last (drop l.i l.starts) ≡ not_falling 0 l.starts)

abbrev pub decreases-loop-i : goal.decreases-loop-i
decreases-loop-i l = length l.starts - l.i
