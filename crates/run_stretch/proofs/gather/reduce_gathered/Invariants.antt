-- `reduce_gathered` meets its contract: the loop is that of `reduce_stretch`, over what the subscripts find.
use mathlib.Core.Path.{◌≡◌}
use Prim.Native.Nat.{◌≤◌, ◌-◌}
use lib.ListN.{length}
use Rattle.run_stretch.specs.Stretches.{gathered}
use Rattle.run_stretch.proofs.Reducing.{Reducing}
use Rattle.run_stretch.proofs.gather.reduce_gathered.Given as goal

abbrev pub invariant-loop-q : goal.invariant-loop-q
invariant-loop-q l =
    (l.q ≤ length l.subs) × (length l.y ≡ length l.subs) × (length l.initial.y ≡ length l.subs) × Reducing l.m (gathered l.dense l.subs) l.initial.y l.y l.flag l.bad l.q

abbrev pub decreases-loop-q : goal.decreases-loop-q
decreases-loop-q l = length l.subs - l.q
