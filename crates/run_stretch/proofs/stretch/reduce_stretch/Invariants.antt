-- `reduce_stretch` meets its contract: the loop's invariant is `Reducing`.
use mathlib.Core.Path.{◌≡◌}
use Prim.Native.Nat.{◌≤◌, ◌-◌}
use lib.ListN.{length}
use Rattle.run_stretch.proofs.Reducing.{Reducing}
use Rattle.run_stretch.proofs.stretch.reduce_stretch.Given as goal

abbrev pub invariant-loop-q : goal.invariant-loop-q
invariant-loop-q l =
    (l.q ≤ length l.w) × (length l.y ≡ length l.w) × (length l.initial.y ≡ length l.w) × Reducing l.m l.w l.initial.y l.y l.flag l.bad l.q

abbrev pub decreases-loop-q : goal.decreases-loop-q
decreases-loop-q l = length l.w - l.q
