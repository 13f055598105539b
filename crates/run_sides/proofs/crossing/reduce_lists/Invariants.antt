-- `reduce_lists` meets its contract: the loop's invariant is `Partly`, the new square on the lists done.
use mathlib.Core.Path.{◌≡◌}
use Prim.Native.Nat.{◌≤◌, ◌-◌}
use lib.ListN.{length}
use Rattle.answers.specs.Stores.{side_stores}
use Rattle.run_sides.specs.Heads.{HeadsAsk}
use Rattle.run_sides.proofs.Heads.{Partly, Under}
use Rattle.run_sides.proofs.crossing.reduce_lists.Given as goal

abbrev pub invariant-loop-t : goal.invariant-loop-t
invariant-loop-t l =
    (l.t ≤ length l.heads) × (l.s ≤ length l.over) × (length l.y ≡ length l.initial.y) × Under l.t l.s l.heads l.over ×
    ((w : HeadsAsk l.initial.y (side_stores l.subs l.starts l.slots) l.heads l.over l.factors l.values l.dense l.opening.0)
    → Partly l.initial.y (side_stores l.subs l.starts l.slots) l.heads l.over l.factors l.values l.dense l.opening.0 w l.flag l.y l.bad l.t)

abbrev pub decreases-loop-t : goal.decreases-loop-t
decreases-loop-t l = length l.heads - l.t
