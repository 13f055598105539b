-- `run_solve::solve` meets its contract: what the rows above i make of x is what is left of back substitution.
use mathlib.Core.Path.{◌≡◌}
use Prim.Native.Nat.{◌≤◌}
use lib.ListN.{length}
use Rattle.answers.specs.Stores.{side_stores}
use Rattle.run_slots.specs.Handing.{SolveAsks}
use Rattle.run_solve.proofs.Solving.{Solving}
use Rattle.run_solve.proofs.solve.Given as goal

abbrev pub invariant-loop-i : goal.invariant-loop-i
invariant-loop-i l =
    (l.i ≤ l.n) × ((length l.x ≡ length l.initial.x) × (length l.initial.x ≡ l.n)) × ((w : SolveAsks l.n (side_stores l.subs l.starts l.slots) l.u l.d l.initial.x)
    → Solving l.n (side_stores l.subs l.starts l.slots) l.u l.d l.initial.x w l.x l.i)

abbrev pub decreases-loop-i : goal.decreases-loop-i
decreases-loop-i l = l.i
