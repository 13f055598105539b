-- `swap_before` meets its contract: the loop's invariant is that the columns before place t lie before p and are exchanged.
use Prim.Native.Nat.{◌≤◌, ◌-◌}
use mathlib.Core.Path.{◌≡◌}
use lib.ListN.{length}
use Rattle.answers.specs.Stores.{side_stores}
use Rattle.run_slots.specs.Shows.{square_stores}
use Rattle.store_search.proofs.Places.{Halving}
use Rattle.run_swap.specs.Swapping.{Swapped, BeforeAsks}
use Rattle.run_swap.proofs.swapping.swap_before.Given as goal

abbrev pub invariant-loop-t : goal.invariant-loop-t
invariant-loop-t l =
    (l.t ≤ length l.us) × Halving l.us l.p l.t (length l.us) × (length l.l ≡ length l.initial.l) × (length l.u ≡ length l.initial.u)
    × ((w : BeforeAsks l.us l.first.0 l.p (side_stores l.l_subs l.l_starts l.l_slots) l.initial.l l.initial.u)
    → Swapped w.s w.n w.height w.k l.p l.t w.square w.right (square_stores l.l l.u w.d w.x))

abbrev pub decreases-loop-t : goal.decreases-loop-t
decreases-loop-t l = length l.us - l.t
