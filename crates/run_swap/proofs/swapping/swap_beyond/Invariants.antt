-- `swap_beyond` meets its contract: the loop's invariant is that the columns before place t are exchanged.
use Prim.Native.Nat.{◌≤◌, ◌-◌}
use mathlib.Core.Path.{◌≡◌}
use lib.ListN.{length}
use Rattle.run_slots.specs.Shows.{square_stores}
use Rattle.run_swap.specs.Swapping.{Swapped, BeyondAsks}
use Rattle.run_swap.proofs.swapping.swap_beyond.Given as goal

abbrev pub invariant-loop-t : goal.invariant-loop-t
invariant-loop-t l =
    (l.from ≤ l.t) × (l.t ≤ length l.us) × (length l.u ≡ length l.initial.u)
    × ((w : BeyondAsks l.us l.first.0 l.from l.own l.second.0 l.initial.u)
    → Swapped w.s w.n w.height w.k w.p l.t w.square w.right (square_stores w.l l.u w.d w.x))

abbrev pub decreases-loop-t : goal.decreases-loop-t
decreases-loop-t l = length l.us - l.t
