-- `write_next` meets its contract: what is left of the first list is further on in the union, and stands in the store.
use mathlib.Core.List.{List, ◌∷◌}
use Prim.Native.Nat.{ℕ, ◌-◌, ◌<◌}
use lib.ListN.{length}
use Rattle.store_lists.specs.Merging.{Merging}
use Rattle.store_lists.proofs.unions.write_next.Given as goal

abbrev pub invariant-loop-read : goal.invariant-loop-read
invariant-loop-read l =
    (l.written < length l.store)
    × ((whole later : List ℕ) → Merging l.fn.from.read l.fn.from.written l.fn.store whole (l.y ∷ later) → Merging l.read l.written l.store whole (l.y ∷ later))

abbrev pub decreases-loop-read : goal.decreases-loop-read
decreases-loop-read l = length l.initial.store - l.read
