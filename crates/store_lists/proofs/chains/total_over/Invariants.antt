-- `total_over` meets its contract: what is counted so far and what is left of the chain make the whole.
use mathlib.Core.List.{List}
use Prim.Native.Nat.{ℕ}
use Rattle.store_lists.specs.Chains.{Sized}
use Rattle.store_lists.proofs.Chaining.{Walked}
use Rattle.store_lists.proofs.chains.total_over.Given as goal

abbrev pub invariant-loop-x : goal.invariant-loop-x
invariant-loop-x g l =
    (goal.iterator-loop-x g).can_next l.x-iterator
    × (goal.iterator-loop-x g).is_finite l.x-iterator
    × ((size : ℕ → ℕ) (all : List ℕ) → Sized (goal.F-post g l.count) l.links l.first size all
    → Walked size all l.sum l.x-iterator.members.0)
