-- `merge_in` meets its contract: the union with the members of the second list that are passed is written, but for what is left of the first, which stands in the store.
use lib.ListN.{take, drop}
use Rattle.lists.specs.Sets.{union}
use Rattle.store_lists.specs.Merging.{Merging}
use Rattle.store_lists.proofs.unions.merge_in.Given as goal

abbrev pub invariant-loop-at : goal.invariant-loop-at
invariant-loop-at l = Merging l.merged.read l.merged.written l.store (union (take l.count l.fn.store) l.more) (drop l.at l.more)
