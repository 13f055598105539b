-- `columns_of` meets its contract: the list grown and what is left of the chain make what all its rows bring to U.
use Rattle.foundation.specs.Plan.{upper}
use Rattle.plan_gather.specs.Ready.{lent_by}
use Rattle.plan_grow.proofs.Turns.{RowsJoined}
use Rattle.plan_grow.proofs.grow.columns_of.Given as goal

abbrev pub invariant-loop-i : goal.invariant-loop-i
invariant-loop-i l =
    (goal.iterator-loop-i).can_next l.i-iterator
    × (goal.iterator-loop-i).is_finite l.i-iterator
    × RowsJoined (lent_by l.n l.starts l.columns) upper l.k l.count l.growing l.i-iterator.members.0
