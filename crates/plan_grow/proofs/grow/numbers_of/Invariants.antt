-- `numbers_of` meets its contract: for each pattern whose rows the chain links, the list grown and what is left of the chain make what all its rows
-- bring to L, and what is grown is below what is left.
use mathlib.Core.Path.{◌≡◌}
use lib.ListN.{length}
use Rattle.foundation.specs.Pattern.{Lent}
use Rattle.store_lists.specs.Chains.{Linked}
use Rattle.plan_gather.specs.Ready.{plan_of}
use Rattle.plan_gather.specs.Steps.{StepOf}
use Rattle.plan_grow.proofs.Turns.{NumbersJoined}
use Rattle.plan_grow.proofs.grow.numbers_of.Given as goal

abbrev pub invariant-loop-i : goal.invariant-loop-i
invariant-loop-i l =
    (goal.iterator-loop-i).can_next l.i-iterator
    × (goal.iterator-loop-i).is_finite l.i-iterator
    × ((p : Lent) → StepOf p l.n l.k → Linked l.links l.first ((plan_of p).first_met l.k) → length l.initial.growing ≡ p.height
    → NumbersJoined p l.k l.count l.growing l.i-iterator.members.0)
