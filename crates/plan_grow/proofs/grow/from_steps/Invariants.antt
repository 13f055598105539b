-- `from_steps` meets its contract: for each pattern whose steps the stores contain, the list grown and what is left of the chain make the kept list of k.
use Rattle.foundation.specs.Pattern.{Lent}
use Rattle.answers.specs.Stores.{side_stores}
use Rattle.foundation.specs.Plan.{Side}
use Rattle.plan_grow.specs.Growing.{StepsReady}
use Rattle.plan_grow.proofs.Turns.{StepsJoined}
use Rattle.plan_grow.proofs.grow.from_steps.Given as goal

abbrev pub invariant-loop-l : goal.invariant-loop-l
invariant-loop-l l =
    (goal.iterator-loop-l).can_next l.l-iterator
    × (goal.iterator-loop-l).is_finite l.l-iterator
    × ((p : Lent) (side : Side) → StepsReady p side l.n l.k l.first l.links (side_stores l.subs l.starts l.slots) l.gathered l.initial.growing
    → StepsJoined p side l.k l.count l.growing l.l-iterator.members.0)
