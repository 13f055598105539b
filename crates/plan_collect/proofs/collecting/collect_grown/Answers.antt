-- `collect_grown` meets its contract: the steps of S_k join what the rows brought, and the list is whole.
use Rattle.plan_collect.proofs.Whole.{rows-ready, steps-ready, grown-whole}
use Rattle.plan_collect.proofs.collecting.collect_grown.Goals as goal

pub grow_rows-count-requires : goal.grow_rows-count-requires
grow_rows-count-requires c =
    let given = rows-ready c.requires in record {
      ready = given.0;
      linked = given.1.0;
      lies_as = given.1.1;
    }

pub from_steps-requires : goal.from_steps-requires
from_steps-requires c = (_, _, steps-ready c.requires c.grow_rows-count.ensures)

pub returns : goal.returns
returns c =
    let pre = c.requires in
    grown-whole pre (c.from_steps.ensures _ _ (steps-ready pre c.grow_rows-count.ensures))
