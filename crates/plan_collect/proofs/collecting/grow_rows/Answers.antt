-- `grow_rows` meets its contract: what has grown stays, and what lies in the pattern still is grown.
use Rattle.plan_collect.proofs.collecting.grow_rows.Goals as goal

pub returns-in-Grown : goal.returns-in-Grown
returns-in-Grown c = rw c.in-Grown.is at c.requires.lies_as

pub from_rows-requires : goal.from_rows-requires
from_rows-requires c =
    let pre = c.requires in record {
      ready = pre.ready;
      linked = pre.linked.0;
      growing_len = pre.linked.1;
    }

pub returns : goal.returns
returns c = c.from_rows.ensures
