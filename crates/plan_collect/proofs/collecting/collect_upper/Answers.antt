-- `collect_upper` meets its contract: what the columns of the row add behind the list of the step before is told, or the list is grown.
use Rattle.plan_collect.proofs.Whole.{added_whole}
use Rattle.plan_collect.proofs.collecting.collect_upper.Goals as goal

pub added_columns-requires : goal.added_columns-requires
added_columns-requires c =
    let pre = c.requires in record {
      joins_last = pre.joins_last c.if-joins.true;
      side_at = pre.collectable.at;
    }

pub returns-in-Behind : goal.returns-in-Behind
returns-in-Behind c =
    let pre = c.requires in
    let j = pre.joins_last c.if-joins.true in
    let more = rw c.in-Behind.is at c.added_columns.ensures in
    added_whole j more

pub collect_grown-requires : goal.collect_grown-requires
collect_grown-requires c = c.requires.collectable

pub returns : goal.returns
returns c = c.collect_grown.ensures
