-- `collect_lower` meets its contract: what the row adds behind the list of the step before is told, or the list is grown.
use Rattle.plan_collect.proofs.Whole.{added_whole}
use Rattle.plan_collect.proofs.collecting.collect_lower.Goals as goal

pub added_own-requires : goal.added_own-requires
added_own-requires c = let pre = c.requires in (_, pre.joins_last c.if-joins.true, pre.collectable.at)

pub returns-in-Behind : goal.returns-in-Behind
returns-in-Behind c =
    let pre = c.requires in
    let j = pre.joins_last c.if-joins.true in
    let own = rw c.in-Behind.is at (c.added_own.ensures _ j pre.collectable.at) in
    added_whole j own

pub collect_grown-requires : goal.collect_grown-requires
collect_grown-requires c = c.requires.collectable

pub returns : goal.returns
returns c = c.collect_grown.ensures
