-- `collect_steps` meets its contract: the lists of a sole step are told, or both lists are collected, one side after the other; either way the steps of S_k are counted as read.
use mathlib.Core.Path.{◌∙◌}
use Rattle.plan_append.proofs.Joining.{row_inside}
use Rattle.plan_collect.proofs.Whole.{set_walks, set-inside, reads_fit, reads_collected, sole-whole, collect_ready, lists_whole}
use Rattle.plan_collect.proofs.collecting.collect_steps.Goals as goal

pub returns-then-l-ne0 : goal.returns-then-l-ne0
returns-then-l-ne0 c =
    let (l, u) = c.requires.side_at in
    let (chains, some, size) = c.requires.chains_of in
    let rows = c.requires.lists_at in
    let sole = c.sole_step-l.ensures in
    lists_whole rows.lower_size rows.upper_size (sole-whole l.step chains sole c.if-l-ne0.true) (sole-whole l.step chains sole
    c.if-l-ne0.true)
    (reads_collected l u chains rows.counted c.step_reads-shared.ensures)

pub returns : goal.returns
returns c =
    let (l, u) = c.requires.side_at in
    let (chains, some, size) = c.requires.chains_of in
    let rows = c.requires.lists_at in
    let lowers = c.collect_lower-l_lies in
    let uppers = c.collect_upper-u_lies in
    lists_whole (lowers.auto.growing ∙ rows.lower_size) (uppers.auto.growing ∙
    rows.upper_size) lowers.ensures uppers.ensures
    (reads_collected l u chains rows.counted c.step_reads-more.ensures)

pub sole_step-l-requires : goal.sole_step-l-requires
sole_step-l-requires c =
    let (l, u) = c.requires.side_at in
    let (chains, some, size) = c.requires.chains_of in
    let rows = c.requires.lists_at in
    set-inside chains some

pub step_reads-shared-requires : goal.step_reads-shared-requires
step_reads-shared-requires c =
    let (l, u) = c.requires.side_at in
    let (chains, some, size) = c.requires.chains_of in
    let rows = c.requires.lists_at in
    (_, set_walks l u chains size)

pub overflow_add-counted : goal.overflow_add-counted
overflow_add-counted c =
    let (l, u) = c.requires.side_at in
    let (chains, some, size) = c.requires.chains_of in
    let rows = c.requires.lists_at in
    reads_fit l u chains rows.counted c.step_reads-shared.ensures

pub joins_last-joins-requires : goal.joins_last-joins-requires
joins_last-joins-requires c =
    let (l, u) = c.requires.side_at in
    let (chains, some, size) = c.requires.chains_of in
    let rows = c.requires.lists_at in
    (row_inside l.step chains, set-inside chains some, l.step.low)

pub collect_lower-l_lies-requires : goal.collect_lower-l_lies-requires
collect_lower-l_lies-requires c =
    let (l, u) = c.requires.side_at in
    let (chains, some, size) = c.requires.chains_of in
    let rows = c.requires.lists_at in let given = collect_ready l.step chains c.sole_step-l.ensures c.if-l-ne0.false l rows.lower_size rows.lower_lies
    c.joins_last-joins.ensures in record {
      joins_last = given.0;
      collectable = given.1;
    }

pub collect_upper-u_lies-requires : goal.collect_upper-u_lies-requires
collect_upper-u_lies-requires c =
    let (l, u) = c.requires.side_at in
    let (chains, some, size) = c.requires.chains_of in
    let rows = c.requires.lists_at in let given = collect_ready u.step chains c.sole_step-l.ensures c.if-l-ne0.false u rows.upper_size rows.upper_lies
    c.joins_last-joins.ensures in record {
      joins_last = given.0;
      collectable = given.1;
    }

pub step_reads-more-requires : goal.step_reads-more-requires
step_reads-more-requires c =
    let (l, u) = c.requires.side_at in
    let (chains, some, size) = c.requires.chains_of in
    let rows = c.requires.lists_at in
    (_, set_walks l u chains size)

pub overflow_add-reads : goal.overflow_add-reads
overflow_add-reads c =
    let (l, u) = c.requires.side_at in
    let (chains, some, size) = c.requires.chains_of in
    let rows = c.requires.lists_at in
    reads_fit l u chains rows.counted c.step_reads-more.ensures
