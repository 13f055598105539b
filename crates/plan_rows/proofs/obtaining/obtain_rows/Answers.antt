-- `obtain_rows` meets its contract: the chain of step k is emptied, and what its rows bring lies where it is said.
use Rattle.lists.proofs.Small.{index-fits}
use Rattle.foundation.specs.Pattern.{lent}
use Rattle.plan_gather.specs.Ready.{lent_by}
use Rattle.plan_gather.proofs.Progress.{place_fits}
use Rattle.plan_rows.proofs.Rows.{head_inside, rows-linked, rows_left, rows_walked, begun, one_row_lem, row_inside, rows-read, read_fits}
use Rattle.plan_rows.proofs.Rows.{no_rows, row_alone, rows_grown}
use Rattle.plan_rows.proofs.obtaining.obtain_rows.Goals as goal

pub offset_bounds-row_heads-k : goal.offset_bounds-row_heads-k
offset_bounds-row_heads-k c = place_fits c.requires.step_of.0

pub bounds-row_heads-k : goal.bounds-row_heads-k
bounds-row_heads-k c = head_inside c.requires.step_of.0 c.requires.chained

pub returns-then-row-eq0 : goal.returns-then-row-eq0
unfolding lent_by lent
returns-then-row-eq0 c =
    let step = c.requires.step_of.0 in
    let linked = rows-linked step c.requires.chained c.requires.step_of.1 in record {
      lists = no_rows step c.requires.lists_at _ linked c.if-row-eq0.true;
      met = rows_left step c.requires.chained;
    }

pub row_reads-more-requires : goal.row_reads-more-requires
unfolding lent_by lent
row_reads-more-requires c =
    let step = c.requires.step_of.0 in
    (_, rows_walked step _ _ (rows-linked step c.requires.chained c.requires.step_of.1))

pub overflow_add-reads : goal.overflow_add-reads
unfolding lent_by lent
overflow_add-reads c =
    let step = c.requires.step_of.0 in
    read_fits step _ _ (rows-linked step c.requires.chained c.requires.step_of.1) (begun step c.requires.lists_at) c.row_reads-more.ensures

pub offset_bounds-row_links-row : goal.offset_bounds-row_links-row
unfolding lent_by lent
offset_bounds-row_links-row c =
    let step = c.requires.step_of.0 in
    index-fits (row_inside step _ _ (rows-linked step c.requires.chained c.requires.step_of.1) c.if-row-eq0.false) c.well_formed.1.1.1.1.1.0.1

pub bounds-row_links-row : goal.bounds-row_links-row
unfolding lent_by lent
bounds-row_links-row c =
    let step = c.requires.step_of.0 in
    row_inside step _ _ (rows-linked step c.requires.chained c.requires.step_of.1) c.if-row-eq0.false

pub returns-then-row_links-row-eq0 : goal.returns-then-row_links-row-eq0
unfolding lent_by lent
returns-then-row_links-row-eq0 c =
    let step = c.requires.step_of.0 in
    let linked = rows-linked step c.requires.chained c.requires.step_of.1 in
    let read = rows-read step _ _ linked (begun step c.requires.lists_at) c.row_reads-more.ensures in record {
      lists = row_alone step c.requires.lists_at (one_row_lem step _ _ linked c.if-row-eq0.false c.if-row_links-row-eq0.true) read;
      met = rows_left step c.requires.chained;
    }

pub from_rows-l_count-requires : goal.from_rows-l_count-requires
unfolding lent_by lent
from_rows-l_count-requires c =
    let step = c.requires.step_of.0 in record {
      ready = (step.ready, step.low, step.high);
      linked = rows-linked step c.requires.chained c.requires.step_of.1;
      growing_len = c.requires.lists_at.lower_size;
    }

pub from_rows-u_count-requires : goal.from_rows-u_count-requires
unfolding lent_by lent
from_rows-u_count-requires c =
    let step = c.requires.step_of.0 in record {
      ready = (step.ready, step.low, step.high);
      linked = rows-linked step c.requires.chained c.requires.step_of.1;
      growing_len = c.requires.lists_at.upper_size;
    }

pub returns : goal.returns
unfolding lent_by lent
returns c =
    let step = c.requires.step_of.0 in
    let linked = rows-linked step c.requires.chained c.requires.step_of.1 in
    let read = rows-read step _ _ linked (begun step c.requires.lists_at) c.row_reads-more.ensures in record {
      lists = rows_grown c.from_rows-l_count.ensures c.from_rows-u_count.ensures read;
      met = rows_left step c.requires.chained;
    }
