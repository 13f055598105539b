-- `plan_step` meets its contract: what it hands to each function that it calls, and what all of them leave, are laws of `Stepping`.
use Rattle.plan_gather.proofs.Progress.{place_fits, row_head_inside}
use Rattle.plan_step.proofs.Stepping.{lists_ask, side_layable, turned_on}
use Rattle.plan_step.proofs.step.plan_step.Goals as goal

pub offset_bounds-row_heads-k : goal.offset_bounds-row_heads-k
offset_bounds-row_heads-k c = place_fits c.requires.step_of.0

pub bounds-row_heads-k : goal.bounds-row_heads-k
bounds-row_heads-k c = row_head_inside c.requires.step_of

pub step_lists-lists-requires : goal.step_lists-lists-requires
step_lists-lists-requires c =
    let pre = c.requires in let given = lists_ask pre.step_of.0 pre.step_of.1 pre.both_filled (pre.ends_are, pre.list_len) in record {
      side_at = given.0;
      chains_at = given.1.0;
      ends_are = given.1.1.0;
      l_growing_len = given.1.1.1;
    }

pub lay_lower-lowers-requires : goal.lay_lower-lowers-requires
lay_lower-lowers-requires c =
    let pre = c.requires in
    let whole = c.step_lists-lists.ensures.lists in
    (_, side_layable pre.step_of.0 whole.at.lower_lies whole.lower_alone pre.both_filled.lowers pre.ends_are.lower_end)

pub returns-in_default : goal.returns-in_default
returns-in_default c =
    let pre = c.requires in
    let whole = c.step_lists-lists.ensures.lists in
    let layable = side_layable pre.step_of.0 whole.at.lower_lies whole.lower_alone pre.both_filled.lowers pre.ends_are.lower_end in
    rw c.in_default.is at (c.lay_lower-lowers.ensures _ layable)

pub lay_upper-uppers-requires : goal.lay_upper-uppers-requires
lay_upper-uppers-requires c =
    let pre = c.requires in
    let whole = c.step_lists-lists.ensures.lists in
    side_layable pre.step_of.0 whole.at.upper_lies whole.upper_alone pre.both_filled.uppers pre.ends_are.upper_end

pub returns-in_default-uppers : goal.returns-in_default-uppers
returns-in_default-uppers c =
    let pre = c.requires in
    let whole = c.step_lists-lists.ensures.lists in
    let layable = side_layable pre.step_of.0 whole.at.lower_lies whole.lower_alone pre.both_filled.lowers pre.ends_are.lower_end in
    let lower = rw c.in-End.is at (c.lay_lower-lowers.ensures _ layable) in
    (lower.1.fits, rw c.in_default-uppers.is at c.lay_upper-uppers.ensures)

pub returns : goal.returns
returns c =
    let pre = c.requires in
    let whole = c.step_lists-lists.ensures.lists in
    let layable = side_layable pre.step_of.0 whole.at.lower_lies whole.lower_alone pre.both_filled.lowers pre.ends_are.lower_end in
    turned_on pre.step_of.0 whole c.step_lists-lists.ensures.chains (rw c.in-End.is at (c.lay_lower-lowers.ensures _ layable))
    (rw c.in-End-uppers.is at c.lay_upper-uppers.ensures)
