-- `verify_step` meets its contract: what it hands to each function that it calls, and what all of them leave, are laws of
-- `Progress`. Assumes nothing.
use Rattle.plan_gather.proofs.Progress.{place_fits, row_head_inside}
use Rattle.verify_loop.proofs.Progress.{lower_at, upper_at, verify_lists_ask, verify_on}
use Rattle.plan_lists.proofs.Whole.{lower_whole, upper_whole}
use Rattle.verify_loop.proofs.steps.verify_step.Goals as goal

pub offset_bounds-row_heads-k : goal.offset_bounds-row_heads-k
offset_bounds-row_heads-k c = place_fits c.requires.step_of.0

pub bounds-row_heads-k : goal.bounds-row_heads-k
bounds-row_heads-k c = row_head_inside c.requires.step_of

pub step_lists-lists-requires : goal.step_lists-lists-requires
step_lists-lists-requires c =
    let pre = c.requires in let given = verify_lists_ask pre.step_of.0 pre.both_contain pre.ends_are pre.step_of.1 pre.list_len in record {
      side_at = given.0;
      chains_at = given.1.0;
      ends_are = given.1.1.0;
      l_growing_len = given.1.1.1;
    }

pub find_lower-lowers-requires : goal.find_lower-lowers-requires
find_lower-lowers-requires c =
    let pre = c.requires in
    (_, lower_at pre.step_of.0 pre.both_contain pre.ends_are, lower_whole c.step_lists-lists.ensures.lists)

pub returns-in_default : goal.returns-in_default
returns-in_default c both =
    let pre = c.requires in
    (rw c.in_default.is at (c.find_lower-lowers.ensures _ (lower_at pre.step_of.0 pre.both_contain pre.ends_are)
    (lower_whole c.step_lists-lists.ensures.lists))) both.lowers

pub find_upper-uppers-requires : goal.find_upper-uppers-requires
find_upper-uppers-requires c =
    let pre = c.requires in
    (upper_at pre.step_of.0 pre.both_contain pre.ends_are, upper_whole c.step_lists-lists.ensures.lists)

pub returns-in_default-uppers : goal.returns-in_default-uppers
returns-in_default-uppers c both = (rw c.in_default-uppers.is at c.find_upper-uppers.ensures) both.uppers

pub returns : goal.returns
returns c =
    let pre = c.requires in
    let whole = c.step_lists-lists.ensures.lists in
    let chains = c.step_lists-lists.ensures.chains in
    verify_on pre.step_of.0 whole chains
    (rw c.in-End.is at (c.find_lower-lowers.ensures _ (lower_at pre.step_of.0 pre.both_contain pre.ends_are) (lower_whole whole)))
    (rw c.in-End-uppers.is at c.find_upper-uppers.ensures)
