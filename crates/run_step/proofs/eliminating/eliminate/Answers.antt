-- `eliminate` meets its contract: the column, then U, then L.
use native.Mathlib.Omega.{arith}
use Rattle.answers.specs.Stores.{side_stores}
use Rattle.lists.proofs.Small.{still_inside}
use Rattle.run_slots.proofs.Lists.{Lends}
use Rattle.run_step.proofs.Elimination.{lower_place, upper_place, lower_lends, upper_lends, column_asks, upper_asks, lower_asks, elim_leaves}
use Rattle.run_step.proofs.eliminating.eliminate.Goals as goal
use Rattle.run_step.proofs.eliminating.eliminate.Goals.{After-list_place-column, After-list_place-row}

lower : (c : After-list_place-column)
    → Lends (side_stores c.args.l_subs.now c.args.l_starts.now c.args.l_slots.now) c.args.l.now
    c.list_place-column.result.from.0 c.list_place-column.result.to.0 c.list_place-column.result.slot.0 c.list_place-column.result.next.0
lower c =
    lower_lends _ _ _ _ _ c.requires.0 _ _ _ _ c.list_place-column.ensures c.well_formed.1.0.1 c.well_formed.1.1.1.1.1.1.1.0.1

upper : (c : After-list_place-row)
    → Lends (side_stores c.args.u_subs.now c.args.u_starts.now c.args.u_slots.now) c.args.u.now
    c.list_place-row.result.from.0 c.list_place-row.result.to.0 c.list_place-row.result.slot.0 c.list_place-row.result.next.0
upper c =
    upper_lends _ _ _ _ _ c.requires.0 _ _ _ _ c.list_place-row.ensures c.well_formed.1.1.1.1.0.1 c.well_formed.1.1.1.1.1.1.1.1.0.1

pub list_place-column-requires : goal.list_place-column-requires
list_place-column-requires c = lower_place _ _ _ _ _ c.requires.0 c.well_formed.1.0.1

pub offset_bounds-l_subs-l_from : goal.offset_bounds-l_subs-l_from
offset_bounds-l_subs-l_from c = (lower (goal.at.offset_bounds-l_subs-l_from c).After-list_place-column).from-fits

pub slice_bounds-rows-count : goal.slice_bounds-rows-count
slice_bounds-rows-count c = (lower (goal.at.slice_bounds-rows-count c).After-list_place-column).opens

pub slice_bounds-rows-start : goal.slice_bounds-rows-start
slice_bounds-rows-start c = (lower (goal.at.slice_bounds-rows-start c).After-list_place-column).opens

pub slice_bounds-rows-end : goal.slice_bounds-rows-end
slice_bounds-rows-end c = (lower (goal.at.slice_bounds-rows-end c).After-list_place-column).closes

pub list_place-row-requires : goal.list_place-row-requires
list_place-row-requires c = upper_place _ _ _ _ _ c.requires.0 c.well_formed.1.1.1.1.0.1

pub offset_bounds-u_subs-u_from : goal.offset_bounds-u_subs-u_from
offset_bounds-u_subs-u_from c = (upper (goal.at.offset_bounds-u_subs-u_from c).After-list_place-row).from-fits

pub slice_bounds-columns-count : goal.slice_bounds-columns-count
slice_bounds-columns-count c = (upper (goal.at.slice_bounds-columns-count c).After-list_place-row).opens

pub slice_bounds-columns-start : goal.slice_bounds-columns-start
slice_bounds-columns-start c = (upper (goal.at.slice_bounds-columns-start c).After-list_place-row).opens

pub slice_bounds-columns-end : goal.slice_bounds-columns-end
slice_bounds-columns-end c = (upper (goal.at.slice_bounds-columns-end c).After-list_place-row).closes

pub offset_bounds-l-l_slot : goal.offset_bounds-l-l_slot
offset_bounds-l-l_slot c = (lower (goal.at.offset_bounds-l-l_slot c).After-list_place-column).slot-fits

pub slice_bounds-reduce_column-count : goal.slice_bounds-reduce_column-count
slice_bounds-reduce_column-count c = (lower (goal.at.slice_bounds-reduce_column-count c).After-list_place-column).rises

pub slice_bounds-reduce_column-start : goal.slice_bounds-reduce_column-start
slice_bounds-reduce_column-start c = (lower (goal.at.slice_bounds-reduce_column-start c).After-list_place-column).rises

pub slice_bounds-reduce_column-end : goal.slice_bounds-reduce_column-end
slice_bounds-reduce_column-end c = (lower (goal.at.slice_bounds-reduce_column-end c).After-list_place-column).ends

pub offset_bounds-u-u_slot : goal.offset_bounds-u-u_slot
offset_bounds-u-u_slot c = (upper (goal.at.offset_bounds-u-u_slot c).After-list_place-row).slot-fits

pub slice_bounds-reduce_column-count-2 : goal.slice_bounds-reduce_column-count-2
slice_bounds-reduce_column-count-2 c = (upper (goal.at.slice_bounds-reduce_column-count-2 c).After-list_place-row).rises

pub slice_bounds-reduce_column-start-2 : goal.slice_bounds-reduce_column-start-2
slice_bounds-reduce_column-start-2 c = (upper (goal.at.slice_bounds-reduce_column-start-2 c).After-list_place-row).rises

pub slice_bounds-reduce_column-end-2 : goal.slice_bounds-reduce_column-end-2
slice_bounds-reduce_column-end-2 c = (upper (goal.at.slice_bounds-reduce_column-end-2 c).After-list_place-row).ends

pub reduce_column-made-requires : goal.reduce_column-made-requires
reduce_column-made-requires c = column_asks _ _ _ _ _ c.requires.0 _ _ _ _ c.list_place-column.ensures _ _ _ _ c.list_place-row.ensures

pub offset_bounds-l-l_slot-2 : goal.offset_bounds-l-l_slot-2
offset_bounds-l-l_slot-2 c =
    (lower (goal.at.offset_bounds-l-l_slot-2 c).After-list_place-column).slot-fits

pub slice_bounds-reduce_side-count : goal.slice_bounds-reduce_side-count
slice_bounds-reduce_side-count c =
    (lower (goal.at.slice_bounds-reduce_side-count c).After-list_place-column).rises

pub slice_bounds-reduce_side-start : goal.slice_bounds-reduce_side-start
slice_bounds-reduce_side-start c =
    (lower (goal.at.slice_bounds-reduce_side-start c).After-list_place-column).rises

pub slice_bounds-reduce_side-end : goal.slice_bounds-reduce_side-end
slice_bounds-reduce_side-end c =
    still_inside (lower (goal.at.slice_bounds-reduce_side-end c).After-list_place-column).ends (omega arith)

pub reduce_side-upper-requires : goal.reduce_side-upper-requires
reduce_side-upper-requires c = (
  upper_asks _ _ _ _ _ c.requires.0 _ _ _ _ c.list_place-column.ensures _ _ _ _ c.list_place-row.ensures _ _ _ _ _
      c.reduce_column-made.ensures,
  c.requires.1,
)

pub offset_bounds-u-u_slot-2 : goal.offset_bounds-u-u_slot-2
offset_bounds-u-u_slot-2 c =
    (upper (goal.at.offset_bounds-u-u_slot-2 c).After-list_place-row).slot-fits

pub slice_bounds-reduce_side-count-2 : goal.slice_bounds-reduce_side-count-2
slice_bounds-reduce_side-count-2 c =
    (upper (goal.at.slice_bounds-reduce_side-count-2 c).After-list_place-row).rises

pub slice_bounds-reduce_side-start-2 : goal.slice_bounds-reduce_side-start-2
slice_bounds-reduce_side-start-2 c =
    (upper (goal.at.slice_bounds-reduce_side-start-2 c).After-list_place-row).rises

pub slice_bounds-reduce_side-end-2 : goal.slice_bounds-reduce_side-end-2
slice_bounds-reduce_side-end-2 c =
    still_inside (upper (goal.at.slice_bounds-reduce_side-end-2 c).After-list_place-row).ends c.reduce_side-upper.auto.y

pub reduce_side-bad-requires : goal.reduce_side-bad-requires
reduce_side-bad-requires c = (
  lower_asks _ _ _ _ _ c.requires.0 _ _ _ _ c.list_place-column.ensures _ _ _ _ c.list_place-row.ensures _ _ _ _ _
      c.reduce_column-made.ensures _ _ c.reduce_side-upper.ensures.1 _ _ c.reduce_side-upper.auto.copy
      c.reduce_side-upper.auto.dense,
  c.reduce_side-upper.ensures.0,
)

pub returns : goal.returns
returns c = (
  c.reduce_side-bad.ensures.0,
  λ w. elim_leaves _ _ _ _ _ w _ _ _ _ c.list_place-column.ensures _ _ _ _ c.list_place-row.ensures _ _ _ _ _
      c.reduce_column-made.ensures _ _ c.reduce_side-upper.ensures.1 _ _ c.reduce_side-upper.auto.copy
      c.reduce_side-upper.auto.dense _ _ c.reduce_side-bad.ensures.1,
)
