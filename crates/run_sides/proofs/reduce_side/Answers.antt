-- `reduce_side` meets its contract: copied, laid out, taken off, cleared.
use Rattle.answers.specs.Stores.{side_stores}
use Rattle.lists.proofs.Small.{least, still_inside}
use Rattle.run_slots.proofs.Lists.{Lends}
use Rattle.run_sides.proofs.Sides.{side_place, side_lends, copy-room, copy-asks, spread_asks, heads_ask, clear_at_asks, side-leaves}
use Rattle.run_sides.proofs.reduce_side.Goals as goal
use Rattle.run_sides.proofs.reduce_side.Goals.{After-list_place-place}

side : (c : After-list_place-place)
    → Lends (side_stores c.args.subs.now c.args.starts.now c.args.slots.now) c.args.y.now
    c.list_place-place.result.from.0 c.list_place-place.result.to.0 c.list_place-place.result.slot.0 c.list_place-place.result.next.0
side c =
    side_lends _ _ _ _ _ _ _ c.requires.0 _ _ _ _ c.list_place-place.ensures c.well_formed.1.0.1 c.well_formed.0.1

pub list_place-place-requires : goal.list_place-place-requires
list_place-place-requires c = side_place _ _ _ _ _ _ _ c.requires.0 c.well_formed.1.0.1

pub overflow_sub-count : goal.overflow_sub-count
overflow_sub-count c = (side (goal.at.overflow_sub-count c).After-list_place-place).rises

pub offset_bounds-subs-from : goal.offset_bounds-subs-from
offset_bounds-subs-from c = (side (goal.at.offset_bounds-subs-from c).After-list_place-place).from-fits

pub slice_bounds-own-count : goal.slice_bounds-own-count
slice_bounds-own-count c = (side (goal.at.slice_bounds-own-count c).After-list_place-place).opens

pub slice_bounds-own-start : goal.slice_bounds-own-start
slice_bounds-own-start c = (side (goal.at.slice_bounds-own-start c).After-list_place-place).opens

pub slice_bounds-own-end : goal.slice_bounds-own-end
slice_bounds-own-end c = (side (goal.at.slice_bounds-own-end c).After-list_place-place).closes

pub offset_bounds-y-slot : goal.offset_bounds-y-slot
offset_bounds-y-slot c = (side (goal.at.offset_bounds-y-slot c).After-list_place-place).slot-fits

pub slice_bounds-copy_in-count : goal.slice_bounds-copy_in-count
slice_bounds-copy_in-count c = (side (goal.at.slice_bounds-copy_in-count c).After-list_place-place).rises

pub slice_bounds-copy_in-start : goal.slice_bounds-copy_in-start
slice_bounds-copy_in-start c = (side (goal.at.slice_bounds-copy_in-start c).After-list_place-place).rises

pub slice_bounds-copy_in-end : goal.slice_bounds-copy_in-end
slice_bounds-copy_in-end c = (side (goal.at.slice_bounds-copy_in-end c).After-list_place-place).ends

pub copy_in-requires : goal.copy_in-requires
copy_in-requires c = copy-asks _ _ _ _ _ _ _ c.requires.0 _ _ _ _ c.list_place-place.ensures

pub slice_bounds-spread-count : goal.slice_bounds-spread-count
slice_bounds-spread-count c = least _

pub slice_bounds-spread-start : goal.slice_bounds-spread-start
slice_bounds-spread-start c = least _

pub slice_bounds-spread-end : goal.slice_bounds-spread-end
slice_bounds-spread-end c = still_inside (copy-room _ _ _ _ _ _ _ c.requires.0 _ _ _ _ c.list_place-place.ensures) c.copy_in.auto.to

pub spread-requires : goal.spread-requires
spread-requires c = spread_asks _ _ _ _ _ _ _ c.requires.0 _ _ _ _ c.list_place-place.ensures _ c.copy_in.ensures c.requires.1

pub slice_bounds-reduce_lists-count : goal.slice_bounds-reduce_lists-count
slice_bounds-reduce_lists-count c = least _

pub slice_bounds-reduce_lists-start : goal.slice_bounds-reduce_lists-start
slice_bounds-reduce_lists-start c = least _

pub slice_bounds-reduce_lists-end : goal.slice_bounds-reduce_lists-end
slice_bounds-reduce_lists-end c = still_inside (copy-room _ _ _ _ _ _ _ c.requires.0 _ _ _ _ c.list_place-place.ensures) c.copy_in.auto.to

pub reduce_lists-bad-requires : goal.reduce_lists-bad-requires
reduce_lists-bad-requires c =
    heads_ask _ _ _ _ _ _ _ c.requires.0 _ _ _ _ c.list_place-place.ensures _ c.copy_in.ensures _
    c.spread.auto.dense c.spread.ensures

pub clear_at-requires : goal.clear_at-requires
clear_at-requires c =
    clear_at_asks _ _ _ _ _ _ _ c.requires.0 _ _ _ _ c.list_place-place.ensures _ c.copy_in.ensures _
    c.spread.auto.dense c.spread.ensures

pub returns : goal.returns
returns c = (
  c.clear_at.ensures,
  λ w. side-leaves _ _ _ _ _ _ _ w _ _ _ _ c.list_place-place.ensures _ c.copy_in.ensures _
      c.spread.auto.dense c.spread.ensures _ _ _ c.reduce_lists-bad.ensures,
)
