-- `slot_of` meets its contract: the list opens to the plan's, and x stands where it was found.
use native.Mathlib.Omega.{arith}
use Rattle.lists.proofs.Small.{part_fits}
use Rattle.run_slots.proofs.Lists.{slot-asks, slot-within, slot-ascends, slot-before, slot-found}
use Rattle.run_swap.proofs.places.slot_of.Goals as goal

pub list_place-list-requires : goal.list_place-list-requires
list_place-list-requires c = slot-asks _ _ _ c.requires c.well_formed.0.1

pub offset_bounds-subs-from : goal.offset_bounds-subs-from
offset_bounds-subs-from c = part_fits (slot-within _ _ _ c.requires _ _ _ _ c.list_place-list.ensures) c.well_formed.0.1

pub slice_bounds-place_by-count : goal.slice_bounds-place_by-count
slice_bounds-place_by-count c = (slot-within _ _ _ c.requires _ _ _ _ c.list_place-list.ensures).0

pub slice_bounds-place_by-start : goal.slice_bounds-place_by-start
slice_bounds-place_by-start c = (slot-within _ _ _ c.requires _ _ _ _ c.list_place-list.ensures).0

pub slice_bounds-place_by-end : goal.slice_bounds-place_by-end
slice_bounds-place_by-end c = (slot-within _ _ _ c.requires _ _ _ _ c.list_place-list.ensures).1

pub place_by-requires : goal.place_by-requires
place_by-requires c = slot-ascends _ _ _ c.requires _ _ _ _ c.list_place-list.ensures

pub overflow_add-at : goal.overflow_add-at
overflow_add-at c =
    let list = c.list_place-list.ensures in
    let f = slot-before _ _ _ c.requires _ _ _ _ list _ c.place_by.ensures in
    record { fits = omega (arith, f, list.next_is, c.type_inv.slots c.args.h) }

pub returns : goal.returns
returns c = λ w. slot-found _ _ _ w _ _ _ _ c.list_place-list.ensures _ c.place_by.ensures
