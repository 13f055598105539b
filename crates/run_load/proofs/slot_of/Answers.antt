-- `run_load::slot_of` meets its contract: the place found by halves is the subscript's.
use native.Mathlib.Omega.{arith}
use Rattle.lists.proofs.Small.{part_fits}
use Rattle.run_slots.proofs.Lists.{slot-asks, slot-within, slot-ascends, slot-before, slot-found}
use Rattle.run_load.proofs.slot_of.Goals as goal

pub list_place-list-requires : goal.list_place-list-requires
list_place-list-requires c = slot-asks _ _ _ c.requires c.well_formed.0.1

pub offset_bounds-subs-from : goal.offset_bounds-subs-from
offset_bounds-subs-from c = part_fits (slot-within _ _ _ c.requires _ _ _ _ c.list_place-list.ensures) c.well_formed.0.1

pub slice_bounds-place_of-count : goal.slice_bounds-place_of-count
slice_bounds-place_of-count c = (slot-within _ _ _ c.requires _ _ _ _ c.list_place-list.ensures).0

pub slice_bounds-place_of-start : goal.slice_bounds-place_of-start
slice_bounds-place_of-start c = (slot-within _ _ _ c.requires _ _ _ _ c.list_place-list.ensures).0

pub slice_bounds-place_of-end : goal.slice_bounds-place_of-end
slice_bounds-place_of-end c = (slot-within _ _ _ c.requires _ _ _ _ c.list_place-list.ensures).1

pub overflow_add-at : goal.overflow_add-at
overflow_add-at c =
    let list = c.list_place-list.ensures in
    let up = slot-ascends _ _ _ c.requires _ _ _ _ list in
    let f = slot-before _ _ _ c.requires _ _ _ _ list _ (c.place_of.ensures.1 up) in
    record { fits = omega (arith, f, list.next_is, c.type_inv.slots c.args.k) }

pub returns : goal.returns
returns c =
    λ w.
    let list = c.list_place-list.ensures in
    slot-found _ _ _ w _ _ _ _ list _ (c.place_of.ensures.1 (slot-ascends _ _ _ w _ _ _ _ list))
