-- `lay_upper` meets its contract: the list is laid from where it lies, by a call for each of these places.
use Prim.Native.Nat.{zero-le}
use native.Mathlib.Nat.{le_trans}
use Rattle.lists.proofs.Small.{still_inside, before-fits, before_below, end_fits, index-fits, part_fits}
use Rattle.plan_lay.proofs.Laid.{sole-read, sole-laid, behind_writable, behind-laid, columns-behind, columns_all, columns-new, grown, grown-new}
use Rattle.plan_lay.proofs.laying.lay_upper.Goals as goal

pub write_rest-requires : goal.write_rest-requires
write_rest-requires c =
    let h = c.requires in
    let told = c.in-Behind.is in
    behind_writable h told (columns-behind _ _ _ h told).is

pub follow_sole-requires : goal.follow_sole-requires
follow_sole-requires c = sole-read c.requires c.in-Sole.is

pub overflow_sub-first : goal.overflow_sub-first
overflow_sub-first c = (columns-behind _ _ _ c.requires c.in-Behind.is).low

pub offset_bounds-starts-row : goal.offset_bounds-starts-row
offset_bounds-starts-row c = before-fits (columns-behind _ _ _ c.requires c.in-Behind.is).in_starts c.well_formed.1.1.1.1.0.1

pub bounds-starts-row : goal.bounds-starts-row
bounds-starts-row c = before_below (columns-behind _ _ _ c.requires c.in-Behind.is).in_starts

pub overflow_add-first : goal.overflow_add-first
overflow_add-first c =
    let read = columns-behind _ _ _ c.requires c.in-Behind.is in
    end_fits (le_trans read.rising read.inside) c.well_formed.1.1.1.1.1.0.1

pub offset_bounds-starts-row-in-Behind : goal.offset_bounds-starts-row-in-Behind
offset_bounds-starts-row-in-Behind c = index-fits (columns-behind _ _ _ c.requires c.in-Behind.is).in_starts c.well_formed.1.1.1.1.0.1

pub bounds-starts-row-in-Behind : goal.bounds-starts-row-in-Behind
bounds-starts-row-in-Behind c = (columns-behind _ _ _ c.requires c.in-Behind.is).in_starts

pub offset_bounds-columns-first : goal.offset_bounds-columns-first
offset_bounds-columns-first c =
    let read = columns-behind _ _ _ c.requires c.in-Behind.is in
    part_fits (read.rising, read.inside) c.well_formed.1.1.1.1.1.0.1

pub slice_bounds-write_rest-count : goal.slice_bounds-write_rest-count
slice_bounds-write_rest-count c = (columns-behind _ _ _ c.requires c.in-Behind.is).rising

pub slice_bounds-write_rest-start : goal.slice_bounds-write_rest-start
slice_bounds-write_rest-start c = (columns-behind _ _ _ c.requires c.in-Behind.is).rising

pub slice_bounds-write_rest-end : goal.slice_bounds-write_rest-end
slice_bounds-write_rest-end c = (columns-behind _ _ _ c.requires c.in-Behind.is).inside

pub overflow_sub-first-in-Row : goal.overflow_sub-first-in-Row
overflow_sub-first-in-Row c = (columns_all _ _ _ c.requires c.in-Row.is).low

pub offset_bounds-starts-row-in-Row : goal.offset_bounds-starts-row-in-Row
offset_bounds-starts-row-in-Row c = before-fits (columns_all _ _ _ c.requires c.in-Row.is).in_starts c.well_formed.1.1.1.1.0.1

pub bounds-starts-row-in-Row : goal.bounds-starts-row-in-Row
bounds-starts-row-in-Row c = before_below (columns_all _ _ _ c.requires c.in-Row.is).in_starts

pub offset_bounds-starts-row-in-Row-2 : goal.offset_bounds-starts-row-in-Row-2
offset_bounds-starts-row-in-Row-2 c = index-fits (columns_all _ _ _ c.requires c.in-Row.is).in_starts c.well_formed.1.1.1.1.0.1

pub bounds-starts-row-in-Row-2 : goal.bounds-starts-row-in-Row-2
bounds-starts-row-in-Row-2 c = (columns_all _ _ _ c.requires c.in-Row.is).in_starts

pub offset_bounds-columns-first-in-Row : goal.offset_bounds-columns-first-in-Row
offset_bounds-columns-first-in-Row c =
    let read = columns_all _ _ _ c.requires c.in-Row.is in
    part_fits (read.rising, read.inside) c.well_formed.1.1.1.1.1.0.1

pub slice_bounds-after_first-count : goal.slice_bounds-after_first-count
slice_bounds-after_first-count c = (columns_all _ _ _ c.requires c.in-Row.is).rising

pub slice_bounds-after_first-start : goal.slice_bounds-after_first-start
slice_bounds-after_first-start c = (columns_all _ _ _ c.requires c.in-Row.is).rising

pub slice_bounds-after_first-end : goal.slice_bounds-after_first-end
slice_bounds-after_first-end c = (columns_all _ _ _ c.requires c.in-Row.is).inside

pub place-requires : goal.place-requires
place-requires c = (_, _, columns-new _ _ _ c.requires c.in-Row.is c.after_first.ensures)

pub slice_bounds-place-count : goal.slice_bounds-place-count
slice_bounds-place-count c = zero-le

pub slice_bounds-place-start : goal.slice_bounds-place-start
slice_bounds-place-start c = zero-le

pub slice_bounds-place-end : goal.slice_bounds-place-end
slice_bounds-place-end c =
    let h = grown c.requires c.in-Grown.is in
    still_inside h.fits h.store_size

pub place-requires-in-Grown : goal.place-requires-in-Grown
place-requires-in-Grown c = (_, _, grown-new c.requires c.in-Grown.is)

pub returns-in-Sole : goal.returns-in-Sole
returns-in-Sole c = sole-laid c.requires c.in-Sole.is c.follow_sole.ensures

pub returns-in-Behind : goal.returns-in-Behind
returns-in-Behind c =
    let h = c.requires in
    let told = c.in-Behind.is in
    let wrote = c.write_rest in
    behind-laid h told (columns-behind _ _ _ h told).is wrote.result wrote.new.subs wrote.new.starts
    wrote.new.slots wrote.auto.subs wrote.ensures

pub returns-in-Row : goal.returns-in-Row
returns-in-Row c =
    let h = c.requires in
    c.place.ensures _ _ (columns-new _ _ _ h c.in-Row.is c.after_first.ensures) h.filled

pub returns-in-Grown : goal.returns-in-Grown
returns-in-Grown c =
    let h = c.requires in
    c.place-in-Grown.ensures _ _ (grown-new h c.in-Grown.is) h.filled
