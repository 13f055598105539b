-- `lay_lower` meets its contract: the list is laid from where it lies, by a call for each of these places.
use Prim.Native.Nat.{zero-le}
use native.Mathlib.Nat.{le_refl}
use Rattle.lists.proofs.Small.{still_inside}
use Rattle.plan_lay.proofs.Laid.{sole-read, sole-laid, behind_writable, behind-laid, own_added, own-stands, own_new, grown, grown-new}
use Rattle.plan_lay.proofs.laying.lay_lower.Goals as goal

pub write_rest-requires : goal.write_rest-requires
write_rest-requires c =
    let h = c.requires.1 in
    let told = c.in-Behind.is in
    behind_writable h told (own_added h told c.if-from-eq0.true)

pub write_rest-requires-in-Behind : goal.write_rest-requires-in-Behind
write_rest-requires-in-Behind c =
    let h = c.requires.1 in
    let told = c.in-Behind.is in
    behind_writable h told (own-stands h told c.if-from-eq0.false)

pub follow_sole-requires : goal.follow_sole-requires
follow_sole-requires c = sole-read c.requires.1 c.in-Sole.is

pub place-requires : goal.place-requires
place-requires c = (
  _,
  _,
  own_new c.requires.1 c.in-Row.is c.after_first.ensures,
)

pub place-requires-in-Grown : goal.place-requires-in-Grown
place-requires-in-Grown c = (_, _, grown-new c.requires.1 c.in-Grown.is)

pub slice_bounds-write_rest-count : goal.slice_bounds-write_rest-count
slice_bounds-write_rest-count c = le_refl 1

pub slice_bounds-write_rest-start : goal.slice_bounds-write_rest-start
slice_bounds-write_rest-start c = le_refl 1

pub slice_bounds-write_rest-end-in-Behind : goal.slice_bounds-write_rest-end-in-Behind
slice_bounds-write_rest-end-in-Behind c = le_refl 1

pub slice_bounds-place-count : goal.slice_bounds-place-count
slice_bounds-place-count c = zero-le

pub slice_bounds-place-start : goal.slice_bounds-place-start
slice_bounds-place-start c = zero-le

pub slice_bounds-place-end : goal.slice_bounds-place-end
slice_bounds-place-end c =
    let h = grown c.requires.1 c.in-Grown.is in
    still_inside h.fits h.store_size

pub returns-then-from-eq0 : goal.returns-then-from-eq0
returns-then-from-eq0 c p h =
    let wrote = c.write_rest in
    let told = c.in-Behind.is in
    behind-laid h told (own_added h told c.if-from-eq0.true) wrote.result wrote.new.subs wrote.new.starts
    wrote.new.slots wrote.auto.subs wrote.ensures

pub returns-in-Sole : goal.returns-in-Sole
returns-in-Sole c p h = sole-laid h c.in-Sole.is c.follow_sole.ensures

pub returns-else-from-eq0 : goal.returns-else-from-eq0
returns-else-from-eq0 c p h =
    let wrote = c.write_rest-in-Behind in
    let told = c.in-Behind.is in
    behind-laid h told (own-stands h told c.if-from-eq0.false) wrote.result wrote.new.subs wrote.new.starts
    wrote.new.slots wrote.auto.subs wrote.ensures

pub returns-in-Row : goal.returns-in-Row
returns-in-Row c p h = c.place.ensures _ _ (own_new h c.in-Row.is c.after_first.ensures) h.filled

pub returns-in-Grown : goal.returns-in-Grown
returns-in-Grown c p h = c.place-in-Grown.ensures _ _ (grown-new h c.in-Grown.is) h.filled
