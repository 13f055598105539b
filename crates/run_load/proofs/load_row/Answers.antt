-- `run_load::load_row` meets its contract: the columns before q are done.
use mathlib.Core.Path.{refl}
use lib.ListN.{length-set}
use Rattle.lists.proofs.Small.{least, less, next_le, still_below, room_same, index-fits, next_fits}
use Rattle.run_load.proofs.Lines.{row_lower_asks, row_upper_asks, row_lower_inside, row_upper_inside, row_diagonal-inside, row_lower, row_upper}
use Rattle.run_load.proofs.Lines.{row_diagonal, row_end}
use Rattle.run_load.proofs.load_row.Goals as goal

pub loop-q-init : goal.loop-q-init
loop-q-init c = (
  least _,
  (refl, refl, refl),
  (c.well_formed.1.1.1.1.1.1.1.1.1.0.1, c.well_formed.1.1.1.1.1.1.1.1.1.1.0.1, c.well_formed.1.1.1.1.1.1.1.1.1.1.1.0.1),
  λ w. w.loaded,
)

pub offset_bounds-columns-q : goal.offset_bounds-columns-q
offset_bounds-columns-q c = index-fits c.loop-q-test.true c.well_formed.1.0.1

pub bounds-columns-q : goal.bounds-columns-q
bounds-columns-q c = c.loop-q-test.true

pub offset_bounds-values-q : goal.offset_bounds-values-q
offset_bounds-values-q c = index-fits c.loop-q-test.true c.well_formed.1.0.1

pub bounds-values-q : goal.bounds-values-q
bounds-values-q c = still_below c.loop-q-test.true c.requires.as_many

pub overflow_add-q : goal.overflow_add-q
overflow_add-q c = next_fits c.loop-q-test.true c.well_formed.1.0.1

pub slot_of-slot-requires : goal.slot_of-slot-requires
slot_of-slot-requires c =
    let p = c.requires in
    row_lower_asks _ _ _ _ _ _ _ p _ c.loop-q-test.true c.if-j-i.true

pub offset_bounds-l-to : goal.offset_bounds-l-to
offset_bounds-l-to c =
    let p = c.requires in
    let f = row_lower_inside _ _ _ _ _ _ _ p _ c.loop-q-test.true _ _ _ (c.loop-q.invariant.3 p) _ c.if-j-i.true c.slot_of-slot.ensures in
    index-fits f (room_same c.loop-q.invariant.1.0 c.loop-q.invariant.2.0)

pub bounds-l-to : goal.bounds-l-to
bounds-l-to c =
    let p = c.requires in
    row_lower_inside _ _ _ _ _ _ _ p _ c.loop-q-test.true _ _ _ (c.loop-q.invariant.3 p) _ c.if-j-i.true c.slot_of-slot.ensures

pub loop-q-smaller-then-j-i : goal.loop-q-smaller-then-j-i
loop-q-smaller-then-j-i c = less _ _ c.loop-q-test.true

pub loop-q-preserved-then-j-i : goal.loop-q-preserved-then-j-i
loop-q-preserved-then-j-i c = (
  next_le _ _ c.loop-q-test.true,
  (simp length-set c.loop-q.invariant.1.0, c.loop-q.invariant.1.1, c.loop-q.invariant.1.2),
  c.loop-q.invariant.2,
  λ w.
      row_lower _ _ _ _ _ _ _ w _ c.loop-q-test.true _ _ _ (c.loop-q.invariant.3 w) _ c.if-j-i.true c.slot_of-slot.ensures,
)

pub slot_of-slot-requires-then-i-j : goal.slot_of-slot-requires-then-i-j
slot_of-slot-requires-then-i-j c =
    let p = c.requires in
    row_upper_asks _ _ _ _ _ _ _ p _ c.loop-q-test.true c.if-i-j.true

pub offset_bounds-u-to : goal.offset_bounds-u-to
offset_bounds-u-to c =
    let p = c.requires in
    let f = row_upper_inside _ _ _ _ _ _ _ p _ c.loop-q-test.true _ _ _ (c.loop-q.invariant.3 p) _ c.if-i-j.true c.slot_of-slot-then-i-j.ensures in
    index-fits f (room_same c.loop-q.invariant.1.1 c.loop-q.invariant.2.1)

pub bounds-u-to : goal.bounds-u-to
bounds-u-to c =
    let p = c.requires in
    row_upper_inside _ _ _ _ _ _ _ p _ c.loop-q-test.true _ _ _ (c.loop-q.invariant.3 p) _ c.if-i-j.true c.slot_of-slot-then-i-j.ensures

pub loop-q-smaller-then-i-j : goal.loop-q-smaller-then-i-j
loop-q-smaller-then-i-j c = less _ _ c.loop-q-test.true

pub loop-q-preserved-then-i-j : goal.loop-q-preserved-then-i-j
loop-q-preserved-then-i-j c = (
  next_le _ _ c.loop-q-test.true,
  (c.loop-q.invariant.1.0, simp length-set c.loop-q.invariant.1.1, c.loop-q.invariant.1.2),
  c.loop-q.invariant.2,
  λ w.
      row_upper _ _ _ _ _ _ _ w _ c.loop-q-test.true _ _ _ (c.loop-q.invariant.3 w) _ c.if-i-j.true c.slot_of-slot-then-i-j.ensures,
)

pub overflow_sub-d : goal.overflow_sub-d
overflow_sub-d c = c.requires.low

pub offset_bounds-d-i : goal.offset_bounds-d-i
offset_bounds-d-i c =
    let p = c.requires in
    let f = row_diagonal-inside _ _ _ _ _ _ _ p c.loop-q.q c.loop-q-test.true _ _ _ (c.loop-q.invariant.3 p) c.if-j-i.false in
    index-fits f (room_same c.loop-q.invariant.1.2 c.loop-q.invariant.2.2)

pub bounds-d-i : goal.bounds-d-i
bounds-d-i c =
    let p = c.requires in
    row_diagonal-inside _ _ _ _ _ _ _ p c.loop-q.q c.loop-q-test.true _ _ _ (c.loop-q.invariant.3 p) c.if-j-i.false

pub loop-q-smaller : goal.loop-q-smaller
loop-q-smaller c = less _ _ c.loop-q-test.true

pub loop-q-preserved : goal.loop-q-preserved
loop-q-preserved c = (
  next_le _ _ c.loop-q-test.true,
  (c.loop-q.invariant.1.0, c.loop-q.invariant.1.1, simp length-set c.loop-q.invariant.1.2),
  c.loop-q.invariant.2,
  λ w.
      row_diagonal _ _ _ _ _ _ _ w _ c.loop-q-test.true _ _ _ (c.loop-q.invariant.3 w) c.if-j-i.false c.if-i-j.false,
)

pub returns : goal.returns
returns c = λ w. row_end _ _ _ _ _ _ _ w c.loop-q.q _ _ _ c.loop-q-test.false (c.loop-q.invariant.3 w)
