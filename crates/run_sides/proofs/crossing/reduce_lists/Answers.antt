-- `reduce_lists` meets its contract: the loop's invariant is `Partly`, the new square on the lists done.
use mathlib.Core.Path.{refl, sym}
use native.Mathlib.Nat.{le_refl, le_of_eq}
use native.Mathlib.Omega.{arith}
use lib.Ieee.{of_bits}
use Rattle.run_slots.proofs.Lists.{Lends}
use Rattle.lists.proofs.Small.{least, less, next_le, short_of, still_inside, still_below, room_same, end_fits, place_fits, index-fits, next_fits}
use Rattle.answers.specs.Stores.{side_stores}
use Rattle.run_sides.proofs.Heads.{under_start, under_next, under_at, partly_start, partly_zero, partly_none, partly_turn, partly_end}
use Rattle.run_sides.proofs.Heads.{asked, head_place, head_lends, cell_fits, values_length}
use Rattle.foundation.specs.Numbers.{is_zero, plus_zero}
use Rattle.run_sides.proofs.crossing.reduce_lists.Goals as goal
use Rattle.run_sides.proofs.crossing.reduce_lists.Goals.{After-list_place-place}

head : (c : After-list_place-place)
    → Lends (side_stores c.args.subs.now c.args.starts.now c.args.slots.now)
    c.loop-t.y
    c.list_place-place.result.from.0 c.list_place-place.result.to.0 c.list_place-place.result.slot.0 c.list_place-place.result.next.0
head c =
    let q = c.first_above-s.ensures in
    head_lends _ _ _ _ _ _ _ _ c.requires _ _ _ _ (c.loop-t.invariant.4 c.requires) c.loop-t-test.true _ (short_of q.0 c.if-s-over.false)
    q.1 q.2 _ _ _ _ c.list_place-place.ensures c.well_formed.1.0.1 (room_same c.loop-t.invariant.2 c.well_formed.0.1)

pub loop-t-init : goal.loop-t-init
loop-t-init c = (least _, least _, refl, under_start _ _, λ w. partly_start _ _ _ _ _ _ _ _ w _)

pub offset_bounds-heads-t : goal.offset_bounds-heads-t
offset_bounds-heads-t c = index-fits c.loop-t-test.true c.well_formed.1.1.1.1.0.1

pub bounds-heads-t : goal.bounds-heads-t
bounds-heads-t c = c.loop-t-test.true

pub offset_bounds-factors-t : goal.offset_bounds-factors-t
offset_bounds-factors-t c = index-fits c.loop-t-test.true c.well_formed.1.1.1.1.0.1

pub bounds-factors-t : goal.bounds-factors-t
bounds-factors-t c = still_below c.loop-t-test.true c.requires.reduction.factored

pub first_above-s-requires : goal.first_above-s-requires
first_above-s-requires c =
    let loop = c.loop-t in
    (loop.invariant.1, under_at _ _ _ _ loop.invariant.3 c.loop-t-test.true)

pub overflow_add-t : goal.overflow_add-t
overflow_add-t c = next_fits c.loop-t-test.true c.well_formed.1.1.1.1.0.1

pub loop-t-smaller-then-m : goal.loop-t-smaller-then-m
loop-t-smaller-then-m c = less _ _ c.loop-t-test.true

pub loop-t-preserved-then-m : goal.loop-t-preserved-then-m
unfolding of_bits is_zero plus_zero
loop-t-preserved-then-m c =
    let l = c.loop-t-test.true in
    let q = c.first_above-s.ensures in (
      next_le _ _ l,
      q.0,
      c.loop-t.invariant.2,
      under_next 0 _ _ _ _ c.requires.reduction.once l q.1,
      λ w. partly_zero _ _ _ _ _ _ _ _ w _ _ _ _ (c.loop-t.invariant.4 w) l c.if-m.true,
    )

pub loop-t-smaller-then-s-over : goal.loop-t-smaller-then-s-over
loop-t-smaller-then-s-over c = less _ _ c.loop-t-test.true

pub loop-t-preserved-then-s-over : goal.loop-t-preserved-then-s-over
loop-t-preserved-then-s-over c =
    let l = c.loop-t-test.true in
    let q = c.first_above-s.ensures in (
      next_le _ _ l,
      q.0,
      c.loop-t.invariant.2,
      under_next 0 _ _ _ _ c.requires.reduction.once l q.1,
      λ w. partly_none _ _ _ _ _ _ _ _ w _ _ _ _ (c.loop-t.invariant.4 w) l _ q.1 (le_of_eq (sym c.if-s-over.true)),
    )

pub list_place-place-requires : goal.list_place-place-requires
list_place-place-requires c =
    let q = c.first_above-s.ensures in
    head_place _ _ _ _ _ _ _ _ c.requires _ _ _ _ (c.loop-t.invariant.4 c.requires) c.loop-t-test.true _ (short_of q.0 c.if-s-over.false)
    q.1 q.2 c.well_formed.1.0.1

pub overflow_add-cell : goal.overflow_add-cell
overflow_add-cell c =
    end_fits (cell_fits _ _ _ _ _ _ _ _ c.requires _ _ _ _ (c.loop-t.invariant.4 c.requires) c.loop-t-test.true _
    c.first_above-s.ensures.0) c.well_formed.1.0.1

pub offset_bounds-y-slot : goal.offset_bounds-y-slot
offset_bounds-y-slot c = (head (goal.at.offset_bounds-y-slot c).After-list_place-place).slot-fits

pub slice_bounds-reduce_list-count : goal.slice_bounds-reduce_list-count
slice_bounds-reduce_list-count c = (head (goal.at.slice_bounds-reduce_list-count c).After-list_place-place).rises

pub slice_bounds-reduce_list-start : goal.slice_bounds-reduce_list-start
slice_bounds-reduce_list-start c = (head (goal.at.slice_bounds-reduce_list-start c).After-list_place-place).rises

pub slice_bounds-reduce_list-end : goal.slice_bounds-reduce_list-end
slice_bounds-reduce_list-end c = (head (goal.at.slice_bounds-reduce_list-end c).After-list_place-place).ends

pub offset_bounds-subs-from : goal.offset_bounds-subs-from
offset_bounds-subs-from c = (head (goal.at.offset_bounds-subs-from c).After-list_place-place).from-fits

pub slice_bounds-reduce_list-count-in-loop-t : goal.slice_bounds-reduce_list-count-in-loop-t
slice_bounds-reduce_list-count-in-loop-t c = (head (goal.at.slice_bounds-reduce_list-count-in-loop-t c).After-list_place-place).opens

pub slice_bounds-reduce_list-start-in-loop-t : goal.slice_bounds-reduce_list-start-in-loop-t
slice_bounds-reduce_list-start-in-loop-t c = (head (goal.at.slice_bounds-reduce_list-start-in-loop-t c).After-list_place-place).opens

pub slice_bounds-reduce_list-end-in-loop-t : goal.slice_bounds-reduce_list-end-in-loop-t
slice_bounds-reduce_list-end-in-loop-t c = (head (goal.at.slice_bounds-reduce_list-end-in-loop-t c).After-list_place-place).closes

pub offset_bounds-over-s : goal.offset_bounds-over-s
offset_bounds-over-s c = place_fits c.first_above-s.ensures.0 c.well_formed.1.1.1.1.1.1.0.1

pub slice_bounds-reduce_list-count-in-loop-t-2 : goal.slice_bounds-reduce_list-count-in-loop-t-2
slice_bounds-reduce_list-count-in-loop-t-2 c = c.first_above-s.ensures.0

pub slice_bounds-reduce_list-start-in-loop-t-2 : goal.slice_bounds-reduce_list-start-in-loop-t-2
slice_bounds-reduce_list-start-in-loop-t-2 c = c.first_above-s.ensures.0

pub slice_bounds-reduce_list-end-in-loop-t-2 : goal.slice_bounds-reduce_list-end-in-loop-t-2
slice_bounds-reduce_list-end-in-loop-t-2 c = le_refl _

pub offset_bounds-values-s : goal.offset_bounds-values-s
offset_bounds-values-s c = place_fits c.first_above-s.ensures.0 c.well_formed.1.1.1.1.1.1.0.1

pub slice_bounds-reduce_list-count-in-loop-t-3 : goal.slice_bounds-reduce_list-count-in-loop-t-3
slice_bounds-reduce_list-count-in-loop-t-3 c = c.first_above-s.ensures.0

pub slice_bounds-reduce_list-start-in-loop-t-3 : goal.slice_bounds-reduce_list-start-in-loop-t-3
slice_bounds-reduce_list-start-in-loop-t-3 c = c.first_above-s.ensures.0

pub slice_bounds-reduce_list-end-in-loop-t-3 : goal.slice_bounds-reduce_list-end-in-loop-t-3
slice_bounds-reduce_list-end-in-loop-t-3 c = still_inside (le_refl _) (values_length _ _ _ _ _ _ _ _ c.requires)

pub reduce_list-bad-requires : goal.reduce_list-bad-requires
unfolding of_bits is_zero plus_zero
reduce_list-bad-requires c =
    let q = c.first_above-s.ensures in
    asked _ _ _ _ _ _ _ _ c.requires _ _ _ _ (c.loop-t.invariant.4 c.requires) c.loop-t-test.true _
    (short_of q.0 c.if-s-over.false) q.1 q.2 _ _ _ _ c.list_place-place.ensures _ c.if-m.false

pub loop-t-smaller : goal.loop-t-smaller
loop-t-smaller c = less _ _ c.loop-t-test.true

pub loop-t-preserved : goal.loop-t-preserved
loop-t-preserved c =
    let l = c.loop-t-test.true in
    let q = c.first_above-s.ensures in (
      next_le _ _ l,
      q.0,
      omega arith,
      under_next 0 _ _ _ _ c.requires.reduction.once l q.1,
      λ w. partly_turn _ _ _ _ _ _ _ _ w _ _ _ _ (c.loop-t.invariant.4 w) l _ (short_of q.0 c.if-s-over.false) q.1 q.2 _ _ _ _
          c.list_place-place.ensures _ _ c.reduce_list-bad.ensures,
    )

pub returns : goal.returns
returns c = λ w. partly_end _ _ _ _ _ _ _ _ w _ _ _ _ (c.loop-t.invariant.4 w) c.loop-t-test.false
