-- `swap_before` meets its contract: the loop's invariant is that the columns before place t lie before p and are exchanged.
use Prim.Native.Nat.{◌<◌, ◌+◌, ◌*◌, ◌^◌}
use mathlib.Core.Path.{refl}
use lib.ListN.{length, length-set}
use Rattle.store_search.proofs.Places.{halving_start}
use Rattle.lists.proofs.Small.{least, less, next_le, room_same, below_fits, index-fits, next_fits}
use Rattle.run_swap.proofs.Walks.{passed_more, found_there, found-behind, before-asks, before-own, before_other, before-turn, before-done}
use Rattle.run_swap.proofs.swapping.swap_before.Goals as goal
use Rattle.run_swap.proofs.swapping.swap_before.Goals.{At-loop-t, Else-p-j, After-slot_of-slot}

-- the slots of the two rows in the column at hand
l-room : (c : At-loop-t) → length c.loop-t.l * 8 < 2 ^ 63
l-room c = room_same c.loop-t.invariant.2 c.well_formed.1.1.1.1.1.1.1.0.1

u-room : (c : At-loop-t) → length c.loop-t.u * 8 < 2 ^ 63
u-room c = room_same c.loop-t.invariant.3 c.well_formed.1.1.1.1.1.1.1.1.0.1

mine : (c : Else-p-j) → c.args.first.0 + c.loop-t.t <
    length c.loop-t.u
mine c =
    before-own _ _ _ _ _ _ c.requires _ _ _
    (c.loop-t.invariant.4 c.requires) c.loop-t-test.true c.if-p-j.false

other : (c : After-slot_of-slot) → c.slot_of-slot.result.0 < length c.loop-t.l
other c =
    before_other _ _ _ _ _ _ c.requires _ _ _
    (c.loop-t.invariant.4 c.requires) c.loop-t-test.true c.if-p-j.false _
    c.slot_of-slot.ensures

pub loop-t-init : goal.loop-t-init
loop-t-init c = (least _, halving_start _ _, refl, refl, λ w. w.swapped)

pub offset_bounds-us-t : goal.offset_bounds-us-t
offset_bounds-us-t c = index-fits c.loop-t-test.true c.well_formed.0.1

pub bounds-us-t : goal.bounds-us-t
bounds-us-t c = c.loop-t-test.true

pub returns-then-p-j : goal.returns-then-p-j
returns-then-p-j c =
    let loop = c.loop-t in
    λ w. before-done _ _ _ _ _ _ w _ _ _ (loop.invariant.4 w)
    (found_there _ _ _ _ _ _ w _ loop.invariant.1 c.loop-t-test.true c.if-p-j.true)

pub slot_of-slot-requires : goal.slot_of-slot-requires
slot_of-slot-requires c =
    before-asks _ _ _ _ _ _ c.requires _ _ _
    (c.loop-t.invariant.4 c.requires) c.loop-t-test.true c.if-p-j.false

pub overflow_add-i : goal.overflow_add-i
overflow_add-i c = below_fits (mine (goal.at.overflow_add-i c).Else-p-j) (u-room (goal.at.overflow_add-i c).At-loop-t)

pub offset_bounds-u-i : goal.offset_bounds-u-i
offset_bounds-u-i c = index-fits (mine (goal.at.offset_bounds-u-i c).Else-p-j) (u-room (goal.at.offset_bounds-u-i c).At-loop-t)

pub bounds-u-i : goal.bounds-u-i
bounds-u-i c = mine (goal.at.bounds-u-i c).Else-p-j

pub offset_bounds-l-q : goal.offset_bounds-l-q
offset_bounds-l-q c = index-fits (other (goal.at.offset_bounds-l-q c).After-slot_of-slot) (l-room (goal.at.offset_bounds-l-q c).At-loop-t)

pub bounds-l-q : goal.bounds-l-q
bounds-l-q c = other (goal.at.bounds-l-q c).After-slot_of-slot

pub offset_bounds-u-i-in-loop-t : goal.offset_bounds-u-i-in-loop-t
offset_bounds-u-i-in-loop-t c =
    index-fits (mine (goal.at.offset_bounds-u-i-in-loop-t c).Else-p-j) (u-room (goal.at.offset_bounds-u-i-in-loop-t c).At-loop-t)

pub bounds-u-i-in-loop-t : goal.bounds-u-i-in-loop-t
bounds-u-i-in-loop-t c = mine (goal.at.bounds-u-i-in-loop-t c).Else-p-j

pub offset_bounds-l-q-in-loop-t : goal.offset_bounds-l-q-in-loop-t
offset_bounds-l-q-in-loop-t c =
    index-fits (other (goal.at.offset_bounds-l-q-in-loop-t c).After-slot_of-slot) (l-room (goal.at.offset_bounds-l-q-in-loop-t c).At-loop-t)

pub bounds-l-q-in-loop-t : goal.bounds-l-q-in-loop-t
bounds-l-q-in-loop-t c = other (goal.at.bounds-l-q-in-loop-t c).After-slot_of-slot

pub overflow_add-t : goal.overflow_add-t
overflow_add-t c = next_fits c.loop-t-test.true c.well_formed.0.1

pub loop-t-smaller : goal.loop-t-smaller
loop-t-smaller c = less _ _ c.loop-t-test.true

pub loop-t-preserved : goal.loop-t-preserved
loop-t-preserved c =
    let inside = c.loop-t-test.true in
    let under = c.if-p-j.false in (
      next_le _ _ inside,
      passed_more _ _ _ _ _ _ c.requires _ c.loop-t.invariant.1 inside under,
      simp length-set c.loop-t.invariant.2,
      simp length-set c.loop-t.invariant.3,
      λ w. before-turn _ _ _ _ _ _ w _ _ _ (c.loop-t.invariant.4 w) inside under _ c.slot_of-slot.ensures,
    )

pub returns : goal.returns
returns c =
    λ w. before-done _ _ _ _ _ _ w _ _ _ (c.loop-t.invariant.4 w)
    (found-behind _ _ _ _ _ _ w _ c.loop-t.invariant.1 c.loop-t.invariant.0 c.loop-t-test.false)
