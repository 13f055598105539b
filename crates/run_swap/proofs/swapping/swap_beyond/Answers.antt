-- `swap_beyond` meets its contract: the loop's invariant is that the columns before place t are exchanged.
use Prim.Native.Nat.{◌<◌, ◌+◌, ◌*◌, ◌^◌}
use mathlib.Core.Path.{refl}
use native.Mathlib.Nat.{le_refl, le_trans, le-add_left, le-add_right, lt_of_le_of_lt}
use lib.ListN.{length, length-set}
use Rattle.lists.proofs.Small.{less, next_le, room_same, below_fits, index-fits, next_fits}
use Rattle.run_swap.proofs.Walks.{own-ascends, beyond-own, beyond_other, beyond-turn, beyond_end}
use Rattle.run_swap.proofs.swapping.swap_beyond.Goals as goal
use Rattle.run_swap.proofs.swapping.swap_beyond.Goals.{In-loop-t, After-place_by-q}

room : (c : In-loop-t) → length c.loop-t.u * 8 < 2 ^ 63
room c = room_same c.loop-t.invariant.2 c.well_formed.1.1.1.1.1.1.0.1

mine : (c : In-loop-t) → c.args.first.0 + c.loop-t.t < length c.loop-t.u
mine c =
    beyond-own _ _ _ _ _ _ c.requires _ _ (c.loop-t.invariant.3 c.requires) c.loop-t.invariant.0 c.loop-t-test.true

other : (c : After-place_by-q) → c.args.second.0 + c.place_by-q.result <
    length c.loop-t.u
other c =
    beyond_other _ _ _ _ _ _ c.requires _ _ (c.loop-t.invariant.3 c.requires) c.loop-t.invariant.0 c.loop-t-test.true _
    c.place_by-q.ensures

pub loop-t-init : goal.loop-t-init
loop-t-init c = (le_refl _, c.requires.within, refl, λ w. w.swapped)

pub offset_bounds-us-t : goal.offset_bounds-us-t
offset_bounds-us-t c = index-fits c.loop-t-test.true c.well_formed.0.1

pub bounds-us-t : goal.bounds-us-t
bounds-us-t c = c.loop-t-test.true

pub place_by-q-requires : goal.place_by-q-requires
place_by-q-requires c = own-ascends _ _ _ _ _ _ c.requires

pub overflow_add-i : goal.overflow_add-i
overflow_add-i c = below_fits (mine (goal.at.overflow_add-i c).In-loop-t) (room (goal.at.overflow_add-i c).In-loop-t)

pub overflow_add-j : goal.overflow_add-j
overflow_add-j c = below_fits (other (goal.at.overflow_add-j c).After-place_by-q) (room (goal.at.overflow_add-j c).In-loop-t)

pub offset_bounds-u-i : goal.offset_bounds-u-i
offset_bounds-u-i c = index-fits (mine (goal.at.offset_bounds-u-i c).In-loop-t) (room (goal.at.offset_bounds-u-i c).In-loop-t)

pub bounds-u-i : goal.bounds-u-i
bounds-u-i c = mine (goal.at.bounds-u-i c).In-loop-t

pub offset_bounds-u-j : goal.offset_bounds-u-j
offset_bounds-u-j c = index-fits (other (goal.at.offset_bounds-u-j c).After-place_by-q) (room (goal.at.offset_bounds-u-j c).In-loop-t)

pub bounds-u-j : goal.bounds-u-j
bounds-u-j c = other (goal.at.bounds-u-j c).After-place_by-q

pub offset_bounds-u-i-in-loop-t : goal.offset_bounds-u-i-in-loop-t
offset_bounds-u-i-in-loop-t c =
    index-fits (mine (goal.at.offset_bounds-u-i-in-loop-t c).In-loop-t) (room (goal.at.offset_bounds-u-i-in-loop-t c).In-loop-t)

pub bounds-u-i-in-loop-t : goal.bounds-u-i-in-loop-t
bounds-u-i-in-loop-t c = mine (goal.at.bounds-u-i-in-loop-t c).In-loop-t

pub offset_bounds-u-j-in-loop-t : goal.offset_bounds-u-j-in-loop-t
offset_bounds-u-j-in-loop-t c =
    index-fits (other (goal.at.offset_bounds-u-j-in-loop-t c).After-place_by-q) (room (goal.at.offset_bounds-u-j-in-loop-t c).In-loop-t)

pub bounds-u-j-in-loop-t : goal.bounds-u-j-in-loop-t
bounds-u-j-in-loop-t c = simp length-set (other (goal.at.bounds-u-j-in-loop-t c).After-place_by-q)

pub overflow_add-next : goal.overflow_add-next
overflow_add-next c =
    next_fits (lt_of_le_of_lt (le-add_left _ _) (other (goal.at.overflow_add-next c).After-place_by-q)) (room (goal.at.overflow_add-next c).In-loop-t)

pub overflow_add-t : goal.overflow_add-t
overflow_add-t c = next_fits c.loop-t-test.true c.well_formed.0.1

pub loop-t-smaller : goal.loop-t-smaller
loop-t-smaller c = less _ _ c.loop-t-test.true

pub loop-t-preserved : goal.loop-t-preserved
loop-t-preserved c =
    let r = c.loop-t-test.true in (
      le_trans c.loop-t.invariant.0 (le-add_right _ 1),
      next_le _ _ r,
      simp (length-set, length-set) c.loop-t.invariant.2,
      λ w. beyond-turn _ _ _ _ _ _ w _ _ (c.loop-t.invariant.3 w) c.loop-t.invariant.0 r _ c.place_by-q.ensures,
    )

pub returns : goal.returns
returns c = λ w. beyond_end _ _ _ _ _ _ w _ _ c.loop-t.invariant.1 c.loop-t-test.false (c.loop-t.invariant.3 w)
