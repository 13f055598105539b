-- `run_solve::solve` meets its contract: what the rows above i make of x is what is left of back substitution.
use mathlib.Core.Path.{◌≡◌, refl, sym, ◌∙◌}
use Prim.Native.Nat.{◌≤◌}
use native.Mathlib.Nat.{le_refl, le_of_eq, le_trans, sub-le}
use lib.Ieee.{of_bits}
use lib.ListN.{length, length-set}
use borrow.Author.Count.{falls_down}
use Rattle.lists.proofs.Small.{Placed, placed, next_le, room_same, before_size}
use Rattle.answers.specs.Stores.{side_stores}
use Rattle.run_slots.proofs.Lists.{Lends}
use Rattle.run_solve.proofs.Solving.{solution_size, diagonal_size, row_place, row_lends, row_asks, row_solved, solving_start, solving_turn}
use Rattle.run_solve.proofs.Solving.{solving_stop, solving_end}
use Rattle.run_solve.proofs.solve.Goals as goal
use Rattle.run_solve.proofs.solve.Goals.{In-loop-i, After-list_place-place}

some : (c : In-loop-i) → 1 ≤ c.loop-i.i
some c = next_le _ _ c.loop-i-test.true

sized : (c : In-loop-i) → length c.loop-i.x ≡ c.args.n
sized c = c.loop-i.invariant.1.0 ∙ c.loop-i.invariant.1.1

-- its place in x
own : (c : In-loop-i) → Placed (length c.loop-i.x) c.loop-i.i
own c = placed (some c, c.loop-i.invariant.0) (sized c) (room_same (sym c.loop-i.invariant.1.1) c.well_formed.1.1.1.1.1.1.0.1)

-- what is lent of it
row : (c : After-list_place-place)
    → Lends (side_stores c.args.subs.now c.args.starts.now c.args.slots.now)
    c.args.u.now
    c.list_place-place.result.from.0 c.list_place-place.result.to.0 c.list_place-place.result.slot.0 c.list_place-place.result.next.0
row c =
    row_lends _ _ _ _ _ c.requires _ (next_le _ _ c.loop-i-test.true) c.loop-i.invariant.0 _ _ _ _ c.list_place-place.ensures c.well_formed.1.0.1
    c.well_formed.1.1.1.1.0.1

pub loop-i-init : goal.loop-i-init
loop-i-init c = (le_refl _, (refl, solution_size _ _ _ c.requires.rights), λ w. solving_start _ _ _ _ _ w)

pub overflow_sub-above : goal.overflow_sub-above
overflow_sub-above c = some (goal.at.overflow_sub-above c).In-loop-i

pub list_place-place-requires : goal.list_place-place-requires
list_place-place-requires c = row_place _ _ _ _ _ c.requires _ (some (goal.at.list_place-place-requires c).In-loop-i) c.loop-i.invariant.0 c.well_formed.1.0.1

pub offset_bounds-x-above : goal.offset_bounds-x-above
offset_bounds-x-above c = (own (goal.at.offset_bounds-x-above c).In-loop-i).fits

pub bounds-x-above : goal.bounds-x-above
bounds-x-above c = (own (goal.at.bounds-x-above c).In-loop-i).inside

pub offset_bounds-u-slot : goal.offset_bounds-u-slot
offset_bounds-u-slot c = (row (goal.at.offset_bounds-u-slot c).After-list_place-place).slot-fits

pub slice_bounds-solved_row-count : goal.slice_bounds-solved_row-count
slice_bounds-solved_row-count c = (row (goal.at.slice_bounds-solved_row-count c).After-list_place-place).rises

pub slice_bounds-solved_row-start : goal.slice_bounds-solved_row-start
slice_bounds-solved_row-start c = (row (goal.at.slice_bounds-solved_row-start c).After-list_place-place).rises

pub slice_bounds-solved_row-end : goal.slice_bounds-solved_row-end
slice_bounds-solved_row-end c = (row (goal.at.slice_bounds-solved_row-end c).After-list_place-place).ends

pub offset_bounds-subs-from : goal.offset_bounds-subs-from
offset_bounds-subs-from c = (row (goal.at.offset_bounds-subs-from c).After-list_place-place).from-fits

pub slice_bounds-solved_row-count-in-loop-i : goal.slice_bounds-solved_row-count-in-loop-i
slice_bounds-solved_row-count-in-loop-i c = (row (goal.at.slice_bounds-solved_row-count-in-loop-i c).After-list_place-place).opens

pub slice_bounds-solved_row-start-in-loop-i : goal.slice_bounds-solved_row-start-in-loop-i
slice_bounds-solved_row-start-in-loop-i c = (row (goal.at.slice_bounds-solved_row-start-in-loop-i c).After-list_place-place).opens

pub slice_bounds-solved_row-end-in-loop-i : goal.slice_bounds-solved_row-end-in-loop-i
slice_bounds-solved_row-end-in-loop-i c = (row (goal.at.slice_bounds-solved_row-end-in-loop-i c).After-list_place-place).closes

pub offset_bounds-d-above : goal.offset_bounds-d-above
offset_bounds-d-above c = (own (goal.at.offset_bounds-d-above c).In-loop-i).fits

pub bounds-d-above : goal.bounds-d-above
bounds-d-above c =
    before_size (some (goal.at.bounds-d-above c).In-loop-i) c.loop-i.invariant.0 (diagonal_size _ _ _ _ _ c.requires)

pub solved_row-value-requires : goal.solved_row-value-requires
solved_row-value-requires c =
    row_asks _ _ _ _ _ c.requires _ (some (goal.at.solved_row-value-requires c).In-loop-i) c.loop-i.invariant.0 _ _ _ _ c.list_place-place.ensures _
    (le_of_eq (sym (sized (goal.at.solved_row-value-requires c).In-loop-i)))

pub returns-then-value : goal.returns-then-value
unfolding of_bits
returns-then-value c =
    λ w. let low = some (goal.at.returns-then-value c).In-loop-i in
    solving_stop _ _ _ _ _ w _ _ (c.loop-i.invariant.2 w) low c.loop-i.invariant.0 _ (row_solved _ _ _ _ _ w _ low c.loop-i.invariant.0 _ _ _ _
    c.list_place-place.ensures _ _ (c.loop-i.invariant.2 w).rights _ c.solved_row-value.ensures) c.if-value.true

pub offset_bounds-x-above-in-loop-i : goal.offset_bounds-x-above-in-loop-i
offset_bounds-x-above-in-loop-i c = (own (goal.at.offset_bounds-x-above-in-loop-i c).In-loop-i).fits

pub bounds-x-above-in-loop-i : goal.bounds-x-above-in-loop-i
bounds-x-above-in-loop-i c = (own (goal.at.bounds-x-above-in-loop-i c).In-loop-i).inside

pub loop-i-smaller : goal.loop-i-smaller
loop-i-smaller c = falls_down _ c.loop-i-test.true

pub loop-i-preserved : goal.loop-i-preserved
unfolding of_bits
loop-i-preserved c = (
  le_trans (sub-le _ 1) c.loop-i.invariant.0,
  (simp length-set c.loop-i.invariant.1.0, c.loop-i.invariant.1.1),
  λ w.
      let low = some (goal.at.loop-i-preserved c).In-loop-i in
      solving_turn _ _ _ _ _ w _ _ (c.loop-i.invariant.2 w) low c.loop-i.invariant.0 _ (row_solved _ _ _ _ _ w _ low c.loop-i.invariant.0 _ _ _ _
      c.list_place-place.ensures _ _ (c.loop-i.invariant.2 w).rights _ c.solved_row-value.ensures) c.if-value.false,
)

pub returns : goal.returns
returns c = λ w. solving_end _ _ _ _ _ w _ _ (c.loop-i.invariant.2 w) c.loop-i-test.false
