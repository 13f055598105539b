-- `step` meets its contract: pivot row, exchange, elimination, and the flag at the end.
use Rattle.answers.specs.Stores.{side_stores}
use Rattle.lists.proofs.Small.{index-fits}
use Rattle.run_slots.proofs.Lists.{Lends}
use Rattle.run_step.proofs.WholeStep.{lower_place, lower_lends, own-inside, pivot_asks, no_pivot, bring_asks, elim_asks, not_finite, went}
use Rattle.run_step.proofs.step.Goals as goal
use Rattle.run_step.proofs.step.Goals.{After-list_place-column}

lower : (c : After-list_place-column)
    → Lends (side_stores c.args.l_subs.now c.args.l_starts.now c.args.l_slots.now) c.args.l.now
    c.list_place-column.result.from.0 c.list_place-column.result.to.0 c.list_place-column.result.slot.0 c.list_place-column.result.next.0
lower c =
    lower_lends _ _ _ _ _ _ c.requires _ _ _ _ c.list_place-column.ensures c.well_formed.1.1.0.1 c.well_formed.1.1.1.1.1.1.1.1.0.1

pub list_place-column-requires : goal.list_place-column-requires
list_place-column-requires c = lower_place _ _ _ _ _ _ c.requires c.well_formed.1.1.0.1

pub overflow_sub-own : goal.overflow_sub-own
overflow_sub-own c = c.requires.low

pub offset_bounds-d-k : goal.offset_bounds-d-k
offset_bounds-d-k c = index-fits (own-inside _ _ _ _ _ _ c.requires) c.well_formed.1.1.1.1.1.1.1.1.1.1.0.1

pub bounds-d-k : goal.bounds-d-k
bounds-d-k c = own-inside _ _ _ _ _ _ c.requires

pub offset_bounds-l-slot : goal.offset_bounds-l-slot
offset_bounds-l-slot c = (lower (goal.at.offset_bounds-l-slot c).After-list_place-column).slot-fits

pub slice_bounds-pivot-count : goal.slice_bounds-pivot-count
slice_bounds-pivot-count c = (lower (goal.at.slice_bounds-pivot-count c).After-list_place-column).rises

pub slice_bounds-pivot-start : goal.slice_bounds-pivot-start
slice_bounds-pivot-start c = (lower (goal.at.slice_bounds-pivot-start c).After-list_place-column).rises

pub slice_bounds-pivot-end : goal.slice_bounds-pivot-end
slice_bounds-pivot-end c = (lower (goal.at.slice_bounds-pivot-end c).After-list_place-column).ends

pub offset_bounds-l_subs-from : goal.offset_bounds-l_subs-from
offset_bounds-l_subs-from c = (lower (goal.at.offset_bounds-l_subs-from c).After-list_place-column).from-fits

pub slice_bounds-pivot-count-2 : goal.slice_bounds-pivot-count-2
slice_bounds-pivot-count-2 c = (lower (goal.at.slice_bounds-pivot-count-2 c).After-list_place-column).opens

pub slice_bounds-pivot-start-2 : goal.slice_bounds-pivot-start-2
slice_bounds-pivot-start-2 c = (lower (goal.at.slice_bounds-pivot-start-2 c).After-list_place-column).opens

pub slice_bounds-pivot-end-2 : goal.slice_bounds-pivot-end-2
slice_bounds-pivot-end-2 c = (lower (goal.at.slice_bounds-pivot-end-2 c).After-list_place-column).closes

pub pivot-found-requires : goal.pivot-found-requires
pivot-found-requires c = pivot_asks _ _ _ _ _ _ c.requires _ _ _ _ c.list_place-column.ensures

pub returns-then-p-eq0 : goal.returns-then-p-eq0
returns-then-p-eq0 c =
    (c.requires.clear, λ w. no_pivot _ _ _ _ _ _ w _ _ _ _ c.list_place-column.ensures _ _ c.pivot-found.ensures c.if-p-eq0.true)

pub bring-requires : goal.bring-requires
bring-requires c =
    bring_asks _ _ _ _ _ _ c.requires _ _ _ _ c.list_place-column.ensures _ _ c.pivot-found.ensures c.if-p-eq0.false

pub eliminate-made-requires : goal.eliminate-made-requires
eliminate-made-requires c = (
  elim_asks _ _ _ _ _ _ c.requires _ _ _ _ c.list_place-column.ensures _ _ c.pivot-found.ensures c.if-p-eq0.false _
      c.bring.ensures,
  c.requires.clear,
)

pub returns-then-made-ne0 : goal.returns-then-made-ne0
returns-then-made-ne0 c = (
  c.eliminate-made.ensures.0,
  λ w. not_finite _ _ _ _ _ _ w _ _ _ _ c.list_place-column.ensures _ _ c.pivot-found.ensures c.if-p-eq0.false _
      c.bring.ensures _ _ _ c.eliminate-made.ensures.1 c.if-made-ne0.true,
)

pub returns : goal.returns
returns c = (
  c.eliminate-made.ensures.0,
  λ w. went _ _ _ _ _ _ w _ _ _ _ c.list_place-column.ensures _ _ c.pivot-found.ensures c.if-p-eq0.false _
      c.bring.ensures _ _ _ c.eliminate-made.ensures.1 c.if-made-ne0.false,
)
