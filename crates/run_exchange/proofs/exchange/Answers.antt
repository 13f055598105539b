-- `exchange` meets its contract: column k, the columns before p, those from p on, and the right side, one after the other.
use Rattle.run_exchange.proofs.Assembly.{column_place, row_place, diagonal_in, cell_in, p_is, slot_in_lem, row_within, p_above, p_right, k_right}
use Rattle.run_exchange.proofs.Assembly.{before-asks, behind-asks, whole}
use native.Mathlib.Omega.{arith}
use Rattle.lists.proofs.Small.{below_fits, index-fits, part_fits}
use Rattle.run_exchange.proofs.exchange.Goals as goal

pub list_place-column-requires : goal.list_place-column-requires
list_place-column-requires c = column_place _ _ _ _ c.requires c.well_formed.1.1.0.1

pub overflow_add-cell : goal.overflow_add-cell
overflow_add-cell c = below_fits (cell_in _ _ _ _ c.requires _ _ _ _ c.list_place-column.ensures) c.well_formed.1.1.0.1

pub offset_bounds-l_subs-cell : goal.offset_bounds-l_subs-cell
offset_bounds-l_subs-cell c = index-fits (cell_in _ _ _ _ c.requires _ _ _ _ c.list_place-column.ensures) c.well_formed.1.1.0.1

pub bounds-l_subs-cell : goal.bounds-l_subs-cell
bounds-l_subs-cell c = cell_in _ _ _ _ c.requires _ _ _ _ c.list_place-column.ensures

-- The slot of column k: by arithmetic, so that code with a slot of an earlier column here asks the same and is refused since column k is not exchanged.
pub overflow_add-at : goal.overflow_add-at
overflow_add-at c =
    omega (arith, slot_in_lem _ _ _ _ c.requires _ _ _ _ c.list_place-column.ensures, c.well_formed.1.1.1.1.1.1.1.1.0.1)

pub overflow_sub-k : goal.overflow_sub-k
overflow_sub-k c = c.requires.low

pub swap-requires : goal.swap-requires
swap-requires c =
    (diagonal_in _ _ _ _ c.requires, omega (arith, slot_in_lem _ _ _ _ c.requires _ _ _ _ c.list_place-column.ensures))

pub list_place-row-requires : goal.list_place-row-requires
list_place-row-requires c = row_place _ _ _ _ c.requires c.well_formed.1.1.1.1.1.0.1

pub offset_bounds-u_subs-from : goal.offset_bounds-u_subs-from
offset_bounds-u_subs-from c = part_fits (row_within _ _ _ _ c.requires _ _ _ _ c.list_place-row.ensures) c.well_formed.1.1.1.1.1.0.1

pub slice_bounds-us-count : goal.slice_bounds-us-count
slice_bounds-us-count c = (row_within _ _ _ _ c.requires _ _ _ _ c.list_place-row.ensures).0

pub slice_bounds-us-start : goal.slice_bounds-us-start
slice_bounds-us-start c = (row_within _ _ _ _ c.requires _ _ _ _ c.list_place-row.ensures).0

pub slice_bounds-us-end : goal.slice_bounds-us-end
slice_bounds-us-end c = (row_within _ _ _ _ c.requires _ _ _ _ c.list_place-row.ensures).1

pub swap_before-t-requires : goal.swap_before-t-requires
swap_before-t-requires c =
    before-asks _ _ _ _ c.requires _ (p_is _ _ _ _ c.requires _ _ _ _ c.list_place-column.ensures) _ _ _ _ c.list_place-column.ensures _ _
    c.swap.ensures _ _ _ _ c.list_place-row.ensures

pub swap_behind-requires : goal.swap_behind-requires
swap_behind-requires c =
    behind-asks _ _ _ _ c.requires _ (p_is _ _ _ _ c.requires _ _ _ _ c.list_place-column.ensures) _ _ _ _ c.list_place-column.ensures _ _
    c.swap.ensures _ _ _ _ c.list_place-row.ensures _ _ _ c.swap_before-t.ensures

pub overflow_sub-k-2 : goal.overflow_sub-k-2
overflow_sub-k-2 c = c.requires.low

-- The rows of the right side: by arithmetic, so that code with another row here asks the same and is refused by the contract.
pub overflow_sub-p : goal.overflow_sub-p
overflow_sub-p c =
    omega (arith, c.requires.low, p_above _ _ _ _ c.requires _ (p_is _ _ _ _ c.requires _ _ _ _ c.list_place-column.ensures))

pub swap_within-requires : goal.swap_within-requires
swap_within-requires c = (
  k_right _ _ _ _ c.requires _ (p_is _ _ _ _ c.requires _ _ _ _ c.list_place-column.ensures),
  omega (
    arith,
    p_right _ _ _ _ c.requires _ (p_is _ _ _ _ c.requires _ _ _ _ c.list_place-column.ensures),
    k_right _ _ _ _ c.requires _ (p_is _ _ _ _ c.requires _ _ _ _ c.list_place-column.ensures),
  ),
)

pub returns : goal.returns
returns c =
    let list-place = c.list_place-column in
    λ w. whole _ _ _ _ w _ (p_is _ _ _ _ w _ _ _ _ list-place.ensures) _ _ _ _ list-place.ensures _ _ c.swap.ensures _ _ _ _
    c.list_place-row.ensures _ _ _ c.swap_before-t.ensures _ _ _ c.swap_behind.ensures
    c.swap_within.ensures
