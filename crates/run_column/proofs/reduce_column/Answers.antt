-- `reduce_column` meets its contract: four loops, one after the other.
use native.Mathlib.Omega.{arith}
use Rattle.lists.proofs.Small.{index-fits}
use Rattle.run_column.proofs.Columns.{pivot_inside, right_asks, diagonal-asks, product-fits, square-fits, column_leaves}
use Rattle.run_column.proofs.reduce_column.Goals as goal

pub overflow_sub-pivot : goal.overflow_sub-pivot
overflow_sub-pivot c = c.requires.low

pub offset_bounds-d-k : goal.offset_bounds-d-k
offset_bounds-d-k c = index-fits (pivot_inside _ _ _ _ _ _ _ c.requires) c.well_formed.1.1.1.1.0.1

pub bounds-d-k : goal.bounds-d-k
bounds-d-k c = pivot_inside _ _ _ _ _ _ _ c.requires

pub reduce_right-right-requires : goal.reduce_right-right-requires
reduce_right-right-requires c = right_asks _ _ _ _ _ _ _ c.requires _ c.divide-made.ensures.0

pub reduce_diagonal-bad-requires : goal.reduce_diagonal-bad-requires
reduce_diagonal-bad-requires c = diagonal-asks _ _ _ _ _ _ _ c.requires _ c.divide-made.ensures.0

-- Of both products, so that code which multiplies one count with itself is refused for what it counts.
pub overflow_mul-result : goal.overflow_mul-result
overflow_mul-result c =
    record {
      fits = omega (
        arith,
        product-fits _ _ _ _ _ _ _ c.requires _ _ c.divide-made.ensures.3 c.count_nonzero-count.ensures.1,
        square-fits _ _ _ _ _ _ _ c.requires _ c.divide-made.ensures.3,
      );
    }

pub returns : goal.returns
returns c =
    λ w. column_leaves _ _ _ _ _ _ _ w _ _ _ _ _ _ _ _ c.divide-made.ensures
    c.reduce_right-right.ensures c.reduce_diagonal-bad.ensures c.count_nonzero-count.ensures
