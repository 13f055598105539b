-- `run_load::load` meets its contract: the rows before i + 1 are loaded.
use mathlib.Core.Path.{refl, sym, ◌∙◌}
use native.Mathlib.Nat.{le_of_eq}
use Rattle.lists.proofs.Small.{least, less, next_le}
use Rattle.foundation.specs.Pattern.{lent}
use Rattle.run_load.proofs.Copied.{copied_whole}
use Rattle.run_load.proofs.Whole.{line_lies, LineLends, line_lends, line_asks, line_leaves, all_start, all_end}
use Rattle.run_load.proofs.load.Goals as goal
use Rattle.run_load.proofs.load.Goals.{In-loop-i}

-- all rows are loaded
pub returns : goal.returns
unfolding lent
returns c =
    let copied = c.copy_in in
    λ w. all_end _ _ _ _ _ w c.loop-i.i _ _ _ _ c.loop-i-test.false c.loop-i.invariant.0 (c.loop-i.invariant.4 _ w)
    (copied_whole _ _ (copied.auto.to ∙ w.x_size ∙ sym w.right_size) copied.ensures)

line : (c : In-loop-i) → LineLends c.args.starts.now c.args.columns.now c.args.values.now
    c.loop-i.i
line c = line_lends _ _ _ c.loop-i-test.true (c.loop-i.invariant.3 c.loop-i-test.true) c.well_formed.1.1.0.1 c.loop-i.invariant.2

pub copy_in-requires : goal.copy_in-requires
unfolding lent
copy_in-requires c =
    let p = c.requires in
    le_of_eq (p.right_size ∙ sym p.x_size)

pub loop-i-init : goal.loop-i-init
unfolding lent
loop-i-init c = (
  least _,
  (refl, refl, refl),
  c.well_formed.1.1.1.0.1,
  λ l. line_lies _ _ _ _ _ c.requires _ l,
  λ x w. all_start _ _ _ _ _ w,
)

pub offset_bounds-starts-i : goal.offset_bounds-starts-i
offset_bounds-starts-i c = (line (goal.at.offset_bounds-starts-i c).In-loop-i).here_fits

pub bounds-starts-i : goal.bounds-starts-i
bounds-starts-i c = (line (goal.at.bounds-starts-i c).In-loop-i).here_in

pub overflow_add-i : goal.overflow_add-i
overflow_add-i c = (line (goal.at.overflow_add-i c).In-loop-i).sum_fits

pub offset_bounds-starts-i-in-loop-i : goal.offset_bounds-starts-i-in-loop-i
offset_bounds-starts-i-in-loop-i c = (line (goal.at.offset_bounds-starts-i-in-loop-i c).In-loop-i).next_fits

pub bounds-starts-i-in-loop-i : goal.bounds-starts-i-in-loop-i
bounds-starts-i-in-loop-i c = (line (goal.at.bounds-starts-i-in-loop-i c).In-loop-i).next_in

pub offset_bounds-columns-from : goal.offset_bounds-columns-from
offset_bounds-columns-from c = (line (goal.at.offset_bounds-columns-from c).In-loop-i).from-fits

pub slice_bounds-load_row-count : goal.slice_bounds-load_row-count
slice_bounds-load_row-count c = (line (goal.at.slice_bounds-load_row-count c).In-loop-i).rises

pub slice_bounds-load_row-start : goal.slice_bounds-load_row-start
slice_bounds-load_row-start c = (line (goal.at.slice_bounds-load_row-start c).In-loop-i).rises

pub slice_bounds-load_row-end : goal.slice_bounds-load_row-end
slice_bounds-load_row-end c = (line (goal.at.slice_bounds-load_row-end c).In-loop-i).in_columns

pub offset_bounds-values-from : goal.offset_bounds-values-from
offset_bounds-values-from c = (line (goal.at.offset_bounds-values-from c).In-loop-i).from-fits

pub slice_bounds-load_row-count-in-loop-i : goal.slice_bounds-load_row-count-in-loop-i
slice_bounds-load_row-count-in-loop-i c = (line (goal.at.slice_bounds-load_row-count-in-loop-i c).In-loop-i).rises

pub slice_bounds-load_row-start-in-loop-i : goal.slice_bounds-load_row-start-in-loop-i
slice_bounds-load_row-start-in-loop-i c = (line (goal.at.slice_bounds-load_row-start-in-loop-i c).In-loop-i).rises

pub slice_bounds-load_row-end-in-loop-i : goal.slice_bounds-load_row-end-in-loop-i
slice_bounds-load_row-end-in-loop-i c = (line (goal.at.slice_bounds-load_row-end-in-loop-i c).In-loop-i).in_values

pub load_row-requires : goal.load_row-requires
unfolding lent
load_row-requires c =
    let p = c.requires in
    line_asks _ _ _ _ _ p c.loop-i.i c.loop-i-test.true _ _ _ (c.loop-i.invariant.4 _ p)

pub loop-i-smaller : goal.loop-i-smaller
loop-i-smaller c = less _ _ c.loop-i-test.true

pub loop-i-preserved : goal.loop-i-preserved
unfolding lent
loop-i-preserved c =
    let k = c.load_row.auto in
    let p = c.requires in (
      next_le _ _ c.loop-i-test.true,
      (
        k.l ∙ c.loop-i.invariant.1.0,
        k.u ∙ c.loop-i.invariant.1.1,
        k.d ∙ c.loop-i.invariant.1.2,
      ),
      c.loop-i.invariant.2,
      λ l. line_lies _ _ _ _ _ p _ l,
      λ x w. line_leaves _ _ _ _ _ w c.loop-i.i c.loop-i-test.true _ _ _ _ _ _ (c.loop-i.invariant.4 x w) c.load_row.ensures,
    )
