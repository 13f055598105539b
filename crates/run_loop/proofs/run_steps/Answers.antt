-- `run_loop::run_steps` meets its contract. The loop's invariant: the steps before k are done; its measure: the steps to come. Assumes nothing.
use mathlib.Core.Path.{refl}
use Rattle.run_loop.proofs.Stepwise.{place_fits, next_fits, updates_fit, steps_less, under_start, rows-enough, under-small, under-room}
use Rattle.run_loop.proofs.Stepwise.{under-asks, under-few, under_on, under_lacks, under_unsound, under_end}
use Rattle.run_loop.proofs.run_steps.Goals as goal

pub loop-k-init : goal.loop-k-init
loop-k-init c = under_start c.requires

pub row_asked-row-requires : goal.row_asked-row-requires
row_asked-row-requires c = (c.loop-k.invariant.low, rows-enough _ _ c.requires c.loop-k.k c.loop-k-test.true)

pub step-end-requires : goal.step-end-requires
step-end-requires c = under-asks c.requires c.loop-k.invariant c.loop-k-test.true c.row_asked-row.ensures

pub returns-in-NoPivot : goal.returns-in-NoPivot
returns-in-NoPivot c = (
  c.step-end.ensures.0,
  under_lacks c.loop-k.invariant c.loop-k-test.true c.row_asked-row.ensures
      c.in-NoPivot.ensures.1,
)

pub returns-in-NotFinite : goal.returns-in-NotFinite
returns-in-NotFinite c = (
  c.step-end.ensures.0,
  under_unsound c.loop-k.invariant c.loop-k-test.true c.row_asked-row.ensures
      c.in-NotFinite.ensures.1,
)

pub overflow_sub-pivots : goal.overflow_sub-pivots
overflow_sub-pivots c = c.loop-k.invariant.low

pub offset_bounds-pivots-k : goal.offset_bounds-pivots-k
offset_bounds-pivots-k c = place_fits (under-small c.requires c.loop-k.invariant c.loop-k-test.true)

pub bounds-pivots-k : goal.bounds-pivots-k
bounds-pivots-k c = under-room c.requires c.loop-k.invariant c.loop-k-test.true

pub overflow_add-updates : goal.overflow_add-updates
overflow_add-updates c =
    updates_fit (under-small c.requires c.loop-k.invariant c.loop-k-test.true) c.loop-k.invariant.few
    (under-few c.requires c.loop-k.invariant c.loop-k-test.true c.row_asked-row.ensures
    c.in-Went.ensures.1)

pub overflow_add-k : goal.overflow_add-k
overflow_add-k c = next_fits (under-small c.requires c.loop-k.invariant c.loop-k-test.true)

pub loop-k-smaller : goal.loop-k-smaller
loop-k-smaller c = steps_less c.loop-k-test.true

pub loop-k-preserved : goal.loop-k-preserved
loop-k-preserved c =
    under_on c.loop-k.invariant c.loop-k-test.true c.row_asked-row.ensures c.requires
    c.in-Went.ensures.1 c.step-end.ensures.0
    c.step-end.auto.l
    c.step-end.auto.u
    c.step-end.auto.d
    c.step-end.auto.x
    c.step-end.auto.copy
    c.step-end.auto.dense
    refl refl

pub returns : goal.returns
returns c = (c.loop-k.invariant.clear, under_end c.loop-k.invariant c.loop-k-test.false)
