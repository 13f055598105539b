-- `divide` meets its contract: the loop's invariant is `Dividing`.
use mathlib.Core.Path.{sym, ◌∙◌}
use Prim.Native.Nat.{◌<◌}
use native.Mathlib.Nat.{le_trans, le_of_eq, le_antisymm, lt_of_le_of_lt}
use lib.Ieee.{of_bits}
use lib.ListN.{length}
use Rattle.lists.proofs.Small.{least, less, next_le, still_below, index-fits, next_fits}
use Rattle.run_slots.proofs.Flags.{flag-set, flag_left}
use Rattle.run_column.proofs.Dividing.{dividing_start, dividing_turn, dividing_end, over_kept, over_taken, counted, uncounted}
use Rattle.run_column.proofs.loops.divide.Goals as goal
use Rattle.run_column.proofs.loops.divide.Goals.{In-loop-q, then-m, else-m, then-m-2, else-m-2, then-v, else-v}

-- the place at hand
inside : (c : In-loop-q) → c.loop-q.q < length c.args.part.now
inside c = still_below c.loop-q-test.true (sym c.loop-q.invariant.1.size)

pub loop-q-init : goal.loop-q-init
loop-q-init c = (least _, dividing_start _ _ _)

pub offset_bounds-part-q : goal.offset_bounds-part-q
offset_bounds-part-q c = index-fits (inside c) c.well_formed.0.1

pub bounds-part-q : goal.bounds-part-q
bounds-part-q c = c.loop-q-test.true

pub offset_bounds-part-q-in-loop-q : goal.offset_bounds-part-q-in-loop-q
offset_bounds-part-q-in-loop-q c = index-fits (inside (goal.at.offset_bounds-part-q-in-loop-q c).In-loop-q) c.well_formed.0.1

pub bounds-part-q-in-loop-q : goal.bounds-part-q-in-loop-q
bounds-part-q-in-loop-q c = c.loop-q-test.true

pub overflow_add-count : goal.overflow_add-count
overflow_add-count c =
    next_fits (lt_of_le_of_lt c.loop-q.invariant.1.bound (inside (goal.at.overflow_add-count c).In-loop-q)) c.well_formed.0.1

pub overflow_add-q : goal.overflow_add-q
overflow_add-q c = next_fits (inside (goal.at.overflow_add-q c).In-loop-q) c.well_formed.0.1

pub loop-q-smaller : goal.loop-q-smaller
loop-q-smaller c = less _ _ (inside (goal.at.loop-q-smaller c).In-loop-q)

pub loop-q-preserved : goal.loop-q-preserved
unfolding of_bits
loop-q-preserved c =
    let here = inside (goal.at.loop-q-preserved c).In-loop-q in (
      next_le _ _ here,
      dividing_turn _ _ _ _ _ _ _ c.loop-q.invariant.1 here _ _ _
          (elim c.if-v.branch [ then-v x ↦ x.m-is ∙ over_kept _ _ x.if-v.true | else-v x ↦ x.m-is ∙ over_taken _ _ x.if-v.false ])
          (elim c.if-m.branch [ then-m x ↦ x.bad-is ∙ flag-set _ _ x.if-m.true | else-m x ↦ x.bad-is ∙ flag_left _ _ x.if-m.false ])
          (elim c.if-m-2.branch [ then-m-2 x ↦ x.count-is ∙ counted _ _ x.if-m-2.true | else-m-2 x ↦ x.count-is ∙ uncounted _ _ x.if-m-2.false ]),
    )

pub returns : goal.returns
returns c =
    dividing_end _ _ _ _ _ _ c.loop-q.q c.loop-q.invariant.1 (le_antisymm c.loop-q.invariant.0 (le_trans (le_of_eq (sym c.loop-q.invariant.1.size))
    c.loop-q-test.false))
