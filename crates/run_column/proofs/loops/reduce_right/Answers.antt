-- `reduce_right` meets its contract: the loop's invariant is `Rewritten`, of the rows done.
use mathlib.Core.List.{List}
use mathlib.Core.Path.{refl, ap, ◌∙◌}
use Prim.Native.Nat.{◌-◌}
use lib.Ieee.{Float, nan, of_bits}
use lib.ListN.{length, get_or, length-set}
use Rattle.lists.proofs.Small.{Placed, placed, least, less, next_le, still_below, index-fits, next_fits}
use Rattle.lists.proofs.Places.{map-upto_at}
use Rattle.run_slots.proofs.Flags.{flag-set, flag_left}
use Rattle.run_slots.proofs.Products.{less_zero, less_nonzero}
use Rattle.run_column.proofs.Rewriting.{row_low, row_high, rewriting_start, rewriting_reads, rewriting_turn, rewriting_end, followed-read}
use Rattle.run_column.proofs.loops.reduce_right.Goals as goal
use Rattle.run_column.proofs.loops.reduce_right.Goals.{Start, In-loop-t, then-m, else-m, then-new, else-new}

-- the place of the pivot row, and of the row at hand
top : (s : Start) → Placed (length s.args.x.now) s.args.k
top s = placed (s.requires.1, s.requires.2) refl s.well_formed.0.1

row : (c : In-loop-t) → Placed (length c.loop-t.x) (get_or c.args.rows.now c.loop-t.t 0)
row c =
    placed (row_low _ _ c.requires.3 c.loop-t-test.true, row_high _ _ _ c.requires.4 c.loop-t-test.true) c.loop-t.invariant.1 c.well_formed.0.1

pub overflow_sub-top : goal.overflow_sub-top
overflow_sub-top c = c.requires.1

pub offset_bounds-x-k : goal.offset_bounds-x-k
offset_bounds-x-k c = (top (goal.at.offset_bounds-x-k c).Start).fits

pub bounds-x-k : goal.bounds-x-k
bounds-x-k c = (top (goal.at.bounds-x-k c).Start).inside

pub loop-t-init : goal.loop-t-init
loop-t-init c = (least _, refl, refl, λ f m e v. rewriting_start _ _ _ _ _ e)

pub offset_bounds-rows-t : goal.offset_bounds-rows-t
offset_bounds-rows-t c = index-fits c.loop-t-test.true c.well_formed.1.0.1

pub bounds-rows-t : goal.bounds-rows-t
bounds-rows-t c = c.loop-t-test.true

pub offset_bounds-factors-t : goal.offset_bounds-factors-t
offset_bounds-factors-t c = index-fits c.loop-t-test.true c.well_formed.1.0.1

pub bounds-factors-t : goal.bounds-factors-t
bounds-factors-t c = still_below c.loop-t-test.true c.requires.0

pub overflow_sub-old : goal.overflow_sub-old
overflow_sub-old c = (row (goal.at.overflow_sub-old c).In-loop-t).low

pub offset_bounds-x-i : goal.offset_bounds-x-i
offset_bounds-x-i c = (row (goal.at.offset_bounds-x-i c).In-loop-t).fits

pub bounds-x-i : goal.bounds-x-i
bounds-x-i c = (row (goal.at.bounds-x-i c).In-loop-t).inside

pub overflow_sub-x : goal.overflow_sub-x
overflow_sub-x c = (row (goal.at.overflow_sub-x c).In-loop-t).low

pub offset_bounds-x-i-in-loop-t : goal.offset_bounds-x-i-in-loop-t
offset_bounds-x-i-in-loop-t c = (row (goal.at.offset_bounds-x-i-in-loop-t c).In-loop-t).fits

pub bounds-x-i-in-loop-t : goal.bounds-x-i-in-loop-t
bounds-x-i-in-loop-t c = (row (goal.at.bounds-x-i-in-loop-t c).In-loop-t).inside

pub overflow_add-t : goal.overflow_add-t
overflow_add-t c = next_fits c.loop-t-test.true c.well_formed.1.0.1

pub loop-t-smaller : goal.loop-t-smaller
loop-t-smaller c = less _ _ c.loop-t-test.true

pub loop-t-preserved : goal.loop-t-preserved
unfolding of_bits
loop-t-preserved c =
    let rows = c.args.rows.now in
    let l = c.loop-t-test.true in
    let high = row_high _ rows c.loop-t.t c.requires.4 l in (
      next_le _ _ l,
      simp length-set c.loop-t.invariant.1,
      c.loop-t.invariant.2,
      λ f m e v.
          let h = c.loop-t.invariant.3 f m e v in
          rewriting_turn _ _ rows _ _ _ _ c.loop-t.t h c.requires.3 l high _ _
          (followed-read f m rows _ _ _ _ c.args.k c.loop-t.t v l (c.loop-t.invariant.2 ∙ ap (λ (zs : List Float). get_or zs (c.args.k - 1) nan) e ∙
          map-upto_at f _ c.args.k nan c.requires.1 c.requires.2)
          (rewriting_reads _ _ rows _ _ _ _ c.loop-t.t h c.requires.3 l high)
          (elim c.if-m.branch [ then-m x ↦ x.new-is ∙ less_zero _ _ _ x.if-m.true | else-m x ↦ x.new-is ∙ less_nonzero _ _ _ x.if-m.false ]))
          (elim c.if-new.branch [ then-new x ↦ x.bad-is ∙ flag-set _ _ x.if-new.true | else-new x ↦ x.bad-is ∙ flag_left _ _ x.if-new.false ]),
    )

pub returns : goal.returns
returns c =
    λ f m e v. rewriting_end _ _ c.args.rows.now _ _ _ _ c.loop-t.t (c.loop-t.invariant.3 f m e v) c.loop-t-test.false
