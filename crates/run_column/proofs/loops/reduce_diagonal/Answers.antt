-- `reduce_diagonal` meets its contract: the loop's invariant is `Rewritten`, of the rows done; the walk along the columns is `Passed`.
use mathlib.Core.Path.{◌≡◌, refl, sym, ◌∙◌}
use Prim.Native.Nat.{◌≤◌, ◌<◌}
use lib.Ieee.{of_bits}
use lib.ListN.{length, get_or, length-set}
use Rattle.lists.proofs.Small.{Placed, placed, least, less, next_le, still_inside, still_below, index-fits, next_fits}
use Rattle.run_slots.proofs.Flags.{flag-set, flag_left}
use Rattle.run_column.proofs.Rewriting.{row_low, rewriting_start, rewriting_reads, rewriting_turn, zero_left, neither_zero, reduced-read}
use Rattle.run_column.proofs.Rewriting.{diagonal_start, diagonal-stop, diagonal_end, passed_start, passed_at, passed_next, own_column}
use Rattle.run_stretch.proofs.UpTo.{up_to_more}
use Rattle.lists.proofs.Places.{member_at}
use Rattle.foundation.proofs.FloatSteps.{reduced-zero}
use Rattle.run_column.proofs.loops.reduce_diagonal.Goals as goal
use Rattle.run_column.proofs.loops.reduce_diagonal.Goals.{Else-d-i, After-first_above-s, then-m, else-m, then-new, else-new, then-u, else-u}

pub returns-then-d-i : goal.returns-then-d-i
returns-then-d-i c =
    λ f m u e v w. diagonal-stop _ _ c.args.rows.now _ _ _ _ c.loop-t.t (c.loop-t.invariant.5 f m u e v w) c.requires.2 c.loop-t.invariant.4
    c.loop-t.invariant.0 c.loop-t.invariant.2 c.if-d-i.true

high : (c : Else-d-i) → get_or c.args.rows.now c.loop-t.t 0 ≤ length c.args.d.now
high c = still_inside c.if-d-i.false (sym c.loop-t.invariant.2)

row : (c : Else-d-i) → Placed (length c.loop-t.d) (get_or c.args.rows.now
    c.loop-t.t 0)
row c =
    placed (row_low _ _ c.requires.2 c.loop-t-test.true, high c) c.loop-t.invariant.2 c.well_formed.0.1

column : (c : After-first_above-s)
    → (c.first_above-s.result < length c.args.columns.now) ×
    (get_or c.args.columns.now c.first_above-s.result 0 ≡
    get_or c.args.rows.now c.loop-t.t 0)
column c =
    own_column c.args.columns.now (get_or c.args.rows.now c.loop-t.t 0) _ c.requires.3 (row_low _ _ c.requires.2 c.loop-t-test.true)
    (c.requires.4 _ (member_at _ _ c.loop-t-test.true) (still_inside c.if-d-i.false (sym c.loop-t.invariant.2))) c.first_above-s.ensures

pub loop-t-init : goal.loop-t-init
loop-t-init c = (least _, least _, refl, passed_start _ _, diagonal_start _ _, λ f m u e v w. rewriting_start _ _ _ _ _ e)

pub offset_bounds-rows-t : goal.offset_bounds-rows-t
offset_bounds-rows-t c = index-fits c.loop-t-test.true c.well_formed.1.0.1

pub bounds-rows-t : goal.bounds-rows-t
bounds-rows-t c = c.loop-t-test.true

pub offset_bounds-factors-t : goal.offset_bounds-factors-t
offset_bounds-factors-t c = index-fits c.loop-t-test.true c.well_formed.1.0.1

pub bounds-factors-t : goal.bounds-factors-t
bounds-factors-t c = still_below c.loop-t-test.true c.requires.0

pub overflow_sub-i : goal.overflow_sub-i
overflow_sub-i c = (row (goal.at.overflow_sub-i c).Else-d-i).low

pub first_above-s-requires : goal.first_above-s-requires
first_above-s-requires c =
    let loop = c.loop-t in
    (loop.invariant.1, passed_at _ _ _ _ loop.invariant.3 c.loop-t-test.true)

pub offset_bounds-values-s : goal.offset_bounds-values-s
offset_bounds-values-s c = index-fits (column (goal.at.offset_bounds-values-s c).After-first_above-s).0 c.well_formed.1.1.1.0.1

pub bounds-values-s : goal.bounds-values-s
bounds-values-s c = still_below (column (goal.at.bounds-values-s c).After-first_above-s).0 c.requires.1

pub overflow_sub-old : goal.overflow_sub-old
overflow_sub-old c = (row (goal.at.overflow_sub-old c).Else-d-i).low

pub offset_bounds-d-i : goal.offset_bounds-d-i
offset_bounds-d-i c = (row (goal.at.offset_bounds-d-i c).Else-d-i).fits

pub bounds-d-i : goal.bounds-d-i
bounds-d-i c = (row (goal.at.bounds-d-i c).Else-d-i).inside

pub overflow_sub-d : goal.overflow_sub-d
overflow_sub-d c = (row (goal.at.overflow_sub-d c).Else-d-i).low

pub offset_bounds-d-i-in-loop-t : goal.offset_bounds-d-i-in-loop-t
offset_bounds-d-i-in-loop-t c = (row (goal.at.offset_bounds-d-i-in-loop-t c).Else-d-i).fits

pub bounds-d-i-in-loop-t : goal.bounds-d-i-in-loop-t
bounds-d-i-in-loop-t c = (row (goal.at.bounds-d-i-in-loop-t c).Else-d-i).inside

pub overflow_add-t : goal.overflow_add-t
overflow_add-t c = next_fits c.loop-t-test.true c.well_formed.1.0.1

pub loop-t-smaller : goal.loop-t-smaller
loop-t-smaller c = less _ _ c.loop-t-test.true

pub loop-t-preserved : goal.loop-t-preserved
unfolding of_bits
loop-t-preserved c =
    let rows = c.args.rows.now in
    let l = c.loop-t-test.true in
    let at = c.first_above-s.ensures in
    let there = column (goal.at.loop-t-preserved c).After-first_above-s in (
      next_le _ _ l,
      at.0,
      simp length-set c.loop-t.invariant.2,
      passed_next _ _ rows _ c.requires.2 l at.1,
      up_to_more _ _ rows c.loop-t.invariant.4 (high (goal.at.loop-t-preserved c).Else-d-i),
      λ f m u e v w.
          let h = c.loop-t.invariant.5 f m u e v w in
          rewriting_turn _ _ rows _ _ _ _ c.loop-t.t h c.requires.2 l (high (goal.at.loop-t-preserved c).Else-d-i) _ _
          (reduced-read f m u rows c.args.columns.now _ _ _ _ c.loop-t.t _ v w l there
          (rewriting_reads _ _ rows _ _ _ _ c.loop-t.t h c.requires.2 l (high (goal.at.loop-t-preserved c).Else-d-i))
          (elim c.if-u.branch [
            | then-u x ↦ x.new-is ∙ reduced-zero _ _ _ x.if-u.true
            | else-u x ↦ x.new-is ∙ elim c.if-m.branch [
              | then-m y ↦ y.new-is ∙ zero_left _ _ _ y.if-m.true
              | else-m y ↦ y.new-is ∙ neither_zero _ _ _ y.if-m.false x.if-u.false
            ]
          ]))
          (elim c.if-new.branch [ then-new x ↦ x.bad-is ∙ flag-set _ _ x.if-new.true | else-new x ↦ x.bad-is ∙ flag_left _ _ x.if-new.false ]),
    )

pub returns : goal.returns
returns c =
    λ f m u e v w. diagonal_end _ _ c.args.rows.now _ _ _ _ c.loop-t.t (c.loop-t.invariant.5 f m u e v w) c.requires.2 c.loop-t.invariant.4
    c.loop-t.invariant.0 c.loop-t-test.false
