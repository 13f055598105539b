-- `reduce_gathered` meets its contract: the loop is that of `reduce_stretch`, over what the subscripts find.
use mathlib.Core.Path.{◌≡◌, sym, ◌∙◌}
use Prim.Native.Nat.{◌<◌}
use native.Mathlib.Nat.{le_trans, le_of_eq}
use lib.Ieee.{nan, of_bits}
use lib.ListN.{length, get_or, length-set}
use Rattle.lists.proofs.Small.{least, less, next_le, still_below, index-fits, next_fits}
use Rattle.foundation.proofs.FloatSteps.{reduced-zero}
use Rattle.run_stretch.specs.Stretches.{gathered}
use Rattle.run_slots.proofs.Flags.{flag-set, flag_left}
use Rattle.run_stretch.proofs.Reducing.{reducing_start, reducing_turn, reducing_end, taken_off, length-gathered, gathered_at, below_at}
use Rattle.run_stretch.proofs.gather.reduce_gathered.Goals as goal
use Rattle.run_stretch.proofs.gather.reduce_gathered.Goals.{In-loop-q, then-new, else-new, then-u, else-u}

-- the place at hand has a subscript, and that a number in the work store
inside : (c : In-loop-q) → c.loop-q.q < length c.args.subs.now
inside c = still_below c.loop-q-test.true (sym c.loop-q.invariant.1)

found : (c : In-loop-q) → get_or c.args.subs.now c.loop-q.q 0 < length c.args.dense.now
found c = below_at _ _ c.requires.2 _ (inside c)

pub loop-q-init : goal.loop-q-init
loop-q-init c = (least _, c.requires.0, c.requires.0, reducing_start _ _ _ _)

pub offset_bounds-subs-q : goal.offset_bounds-subs-q
offset_bounds-subs-q c = index-fits (inside (goal.at.offset_bounds-subs-q c).In-loop-q) c.well_formed.1.0.1

pub bounds-subs-q : goal.bounds-subs-q
bounds-subs-q c = inside (goal.at.bounds-subs-q c).In-loop-q

pub offset_bounds-dense-x : goal.offset_bounds-dense-x
offset_bounds-dense-x c = index-fits (found (goal.at.offset_bounds-dense-x c).In-loop-q) c.well_formed.1.1.0.1

pub bounds-dense-x : goal.bounds-dense-x
bounds-dense-x c = found (goal.at.bounds-dense-x c).In-loop-q

pub offset_bounds-y-q : goal.offset_bounds-y-q
offset_bounds-y-q c = index-fits (inside (goal.at.offset_bounds-y-q c).In-loop-q) c.well_formed.1.0.1

pub bounds-y-q : goal.bounds-y-q
bounds-y-q c = c.loop-q-test.true

pub offset_bounds-y-q-in-loop-q : goal.offset_bounds-y-q-in-loop-q
offset_bounds-y-q-in-loop-q c = index-fits (inside (goal.at.offset_bounds-y-q-in-loop-q c).In-loop-q) c.well_formed.1.0.1

pub bounds-y-q-in-loop-q : goal.bounds-y-q-in-loop-q
bounds-y-q-in-loop-q c = c.loop-q-test.true

pub overflow_add-q : goal.overflow_add-q
overflow_add-q c = next_fits (inside (goal.at.overflow_add-q c).In-loop-q) c.well_formed.1.0.1

pub loop-q-smaller : goal.loop-q-smaller
loop-q-smaller c = less _ _ (inside (goal.at.loop-q-smaller c).In-loop-q)

pub loop-q-preserved : goal.loop-q-preserved
unfolding of_bits
loop-q-preserved c =
    let l = c.loop-q in
    let ss = c.args.subs.now in
    let dd = c.args.dense.now in
    let lg = length-gathered dd ss in
    let here = inside (goal.at.loop-q-preserved c).In-loop-q in
    let at : get_or (gathered dd ss) l.q nan ≡ get_or dd (get_or ss l.q 0) nan = gathered_at dd ss l.q here in (
      next_le _ _ here,
      simp length-set l.invariant.1,
      l.invariant.2,
      reducing_turn c.args.m _ _ _ _ _ _ l.invariant.3 (l.invariant.2 ∙ sym lg) (still_below here lg) _ _
          (rw at (elim c.if-u.branch [ then-u x ↦ x.new-is ∙ reduced-zero _ _ _ x.if-u.true | else-u x ↦ x.new-is ∙ taken_off _ _ _ c.requires.1 x.if-u.false ]))
          (elim c.if-new.branch [ then-new x ↦ x.bad-is ∙ flag-set _ _ x.if-new.true | else-new x ↦ x.bad-is ∙ flag_left _ _ x.if-new.false ]),
    )

pub returns : goal.returns
returns c =
    let l = c.loop-q in
    let lg = length-gathered c.args.dense.now c.args.subs.now in
    reducing_end _ _ _ _ _ _ _ l.invariant.3 (l.invariant.2 ∙ sym lg) (le_trans (le_of_eq (lg ∙ sym l.invariant.1)) c.loop-q-test.false)
