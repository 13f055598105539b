-- `largest_row` meets its contract: the loop's invariant is `Seeking`.
use mathlib.Core.Path.{refl}
use lib.Ieee.{of_bits}
use lib.Ieee.Bits.{is_true}
use borrow.Author.Rules.{rules}
use Rattle.run_pivot.proofs.Limit.{largest_faint}
use Rattle.run_pivot.proofs.Seeking.{seeking_own, seeking_none, seeking_taken, seeking_left, seeking_end, seeking_named}
use Rattle.run_pivot.proofs.choosing.largest_row.Goals as goal
use Rattle.run_pivot.proofs.choosing.largest_row.Goals.{then-top, else-top, then-top-a, else-top-a}

pub loop-q-init : goal.loop-q-init
unfolding of_bits largest_faint
loop-q-init c =
    let e = c.size-top.ensures in (
      search rules,
      search rules,
      elim c.if-top.branch [
        | then-top x ↦ seeking_named _ _ _ _ _ _ _ _ _ _ _ x.row-is refl x.top-is (seeking_own c.args.k c.args.own _ _ c.requires.1 c.requires.3 c.well_formed.1.0.1
            0 _ e x.if-top.true)
        | else-top x ↦ seeking_named _ _ _ _ _ _ _ _ _ _ _ x.row-is refl x.top-is (seeking_none c.args.k c.args.own _ _ c.requires.1 c.requires.3 c.well_formed.1.0.1
            0 _ e x.if-top.false)
      ],
    )

pub loop-q-preserved : goal.loop-q-preserved
loop-q-preserved c =
    let p = c.requires in
    let l = c.loop-q in
    let e = c.size-a.ensures in (
      search rules,
      search rules,
      let held = is_true _ (c.type_inv.slots l.q) in
          elim c.if-top-a.branch [
            | then-top-a x ↦ seeking_named _ _ _ _ _ _ _ _ _ _ _ x.row-is x.place-is x.top-is (seeking_taken _ _ _ _ _ _ _ l.q l.invariant.2 l.invariant.1 p.2 p.4
                (search rules) held _ e x.if-top-a.true)
            | else-top-a x ↦ seeking_named _ _ _ _ _ _ _ _ _ _ _ x.row-is x.place-is x.top-is (seeking_left _ _ _ _ _ _ _ l.q l.invariant.2 l.invariant.1 p.2 p.4
                (search rules) held _ e x.if-top-a.false)
          ],
    )

pub returns : goal.returns
returns c = let l = c.loop-q in seeking_end _ _ _ _ _ _ _ _ l.invariant.2 (search rules)
