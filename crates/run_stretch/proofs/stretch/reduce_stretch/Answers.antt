-- `reduce_stretch` meets its contract: the loop's invariant is `Reducing`.
use mathlib.Core.Path.{◌∙◌}
use lib.Ieee.{of_bits}
use borrow.Author.Rules.{rules}
use Rattle.foundation.proofs.FloatSteps.{reduced-zero}
use Rattle.run_slots.proofs.Flags.{flag-set, flag_left}
use Rattle.run_stretch.proofs.Reducing.{reducing_start, reducing_turn, reducing_end, taken_off}
use Rattle.run_stretch.proofs.stretch.reduce_stretch.Goals as goal
use Rattle.run_stretch.proofs.stretch.reduce_stretch.Goals.{then-new, else-new, then-u, else-u}

pub loop-q-init : goal.loop-q-init
loop-q-init c = (search rules, search rules, search rules, reducing_start _ _ _ _)

pub loop-q-preserved : goal.loop-q-preserved
unfolding of_bits
loop-q-preserved c =
    let l = c.loop-q in
    let r = l.invariant.3 in (
      search rules,
      search rules,
      search rules,
      reducing_turn c.args.m _ _ _ _ _ _ r l.invariant.2 (search rules) _ _
          (elim c.if-u.branch [ then-u x ↦ x.new-is ∙ reduced-zero _ _ _ x.if-u.true | else-u x ↦ x.new-is ∙ taken_off _ _ _ c.requires.1 x.if-u.false ])
          (elim c.if-new.branch [ then-new x ↦ x.bad-is ∙ flag-set _ _ x.if-new.true | else-new x ↦ x.bad-is ∙ flag_left _ _ x.if-new.false ]),
    )

pub returns : goal.returns
returns c =
    let l = c.loop-q in
    reducing_end _ _ _ _ _ _ _ l.invariant.3 l.invariant.2 (search rules)
