-- `first_above` meets its contract: all members passed are no greater than i.
use native.Mathlib.Omega.{arith}
use borrow.Author.Rules.{rules}
use Rattle.run_stretch.proofs.UpTo.{up_to_more}
use Rattle.run_stretch.proofs.first_above.Goals as goal

pub loop-q-init : goal.loop-q-init
loop-q-init c = (search rules, search rules, c.requires.1)

pub returns-then-i-list : goal.returns-then-i-list
returns-then-i-list c = (search rules, c.loop-q.invariant.2, λ h. c.if-i-list.true)

pub loop-q-preserved : goal.loop-q-preserved
loop-q-preserved c = (search rules, search rules, up_to_more _ _ _ c.loop-q.invariant.2 c.if-i-list.false)

pub returns : goal.returns
returns c = (search rules, c.loop-q.invariant.2, λ h. absurd (omega (arith, c.loop-q-test)))
