-- `sole_step` meets its contract: each of its tests is one of the definition's.
use borrow.Author.Tests.{eq-eqb, ne_eqb}
use Rattle.plan_gather.specs.Steps.{sole_of}
use Rattle.plan_gather.proofs.sets.sole_step.Goals as goal

pub returns-then-row-ne0 : goal.returns-then-row-ne0
unfolding sole_of
returns-then-row-ne0 c = rw (ne_eqb c.args.row 0 c.if-row-ne0.true)

pub returns-then-links-set-ne0 : goal.returns-then-links-set-ne0
unfolding sole_of
returns-then-links-set-ne0 c = rw (eq-eqb c.args.row 0 c.if-row-ne0.false, ne_eqb _ 0 c.if-links-set-ne0.true)

pub returns : goal.returns
unfolding sole_of
returns c = rw (eq-eqb c.args.row 0 c.if-row-ne0.false, eq-eqb _ 0 c.if-links-set-ne0.false)
