-- `count_nonzero` meets its contract: the loop's invariant is `Counting`.
use mathlib.Core.Path.{◌∙◌}
use lib.Ieee.{of_bits}
use borrow.Author.Rules.{rules}
use Rattle.run_column.proofs.Dividing.{counting_start, counting_turn, counting_end, counted, uncounted}
use Rattle.run_column.proofs.loops.count_nonzero.Goals as goal
use Rattle.run_column.proofs.loops.count_nonzero.Goals.{then-values-q, else-values-q}

pub loop-q-init : goal.loop-q-init
loop-q-init c = (search rules, counting_start _)

pub overflow_add-count : goal.overflow_add-count
overflow_add-count c = let b = c.loop-q.invariant.1.bound in search rules

pub loop-q-preserved : goal.loop-q-preserved
unfolding of_bits
loop-q-preserved c = (
  search rules,
  counting_turn _ _ _ _ c.loop-q.invariant.1 (search rules)
      (elim c.if-values-q.branch [ then-values-q x ↦ x.count-is ∙ counted _ _ x.if-values-q.true | else-values-q x ↦ x.count-is ∙ uncounted _ _ x.if-values-q.false ]),
)

pub returns : goal.returns
returns c = counting_end _ _ _ c.loop-q.invariant.1 (search rules)
