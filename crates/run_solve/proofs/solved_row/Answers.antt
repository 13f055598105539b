-- `run_solve::solved_row` meets its contract: what is still to be taken off is one equation.
use mathlib.Core.Path.{◌∙◌}
use native.Mathlib.Omega.{arith}
use lib.Ieee.{of_bits}
use borrow.Author.Rules.{rules}
use Rattle.run_slots.proofs.Products.{less_zero, less_nonzero}
use Rattle.run_solve.proofs.Rows.{less_turn, less_end}
use Rattle.run_solve.proofs.solved_row.Goals as goal
use Rattle.run_solve.proofs.solved_row.Goals.{then-u, else-u}

pub overflow_sub-known : goal.overflow_sub-known
overflow_sub-known c =
    let f = c.requires.1 c.loop-q.q (omega arith) in
    omega arith

pub offset_bounds-x-j : goal.offset_bounds-x-j
offset_bounds-x-j c =
    let f = c.requires.1 c.loop-q.q (omega arith) in
    search rules

pub bounds-x-j : goal.bounds-x-j
bounds-x-j c =
    let f = c.requires.1 c.loop-q.q (omega arith) in
    search rules

pub loop-q-preserved : goal.loop-q-preserved
unfolding of_bits
loop-q-preserved c = (
  search rules,
  less_turn _ _ _ _ _ _ _ c.requires.0 (omega arith) c.loop-q.invariant.1
      (elim c.if-u.branch [ then-u x ↦ x.next-is ∙ less_zero _ _ _ x.if-u.true | else-u x ↦ x.next-is ∙ less_nonzero _ _ _ x.if-u.false ]),
)

pub returns : goal.returns
returns c = less_end _ _ _ _ _ _ c.loop-q.q (omega arith) c.loop-q.invariant.1
