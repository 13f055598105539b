-- `chain_rows` meets its contract: the rows behind row i stand in the chains of their least columns.
use mathlib.Core.Path.{ap, ◌∙◌}
use Prim.Native.Nat.{ℕ, zero-le}
use native.Mathlib.Nat.{le_refl, le_trans, le_antisymm, sub-le}
use native.Mathlib.Omega.{arith}
use lib.ListN.{replicate}
use borrow.Author.Count.{falls_down}
use Rattle.foundation.specs.Pattern.{lent}
use Rattle.plan_gather.specs.Ready.{lent_by}
use Rattle.plan_gather.proofs.Chaining.{starts_size, rows_start, rows_end}
use Rattle.plan_gather.proofs.rows.chain_rows.Goals as goal

pub overflow_sub-i : goal.overflow_sub-i
unfolding lent_by lent
overflow_sub-i c = omega (arith, starts_size _ c.requires.ready)

pub loop-i-init : goal.loop-i-init
unfolding lent_by lent
loop-i-init c =
    let zero = c.clear_chains.ensures in
    let pre = c.requires in
    let size = starts_size _ pre.ready in (
      le_refl _,
      pre.ready,
      rows_start _ pre.ready _ _ (zero.0 ∙ ap (λ (m : ℕ). replicate m 0) (pre.heads_len.0 ∙ size)) (zero.1 ∙ ap (λ (m : ℕ). replicate m 0) (pre.heads_len.1 ∙ size)),
    )

pub chain_row-requires : goal.chain_row-requires
unfolding lent_by lent
chain_row-requires c =
    let l = c.loop-i in record {
      ready = (l.invariant.1, c.loop-i-test.true, l.invariant.0);
      chained = l.invariant.2;
    }

pub overflow_sub-i-in-loop-i : goal.overflow_sub-i-in-loop-i
overflow_sub-i-in-loop-i c = c.loop-i-test.true

pub loop-i-smaller : goal.loop-i-smaller
loop-i-smaller c = falls_down _ c.loop-i-test.true

pub loop-i-preserved : goal.loop-i-preserved
unfolding lent_by lent
loop-i-preserved c =
    let l = c.loop-i in
    (le_trans (sub-le l.i 1) l.invariant.0, l.invariant.1, c.chain_row.ensures)

pub returns : goal.returns
unfolding lent_by lent
returns c = rows_end _ c.loop-i.invariant.1 _ _ _ (le_antisymm c.loop-i-test.false zero-le) c.loop-i.invariant.2
