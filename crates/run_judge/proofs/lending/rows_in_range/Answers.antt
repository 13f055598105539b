-- `lending::rows_in_range` meets its contract: what is still to be tested decides.
use native.Mathlib.Omega.{arith}
use Rattle.run_judge.proofs.Judged.{row_low, row_high, row_fits, rows_end}
use Rattle.run_judge.proofs.lending.rows_in_range.Goals as goal

pub returns-then-row-k : goal.returns-then-row-k
returns-then-row-k c = row_low _ _ _ c.loop-k.invariant.1 (omega arith) c.if-row-k.true

pub returns-then-height-row : goal.returns-then-height-row
returns-then-height-row c = row_high _ _ _ c.loop-k.invariant.1 (omega arith) c.if-row-k.false c.if-height-row.true

pub loop-k-preserved : goal.loop-k-preserved
loop-k-preserved c = (omega arith, row_fits _ _ _ c.loop-k.invariant.1 (omega arith) c.if-row-k.false c.if-height-row.false)

pub returns : goal.returns
returns c = rows_end _ _ _ c.loop-k.invariant.1 (omega arith)
