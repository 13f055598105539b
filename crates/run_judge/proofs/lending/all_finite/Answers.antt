-- `lending::all_finite` meets its contract: what is still to be tested decides.
use native.Mathlib.Omega.{arith}
use lib.Ieee.{of_bits}
use Rattle.run_judge.proofs.Judged.{finite-turn, finite-stop, finite_end}
use Rattle.run_judge.proofs.lending.all_finite.Goals as goal

pub returns-then-value : goal.returns-then-value
unfolding of_bits
returns-then-value c = finite-stop _ _ c.loop-q.invariant.1 (omega arith) c.if-value.true

pub loop-q-preserved : goal.loop-q-preserved
unfolding of_bits
loop-q-preserved c = (omega arith, finite-turn _ _ c.loop-q.invariant.1 (omega arith) c.if-value.false)

pub returns : goal.returns
returns c = finite_end _ c.loop-q.q c.loop-q.invariant.1 (omega arith)
