-- `copy_in` meets its contract.
use mathlib.Core.Path.{◌≡◌, ◌∙◌}
use native.Mathlib.Omega.{arith}
use lib.ListN.{length}
use borrow.Author.Rules.{rules}
use lib.ListN.{length-set}
use lib.Seq.{take-length}
use Rattle.run_stretch.proofs.Laying.{copy-turn}
use Rattle.run_stretch.proofs.work.copy_in.Goals as goal

pub loop-i-preserved : goal.loop-i-preserved
loop-i-preserved c = (
  search rules,
  simp length-set c.loop-i.invariant.1,
  copy-turn c.loop-i.to c.args.from.now c.loop-i.i (search rules) (search rules) c.loop-i.invariant.2,
)

pub returns : goal.returns
returns c =
    let e : c.loop-i.i ≡ length c.args.from.now = omega arith in rw (← e) (c.loop-i.invariant.2 ∙ rw e (take-length c.args.from.now))
