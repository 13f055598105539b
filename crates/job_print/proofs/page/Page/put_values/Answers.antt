-- `put_values` meets its contract.
use Rattle.std.proofs.Common.{arith}
use Rattle.job_print.proofs.Lining.{values_start, values-turn}
use Rattle.job_print.proofs.page.Page.put_values.Goals as goal

pub loop-i-init : goal.loop-i-init
loop-i-init c = (values_start c.args.self.now c.args.values.now, omega arith)

pub loop-i-preserved : goal.loop-i-preserved
loop-i-preserved c =
    let l = c.loop-i in
    (values-turn c.args.values.now l.i c.loop-i-test.true l.invariant.0 c.put_value.ensures.text, omega arith)
