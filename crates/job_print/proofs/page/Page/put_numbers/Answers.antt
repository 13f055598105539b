-- `put_numbers` meets its contract.
use Rattle.std.proofs.Common.{arith}
use Rattle.job_print.proofs.Lining.{numbers_start, numbers-turn}
use Rattle.job_print.proofs.page.Page.put_numbers.Goals as goal

pub loop-n-init : goal.loop-n-init
loop-n-init c = (numbers_start c.args.self.now c.args.numbers.now, omega arith)

pub loop-n-preserved : goal.loop-n-preserved
loop-n-preserved c =
    let l = c.loop-n in
    (numbers-turn c.args.numbers.now l.n-index c.loop-n-test.true l.invariant.0 c.put_spaced.ensures.text, omega arith)
