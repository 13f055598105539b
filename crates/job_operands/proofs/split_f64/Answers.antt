-- `split_f64` meets its contract.
use Rattle.std.proofs.Common.{arith}
use Rattle.job_operands.proofs.Bytes.{little_eight}
use Rattle.job_operands.proofs.split_f64.Goals as goal

pub returns : goal.returns
returns c =
    let got = c.in_ok-operand.ensures.cases in
    let read = little_eight c.in_ok-operand.operand.now (search arith) in
    (cc, got.1, got.2)
