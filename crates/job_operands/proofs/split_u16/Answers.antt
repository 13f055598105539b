-- `split_u16` meets its contract.
use Rattle.std.proofs.Common.{arith}
use Rattle.job_operands.proofs.Bytes.{little_two}
use Rattle.job_operands.proofs.split_u16.Goals as goal

pub returns : goal.returns
returns c =
    let got = c.in_ok-operand.ensures.cases in
    let read = little_two c.in_ok-operand.operand.now (search arith) in
    (cc, omega arith, got.1, got.2)
