-- `read_b` meets its contract.
use Rattle.std.proofs.Common.{arith, rules}
use Rattle.foundation.specs.Job.{read_b}
use Rattle.job_commands.specs.Progress.{state, going_on}
use Rattle.job_commands.specs.Stores.{with_ends}
use Rattle.job_commands.proofs.Commanding.{written, starts_more, operand-cut, b_read}
use Rattle.job_commands.proofs.read_b.Goals as goal

pub returns-in_err-side-clause-value : goal.returns-in_err-side-clause-value
unfolding read_b
returns-in_err-side-clause-value c s k = operand-cut _ 8 c.args.p.bytes.now _ (search rules) (search rules)

pub returns-clause-value : goal.returns-clause-value
unfolding going_on state
returns-clause-value c s k =
    let starts = c.args.starts.now in
    let right = c.args.right.now in
    b_read (state c.args.p (with_ends s starts right)) c.args.p.bytes.now c.in_ok-side.rest.now c.in_ok-side.side (search rules) (search rules) (search rules)
    _ _ (starts_more starts s.columns c.args.p.closed c.args.p.entries (omega arith) k) (written right c.args.p.closed c.in_ok-side.side (omega arith))
