-- `read_p` meets its contract.
use Rattle.std.proofs.Common.{arith, rules}
use Rattle.foundation.specs.Job.{read_p}
use Rattle.job_commands.specs.Progress.{state, going_on}
use Rattle.job_commands.specs.Stores.{with_rows}
use Rattle.job_commands.proofs.Commanding.{written, operand-cut, p_read}
use Rattle.job_commands.proofs.read_p.Goals as goal

pub returns-in_err-row-clause-value : goal.returns-in_err-row-clause-value
unfolding read_p
returns-in_err-row-clause-value c s = operand-cut _ 2 c.args.p.bytes.now _ (search rules) (search rules)

pub returns-clause-value : goal.returns-clause-value
unfolding going_on state
returns-clause-value c s =
    let rows = c.args.rows.now in
    p_read (state c.args.p (with_rows s rows)) c.args.p.bytes.now c.in_ok-row.rest.now c.in_ok-row.row (search rules) (search rules) (search rules)
    _ (written rows c.args.p.chosen c.in_ok-row.row (omega arith))
