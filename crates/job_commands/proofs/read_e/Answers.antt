-- `read_e` meets its contract.
use Rattle.std.proofs.Common.{arith, rules}
use Rattle.foundation.specs.Job.{read_e}
use Rattle.job_commands.specs.Progress.{state, going_on}
use Rattle.job_commands.specs.Stores.{with_entries}
use Rattle.job_commands.proofs.Commanding.{written, operand-cut, e_cut, e_read}
use Rattle.job_commands.proofs.read_e.Goals as goal

pub returns-in_err-column-clause-value : goal.returns-in_err-column-clause-value
unfolding read_e
returns-in_err-column-clause-value c s = operand-cut _ 2 c.args.p.bytes.now _ (search rules) (search rules)

pub returns-in_err-value-clause-value : goal.returns-in_err-value-clause-value
returns-in_err-value-clause-value c s =
    let before = with_entries s c.args.columns.now c.args.values.now in
    e_cut (state c.args.p before) c.args.p.bytes.now c.in_ok-column.rest.now before c.in_ok-column.rest.now (search rules) (search rules) (search rules) (search rules)

pub returns-clause-value : goal.returns-clause-value
unfolding going_on state
returns-clause-value c s =
    e_read (state c.args.p (with_entries s c.args.columns.now c.args.values.now)) c.args.p.bytes.now c.in_ok-value.rest.now c.in_ok-column.rest.now c.in_ok-column.column c.in_ok-value.value
    (search rules) (search rules) (search rules) (search rules) (search rules) (search rules) _ _
    (written c.args.columns.now c.args.p.entries c.in_ok-column.column (omega arith))
    (written c.args.values.now c.args.p.entries c.in_ok-value.value (omega arith))
