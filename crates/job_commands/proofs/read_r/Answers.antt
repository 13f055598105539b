-- `read_r` meets its contract.
use Rattle.std.proofs.Common.{suc, ap, sym, ◌∙◌, add-one, rules, length-take-le}
use Rattle.foundation.specs.Job.{read_r}
use Rattle.job_commands.specs.Progress.{state, going_on}
use Rattle.job_commands.proofs.Commanding.{operand-cut, r_refused, r_read}
use Rattle.job_commands.proofs.read_r.Goals as goal

pub returns-in_err-row-clause-value : goal.returns-in_err-row-clause-value
unfolding read_r
returns-in_err-row-clause-value c = λ s h. operand-cut s 2 c.args.p.bytes.now _ (search rules) (search rules)

pub returns-then-row-p-clause-value : goal.returns-then-row-p-clause-value
unfolding state
returns-then-row-p-clause-value c = λ s h.
    r_refused (state c.args.p s) c.args.p.bytes.now c.in_ok-row.rest.now c.in_ok-row.row (search rules) (search rules) (search rules) s (λ e. c.if-row-p.true (e ∙ ap suc (length-take-le c.args.p.closed s.right h) ∙ sym (add-one c.args.p.closed)))

pub returns-clause-value : goal.returns-clause-value
unfolding going_on state
returns-clause-value c = λ s h.
    r_read (state c.args.p s) c.args.p.bytes.now c.in_ok-row.rest.now c.in_ok-row.row (search rules) (search rules) (search rules) (c.if-row-p.false ∙ add-one c.args.p.closed ∙ ap suc (sym (length-take-le c.args.p.closed s.right h)))
