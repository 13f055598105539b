-- `read_n` meets its contract.
use Rattle.std.proofs.Common.{◌≡◌, ◌||◌, true, false, arith, rules}
use Rattle.std.proofs.lemmas.Bool.Decides.{nat_tests}
use lib.Dec.{eqb, ltb}
use Rattle.foundation.specs.Job.{read_n, max_job_n}
use Rattle.job_commands.specs.Progress.{state, going_on}
use Rattle.job_commands.proofs.Commanding.{operand-cut, n_refused, n_read}
use Rattle.job_commands.proofs.read_n.Goals as goal

pub returns-in_err-n-clause-value : goal.returns-in_err-n-clause-value
unfolding read_n
returns-in_err-n-clause-value c = λ s. operand-cut s 2 c.args.p.bytes.now _ (search rules) (search rules)

pub returns-then-n-eq0-clause-value : goal.returns-then-n-eq0-clause-value
returns-then-n-eq0-clause-value c = λ s.
    let t : eqb c.in_ok-n.n 0 || ltb max_job_n c.in_ok-n.n ≡ true = grind (arith, nat_tests) in
    n_refused (state c.args.p s) c.args.p.bytes.now c.in_ok-n.rest.now c.in_ok-n.n (search rules) (search rules) (search rules) s t

pub returns-clause-value : goal.returns-clause-value
unfolding going_on state
returns-clause-value c = λ s.
    let t : eqb c.in_ok-n.n 0 || ltb max_job_n c.in_ok-n.n ≡ false = grind (arith, nat_tests) in
    n_read (state c.args.p s) c.args.p.bytes.now c.in_ok-n.rest.now c.in_ok-n.n (search rules) (search rules) (search rules) t
