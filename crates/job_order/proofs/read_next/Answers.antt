-- `read_next` meets its contract.
use Rattle.std.proofs.Common.{◌∙◌, refl, rules}
use Rattle.job_commands.specs.Stores.{lists_in}
use Rattle.job_commands.specs.Progress.{state}
use Rattle.job_order.proofs.Placing.{turn-behind, none_left, byte_taken}
use Rattle.job_order.proofs.read_next.Goals as goal

pub returns-in_err-byte-clause-value : goal.returns-in_err-byte-clause-value
returns-in_err-byte-clause-value c = none_left c.args.p _ _ c.args.p.bytes.now (search rules) (search rules)

pub returns-clause-value : goal.returns-clause-value
unfolding state
returns-clause-value c =
    turn-behind c.args.p _ (lists_in c.read_command.new.stores) _ refl ∙ c.read_command.ensures.value
    ∙ byte_taken (state c.args.p (lists_in c.args.stores.now)) c.args.p.bytes.now c.in_ok-byte.rest.now c.in_ok-byte.byte.now (search rules)
