-- `read_z` meets its contract.
use Rattle.job_commands.proofs.Commanding.{z_done, z_refused}
use Rattle.job_commands.proofs.read_z.Goals as goal

pub returns-in-empty : goal.returns-in-empty
returns-in-empty c = λ s. z_done _ s _ c.in-empty.len_below

pub returns-in_default : goal.returns-in_default
returns-in_default c = λ s. z_refused _ s _ c.in_default.len_at_least
