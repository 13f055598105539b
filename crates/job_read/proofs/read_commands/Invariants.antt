-- `read_commands` meets its contract: between two commands reading what is left gives the answer of the whole job, and the bytes left are the measure.
use Rattle.std.proofs.Common.{length}
use Rattle.job_commands.specs.Stores.{lists_in, SameStores}
use Rattle.job_read.specs.Ending.{BetweenCommands}
use Rattle.job_read.proofs.read_commands.Given as goal

abbrev pub invariant-loop-next : goal.invariant-loop-next
invariant-loop-next l = BetweenCommands l.job (lists_in l.stores) l.p × SameStores l.initial.stores l.stores

abbrev pub decreases-loop-next : goal.decreases-loop-next
decreases-loop-next l = length l.p.bytes.now
