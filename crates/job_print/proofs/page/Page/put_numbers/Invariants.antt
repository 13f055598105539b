-- `put_numbers` meets its contract: before each number those in front of it stand, each in 21 places at most.
use Rattle.std.proofs.Common.{◌+◌, ◌*◌, ◌≤◌, take}
use Rattle.lists.specs.Functions.{chain}
use Rattle.foundation.specs.Printing.{spaced}
use Rattle.job_print.specs.Page.{Wrote}
use Rattle.job_print.proofs.page.Page.put_numbers.Given as goal

abbrev pub invariant-loop-n : goal.invariant-loop-n
invariant-loop-n l = Wrote l.initial.self l.self (chain spaced (take l.n-index l.numbers)) × (l.self.end ≤ l.initial.self.end + 21 * l.n-index)
