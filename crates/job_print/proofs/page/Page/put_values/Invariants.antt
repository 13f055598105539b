-- `put_values` meets its contract: before each row the lines of those in front of it stand, each in 40 places at most.
use Rattle.std.proofs.Common.{◌+◌, ◌*◌, ◌≤◌, take}
use Rattle.job_print.specs.Lines.{value_lines}
use Rattle.job_print.specs.Page.{Wrote}
use Rattle.job_print.proofs.page.Page.put_values.Given as goal

abbrev pub invariant-loop-i : goal.invariant-loop-i
invariant-loop-i l = Wrote l.initial.self l.self (value_lines 1 (take l.i l.values)) × (l.self.end ≤ l.initial.self.end + 40 * l.i)
