-- `hex_digit` meets its contract.
use Rattle.std.proofs.Common.{rules}
use Rattle.job_print.proofs.Hexadecimals.{hex_below, hex_above}
use Rattle.job_print.proofs.digits.hex_digit.Goals as goal

pub returns-in-0-to-9 : goal.returns-in-0-to-9
returns-in-0-to-9 c = hex_below _ (search rules)

pub returns-in_default : goal.returns-in_default
returns-in_default c = hex_above _ (search rules)
