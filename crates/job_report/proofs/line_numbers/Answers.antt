-- `line_numbers` meets its contract.
use mathlib.Core.Path.{refl}
use Rattle.foundation.specs.Printing.{line_numbers}
use Rattle.job_report.proofs.line_numbers.Goals as goal

pub returns : goal.returns
unfolding line_numbers
returns c = refl
