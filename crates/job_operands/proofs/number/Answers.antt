-- `number` meets its contract.
use mathlib.Core.Path.{refl}
use lib.Ieee.{of_bits, div}
use borrow.Author.Rules.{rules}
use Rattle.foundation.specs.Numbers.{of_pattern}
use Rattle.foundation.proofs.Bits.{pattern_number}
use Rattle.job_operands.proofs.Bytes.{pattern-nan}
use Rattle.job_operands.proofs.number.Goals as goal

pub returns-then-bits-gt-INFINITE : goal.returns-then-bits-gt-INFINITE
unfolding div of_bits
returns-then-bits-gt-INFINITE c = pattern-nan _ (search rules)

pub float_from_bits-result : goal.float_from_bits-result
float_from_bits-result c = pattern_number _ (search rules)

pub returns : goal.returns
unfolding of_pattern of_bits
returns c = refl
