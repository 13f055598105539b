-- `bits_of` meets its contract.
use Rattle.std.proofs.Common.{refl, rules}
use Rattle.foundation.specs.Numbers.{bits_of}
use Rattle.job_print.proofs.Bits.{nan_bits}
use Rattle.job_print.proofs.digits.bits_of.Goals as goal

pub returns-then-is_nan : goal.returns-then-is_nan
returns-then-is_nan c = nan_bits _ (search rules)

pub returns-else-is_nan : goal.returns-else-is_nan
unfolding bits_of
returns-else-is_nan c = refl
