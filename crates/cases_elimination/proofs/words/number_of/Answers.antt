-- `words::number_of` is safe: the pattern is no NaN's.
use Rattle.std.proofs.Common.{rules}
use Rattle.foundation.proofs.Bits.{pattern_number}
use Rattle.cases_elimination.proofs.words.number_of.Goals as goal

pub float_from_bits-result : goal.float_from_bits-result
float_from_bits-result c = pattern_number _ (search rules)
