-- `float_of` meets its contract. The machine reads the number back from its bits.
use borrow.Author.Rules.{rules}
use Rattle.foundation.specs.Numbers.{float_of}
use Rattle.offsets.proofs.wholes.float_of.Goals as goal

pub returns : goal.returns
unfolding float_of
returns c = search rules
