-- `minus_of` meets its contract.
use borrow.Author.Rules.{rules}
use Rattle.foundation.specs.Offset.{negative}
use Rattle.numbers.proofs.signs.minus_of.Goals as goal

pub returns-then-whole-lt0 : goal.returns-then-whole-lt0
unfolding negative
returns-then-whole-lt0 c = search rules

pub returns : goal.returns
unfolding negative
returns c = search rules
