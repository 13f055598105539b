-- `tell_offset` meets its contract: sign and size are found, then laid.
use borrow.Author.Rules.{rules}
use Rattle.numbers.specs.Numbered.{offset_numbers}
use Rattle.numbers.proofs.telling.tell_offset.Goals as goal

pub returns-clause-numbers : goal.returns-clause-numbers
unfolding offset_numbers
returns-clause-numbers c = search rules
