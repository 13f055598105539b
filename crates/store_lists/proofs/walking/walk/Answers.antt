-- `walk` meets its contract: the links tell the list.
use borrow.Author.Rules.{rules}
use Rattle.store_lists.specs.Chains.{linked_unique}
use Rattle.store_lists.proofs.walking.walk.Goals as goal

pub returns : goal.returns
returns c = λ xs h. search (rules, linked_unique)
