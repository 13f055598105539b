-- `signed` meets its contract: the sign is the one that was asked for.
use borrow.Author.Rules.{rules}
use Rattle.foundation.specs.Offset.{signed}
use Rattle.offsets.proofs.wholes.signed.Goals as goal

pub returns-then-minus : goal.returns-then-minus
unfolding signed
returns-then-minus c = search rules

pub returns : goal.returns
unfolding signed
returns c = search rules
