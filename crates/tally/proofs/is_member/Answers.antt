-- `is_member` keeps its contract.
use borrow.Author.Tests.{le-leb, lt-leb}
use Rattle.foundation.specs.Tally.{is_member}
use Rattle.tally.proofs.is_member.Goals as goal

pub returns-then-member-ge1 : goal.returns-then-member-ge1
unfolding is_member
returns-then-member-ge1 c = rw (le-leb 1 c.args.member c.if-member-ge1.true)

pub returns-else-member-ge1 : goal.returns-else-member-ge1
unfolding is_member
returns-else-member-ge1 c = rw (lt-leb 1 c.args.member c.if-member-ge1.false)
