-- A row above n needs no diagonal; of any other row the test is the list's.
use borrow.Author.Tests.{lt-ltb, le-ltb}
use Rattle.plan_pattern.proofs.judge.has_diagonal.Goals as goal

pub returns-then-n-i : goal.returns-then-n-i
returns-then-n-i c = rw (lt-ltb _ _ c.if-n-i.true)

pub returns : goal.returns
returns c = rw (le-ltb _ _ c.if-n-i.false) c.has_member.ensures
