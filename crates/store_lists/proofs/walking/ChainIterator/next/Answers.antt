-- `next` of a chain meets its contract: it gives the first member of what is left, and leaves the others.
use mathlib.Core.Path.{ap}
use lib.ListN.{length}
use borrow.Author.Rules.{rules}
use Rattle.store_lists.proofs.Chaining.{linked_end, linked_next, linked_rest}
use Rattle.store_lists.proofs.walking.ChainIterator.next.Goals as goal

pub returns-then-member-eq0-clause-steps : goal.returns-then-member-eq0-clause-steps
returns-then-member-eq0-clause-steps c =
    let chain = c.args.self.now.members in
    let none = linked_end _ _ chain.0 c.if-member-eq0.true chain.1 in
    (none, none)

pub offset_bounds-self-member : goal.offset_bounds-self-member
offset_bounds-self-member c =
    let inside = (linked_next _ _ _ c.if-member-eq0.false c.args.self.now.members.1).2 in
    search rules

pub bounds-self-member : goal.bounds-self-member
bounds-self-member c = (linked_next _ _ _ c.if-member-eq0.false c.args.self.now.members.1).2

pub invariant_of-self : goal.invariant_of-self
invariant_of-self c =
    let left = linked_next _ _ _ c.if-member-eq0.false c.args.self.now.members.1 in
    record { members = (left.0, left.3) }

pub returns-clause-steps : goal.returns-clause-steps
returns-clause-steps c = search (rules, linked_rest)

pub returns-clause-goes : goal.returns-clause-goes
returns-clause-goes c = let shorter = ap length (returns-clause-steps c) in search rules
