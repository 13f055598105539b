-- `total_over` meets its contract: what is counted so far and what is left of the chain make the whole.
use borrow.Author.Rules.{rules}
use Rattle.store_lists.proofs.Chaining.{walk_start, walk_member, walk_fits, walk_turn, walk_end}
use Rattle.store_lists.proofs.chains.total_over.Goals as goal

pub loop-x-init : goal.loop-x-init
loop-x-init g c = (
  tt,
  tt,
  λ size all a. rw (c.into_iter-x-iterator.ensures.into_iter_gives, c.walk-x-items.ensures all a.linked) (walk_start a),
)

pub count-sum-requires : goal.count-sum-requires
count-sum-requires g c =
    let (size, all, a) = c.requires in
    a.callable _ (walk_member a.sized (c.loop-x.invariant.2 size all a.sized) {later = c.next.new.self.members.0} (search rules))

pub overflow_add-sum : goal.overflow_add-sum
overflow_add-sum g c =
    let (size, all, a) = c.requires in
    let fits = walk_fits a.sized (c.loop-x.invariant.2 size all a.sized) {later = c.next.new.self.members.0} (search rules) _ c.count-sum.ensures in
    search (rules, fits, a.small)

pub loop-x-preserved : goal.loop-x-preserved
loop-x-preserved g c = (tt, tt, λ size all a. walk_turn a (c.loop-x.invariant.2 size all a) (search rules) _ c.count-sum.ensures)

pub returns : goal.returns
returns g c = λ size all a. walk_end a (c.loop-x.invariant.2 size all a) (search rules)
