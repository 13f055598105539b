-- `after_first` meets its contract: where the list's own step leads it, the part behind it is the list without it.
use native.Mathlib.Omega.{arith}
use Rattle.plan_gather.proofs.Joining.{Cut, cut_first, cut_none}
use Rattle.plan_gather.proofs.first.after_first.Goals as goal
use Rattle.plan_gather.proofs.first.after_first.Goals.{then-list-gt0+then-list-k, then-list-gt0+else-list-k, else-list-gt0}
use Rattle.plan_gather.proofs.first.after_first.Lts as lts
use Rattle.plan_gather.proofs.first.after_first.Reads as reads

abbrev Joined-list-gt0 : Type 0
Joined-list-gt0 = lts.Joined1 reads.Pre reads.Post

-- from where the list goes on
cut : (c : Joined-list-gt0) → Cut c.args.k c.if-list-gt0.from c.args.list.now
cut c =
    elim c.if-list-gt0.branch [
      | then-list-gt0+then-list-k w ↦ cut_first _ _ _ w.if-list-gt0.true w.if-list-k.true w.from-is
      | then-list-gt0+else-list-k w ↦ cut_none _ _ _ (λ _. w.if-list-k.false) w.from-is
      | else-list-gt0 w ↦ cut_none _ _ _ (λ h. omega arith) w.from-is
    ]

pub offset_bounds-list-from : goal.offset_bounds-list-from
offset_bounds-list-from c = let h = cut c.before.before in omega arith

pub slice_bounds-result-count : goal.slice_bounds-result-count
slice_bounds-result-count c = (cut c.before.before).inside

pub slice_bounds-result-start : goal.slice_bounds-result-start
slice_bounds-result-start c = (cut c.before.before).inside

pub returns : goal.returns
returns c = (cut c.before.before.before).is
