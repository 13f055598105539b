-- `search_behind` meets its contract: what is passed of the second list is among what is passed of the first.
use mathlib.Core.List.{append-nil}
use mathlib.Core.Path.{◌≡◌}
use native.Mathlib.Numerals.{add-one}
use native.Mathlib.Omega.{arith}
use lib.ListN.{length}
use lib.Seq.{drop-cons, drop-length}
use borrow.Author.Rules.{rules}
use Rattle.store_search.proofs.Passing.{passed_none, passed_on, passed_all, passed_behind, behind-nothing}
use Rattle.store_search.proofs.searching.search_behind.Goals as goal

pub returns-in_default : goal.returns-in_default
returns-in_default c = (search rules, behind-nothing _ _ (search rules))

pub loop-at-init : goal.loop-at-init
loop-at-init c = passed_none _ _

pub returns-then-last-x : goal.returns-then-last-x
returns-then-last-x c =
    let next = drop-cons c.args.more.now c.loop-at.at 0 c.loop-at-test.true in
    (search rules, rw next (passed_behind c.args.have.now _ _ _ _ (search rules) (search rules) (rw next at c.loop-at.invariant)))

pub loop-at-preserved : goal.loop-at-preserved
loop-at-preserved c =
    rw add-one (passed_on _ _ _ _ _ _ (search rules) (rw (drop-cons c.args.more.now c.loop-at.at 0 c.loop-at-test.true) at c.loop-at.invariant))

pub returns : goal.returns
returns c =
    let more = c.args.more.now in
    let end : c.loop-at.at ≡ length more = omega arith in
    (search rules, rw (drop-length more, append-nil) (passed_all _ _ _ (rw (end, drop-length more) at c.loop-at.invariant)))
