-- `write_next` meets its contract: what is left of the first list is further on in the union, and stands in the store.
use mathlib.Core.Path.{◌≡◌}
use native.Mathlib.Nat.{add-zero}
use native.Mathlib.Omega.{arith}
use lib.Dec.{eqb}
use lib.ListN.{get_or}
use borrow.Author.Rules.{rules}
use Rattle.lists.proofs.Members.{by_test}
use Rattle.store_lists.proofs.Merging.{merge_place, merge_first, merge_common, merge_second}
use Rattle.store_lists.proofs.unions.write_next.Goals as goal

pub loop-read-init : goal.loop-read-init
loop-read-init c = (merge_place _ _ _ _ _ _ c.requires.2, λ whole later m. m)

pub loop-read-preserved : goal.loop-read-preserved
loop-read-preserved c =
    let i = c.loop-read.invariant in (
      merge_place _ _ _ _ _ _ (merge_first _ _ _ _ _ _ (i.1 _ _ c.requires.2) c.loop-read-test.true c.if-y-x.false),
      λ whole later m. merge_first _ _ _ _ whole later (i.1 whole later m) c.loop-read-test.true c.if-y-x.false,
    )

pub returns-then-y-x : goal.returns-then-y-x
returns-then-y-x c = λ whole later m.
    let at = c.loop-read.invariant.1 whole later m in
    let x = get_or c.loop-read.store c.loop-read.read 0 in
    by_test (eqb x c.args.y)
    (λ e. rw (c.from.ensures, e) (merge_common _ _ _ _ whole later at c.loop-read-test.true (search rules)))
    (λ e.
    let other : x ≡ c.args.y → ⊥ = search rules in
    rw (c.from.ensures, e, add-zero) (merge_second _ _ _ _ whole later at (λ l. omega (arith, c.if-y-x.true, other))))

pub returns : goal.returns
returns c = λ whole later m. merge_second _ _ _ _ whole later (c.loop-read.invariant.1 whole later m) (λ l. absurd (omega (arith, c.loop-read-test.false, l)))
