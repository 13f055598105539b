-- `merge_in` meets its contract: the union with the members of the second list that are passed is written, but for what is left of the first, which stands in the store.
use native.Mathlib.Numerals.{add-one}
use lib.Seq.{drop-cons}
use Rattle.store_lists.proofs.Merging.{left_fits, merge_appended, rest_fits, merge_end}
use Rattle.store_lists.proofs.unions.merge_in.Goals as goal

pub append-requires : goal.append-requires
append-requires c = left_fits _ _ c.loop-at.at _ _ c.args.more.now c.loop-at.invariant c.if-store-merged.true

pub returns-then-store-merged : goal.returns-then-store-merged
returns-then-store-merged c = merge_appended _ _ c.loop-at.at _ _ c.args.more.now c.loop-at.invariant c.if-store-merged.true _ _ c.append.ensures

pub loop-at-preserved : goal.loop-at-preserved
loop-at-preserved c =
    c.write_next-merged.ensures _ _ (rw (drop-cons c.args.more.now c.loop-at.at 0 c.loop-at-test.true, ← add-one) at c.loop-at.invariant)

pub copy_within-requires-2-clause-dest_in_bounds : goal.copy_within-requires-2-clause-dest_in_bounds
copy_within-requires-2-clause-dest_in_bounds c = rest_fits _ _ _ _ _ _ c.loop-at.invariant c.loop-at-test.false

pub returns : goal.returns
returns c = merge_end _ _ _ _ _ _ c.loop-at.invariant c.loop-at-test.false _ c.copy_within-2.ensures.after
