-- `append` meets its contract: what is passed of the list stands in the store from `at` on.
use Rattle.std.proofs.Common.{arith}
use Rattle.std.proofs.lemmas.List.Edits.{paste_none, paste_more}
use Rattle.store_lists.proofs.unions.append.Goals as goal

pub loop-i-init : goal.loop-i-init
loop-i-init c = paste_none c.args.out.now c.args.at c.args.list.now

pub loop-i-preserved : goal.loop-i-preserved
loop-i-preserved c = rw c.loop-i.invariant (paste_more c.args.out.now c.args.at c.args.list.now c.loop-i.i 0 (omega arith) c.loop-i-test.true)
