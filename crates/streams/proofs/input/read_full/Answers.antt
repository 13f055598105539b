-- `read_full` keeps its contract: what one more read brings stands behind what stood there, and the reader has lost both.
use Rattle.std.proofs.Common.{rules}
use Rattle.streams.proofs.Reading.{read-on}
use Rattle.streams.proofs.input.read_full.Goals as goal

pub loop-done-preserved : goal.loop-done-preserved
loop-done-preserved g c =
    let l = c.loop-done in
    (search rules, search rules, read-on _ _ _ l.done _ c.in_ok-got.got l.store c.read.new.buf l.invariant.1 c.in_ok-got.ensures.bound.0 l.invariant.2 c.in_ok-got.ensures.bytes.0)
