-- `read_input` keeps its contract: what one more read brings stands behind what stood there, and the reader has lost both.
use Rattle.std.proofs.Common.{◌≡◌, ◌+◌, ◌-◌, rules, arith, length, take, subst}
use Rattle.std.specs.Io.KnownBytes.{Consumes}
use borrow.Rule.Slice.PartMut.{put_mid}
use Rattle.streams.proofs.Reading.{read-on}
use Rattle.program.proofs.input.read_input.Goals as goal

pub loop-done-preserved : goal.loop-done-preserved
loop-done-preserved g c =
    let l = c.loop-done in
    (search rules, search rules, read-on _ _ _ l.done _ c.in-Whole.more l.store c.read_some-got.new.part l.invariant.0 (search rules) l.invariant.2 c.in-Whole.ensures.bytes)

-- the read that ends it brings nothing
pub returns-then-more-eq0-clause-bytes : goal.returns-then-more-eq0-clause-bytes
returns-then-more-eq0-clause-bytes g c =
    let l = c.loop-done in
    let room = length l.store - l.done in
    let part = c.read_some-got.new.part in
    let read = read-on _ _ _ l.done room c.in-Whole.more l.store part l.invariant.0 (search rules) l.invariant.2 c.in-Whole.ensures.bytes in
    let same : l.done + c.in-Whole.more ≡ l.done = omega (arith, c.if-more-eq0.true) in
    subst (λ n. Consumes (g.R.Read.remaining c.args.reader.now) (g.R.Read.remaining c.read_some-got.new.reader) (take n (put_mid l.done room l.store part))) same read
