-- `fill` keeps its contract: one more value stands behind those that were read.
use Rattle.std.proofs.Common.{rules}
use Rattle.streams.proofs.Filling.{fill_on}
use Rattle.streams.proofs.values.fill.Goals as goal

pub loop-place-preserved : goal.loop-place-preserved
loop-place-preserved g c =
    let l = c.loop-place in
    fill_on _ _ _ _ _ _ l.places l.place-index c.in-Some.value c.from.result (search rules) l.invariant (search rules) (search rules)
