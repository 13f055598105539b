-- `judging::floats_fit` meets its contract. Assumes nothing.
use Rattle.run_judge.proofs.Tests.{floats_first, floats_none, floats-second}
use Rattle.run_judge.proofs.judging.floats_fit.Goals as goal

pub returns-then-copy-height : goal.returns-then-copy-height
returns-then-copy-height c = floats_first _ _ _ c.if-copy-height.true

pub returns-then-dense-eq0 : goal.returns-then-dense-eq0
returns-then-dense-eq0 c = floats_none _ _ _ c.if-dense-eq0.true

pub returns : goal.returns
returns c = floats-second _ _ _ c.if-copy-height.false c.if-dense-eq0.false
