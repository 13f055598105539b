-- `judging::numbers_fit` meets its contract. Assumes nothing.
use Rattle.run_judge.proofs.Tests.{finite_first, finite-second}
use Rattle.run_judge.proofs.judging.numbers_fit.Goals as goal

pub returns-then-not-all_finite : goal.returns-then-not-all_finite
returns-then-not-all_finite c = finite_first _ _ _ c.all_finite.ensures c.if-not-all_finite.true

pub returns : goal.returns
returns c = finite-second _ _ _ _ c.all_finite.ensures c.if-not-all_finite.false c.all_finite-2.ensures
