-- `judging::cut_fits` meets its contract. Assumes nothing.
use Rattle.run_judge.proofs.Tests.{cut-whole, cut-steps}
use Rattle.run_judge.proofs.judging.cut_fits.Goals as goal

pub returns-in-Whole : goal.returns-in-Whole
returns-in-Whole c = λ p width. cut-whole _ p c.in-Whole.is

pub returns-in-Cut : goal.returns-in-Cut
returns-in-Cut c = λ p width. cut-steps _ p _ _ c.in-Cut.is width
