-- `judging::may_run` meets its contract. Assumes nothing.
use Rattle.run_judge.proofs.Tests.{may-whole, may-cut}
use Rattle.run_judge.proofs.judging.may_run.Goals as goal

pub returns-in-Whole : goal.returns-in-Whole
returns-in-Whole c = λ p width tall. may-whole _ p _ _ c.in-Whole.is width tall

pub returns-in-Cut : goal.returns-in-Cut
returns-in-Cut c = λ p width tall. may-cut _ p _ c.in-Cut.is
