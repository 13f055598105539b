-- `judging::list_fits` meets its contract. Assumes nothing.
use Rattle.run_judge.proofs.Tests.{list_none, list_long, list_range}
use Rattle.run_judge.proofs.judging.list_fits.Goals as goal

pub returns-in_default : goal.returns-in_default
returns-in_default c = λ p width tall. list_none _ _ p c.in_default.is

pub returns-then-rows-n : goal.returns-then-rows-n
returns-then-rows-n c = λ p width tall. list_long _ _ p _ c.in-Listed.is c.if-rows-n.true width

pub returns : goal.returns
returns c = λ p width tall. list_range _ _ p _ _ _ c.in-Listed.is c.if-rows-n.false width tall c.rows_in_range.ensures
