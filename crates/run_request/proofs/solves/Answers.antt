-- `run_request::solves` meets its contract. Assumes nothing.
use Rattle.run_request.specs.Asking.{is_whole}
use Rattle.run_request.proofs.solves.Goals as goal

pub returns-in-Whole : goal.returns-in-Whole
unfolding is_whole
returns-in-Whole c = rw c.in-Whole.is

pub returns-in-Cut : goal.returns-in-Cut
unfolding is_whole
returns-in-Cut c = rw c.in-Cut.is
