-- `run_request::steps_of` meets its contract. Assumes nothing.
use Rattle.foundation.specs.Reference.{steps_of}
use Rattle.answers.specs.Runs.{extent_of}
use Rattle.run_request.proofs.steps_of.Goals as goal

pub returns-in-Whole : goal.returns-in-Whole
unfolding steps_of extent_of
returns-in-Whole c = rw c.in-Whole.is

pub returns-in-Cut : goal.returns-in-Cut
unfolding steps_of extent_of
returns-in-Cut c = rw c.in-Cut.is
