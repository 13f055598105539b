-- `run_clear::clear_if_stopped` meets its contract. Assumes nothing.
use mathlib.Core.Path.{refl}
use Rattle.run_clear.proofs.clear_if_stopped.Goals as goal

pub returns-in_default : goal.returns-in_default
returns-in_default c = rw c.in_default.is refl

pub returns : goal.returns
returns c = rw c.in-Stopped.is c.clear_results.ensures
