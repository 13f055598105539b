-- `empty` keeps its contract.
use mathlib.Core.Path.{refl}
use Rattle.foundation.specs.Tally.{empty_tally}
use Rattle.tally.proofs.empty.Goals as goal

pub returns : goal.returns
unfolding empty_tally
returns c = refl
