-- `count_numbers` meets its contract.
use mathlib.Core.Path.{refl}
use Rattle.foundation.specs.PlanCall.{count_numbers}
use Rattle.numbers.proofs.counting.count_numbers.Goals as goal

pub returns : goal.returns
unfolding count_numbers
returns c = refl
