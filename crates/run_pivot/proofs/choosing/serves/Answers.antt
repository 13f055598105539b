-- `serves` meets its contract: a number's size is its magnitude wherever the test of it holds.
use mathlib.Core.Path.{ap, ◌∙◌}
use lib.Ieee.{le, of_bits}
use Rattle.foundation.specs.Numbers.{least_pivot}
use Rattle.run_pivot.proofs.Limit.{serves_is}
use Rattle.run_pivot.proofs.choosing.serves.Goals as goal

pub returns : goal.returns
unfolding of_bits least_pivot
returns c = ap (le least_pivot) c.size.ensures ∙ serves_is _
