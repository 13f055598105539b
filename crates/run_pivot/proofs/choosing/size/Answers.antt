-- `size` meets its contract: each arm is that of `absolute`.
use lib.Ieee.{of_bits}
use Rattle.run_pivot.proofs.Magnitudes.{absolute_negated, absolute_itself}
use Rattle.run_pivot.proofs.choosing.size.Goals as goal

pub returns-then-v : goal.returns-then-v
unfolding of_bits
returns-then-v c = absolute_negated _ c.if-v.true

pub returns : goal.returns
unfolding of_bits
returns c = absolute_itself _ c.if-v.false
