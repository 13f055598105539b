-- `run_clear::clear_floats` meets its contract. Assumes nothing.
use lib.Ieee.{of_bits}
use Rattle.foundation.specs.Answer.{work_store}
use Rattle.foundation.specs.Numbers.{plus_zero}
use Rattle.run_clear.proofs.clear_floats.Goals as goal

pub returns : goal.returns
unfolding work_store plus_zero of_bits
returns c = c.fill.ensures.after (λ y e. e)
