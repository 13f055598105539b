-- `step` meets its contract: the sum wraps as the library says.
use Rattle.foundation.specs.Draw.{stepped}
use Rattle.load_draw.proofs.step.Goals as goal

pub returns : goal.returns
unfolding stepped
returns c = c.wrapping_add_u32.ensures.value
