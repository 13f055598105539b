-- `value_of` meets its contract: the machine reads the difference back from its bits.
use Rattle.std.proofs.Common.{ap}
use Rattle.foundation.specs.Numbers.{float_of}
use Rattle.foundation.specs.Draw.{drawn_value}
use Rattle.load_draw.proofs.Words.{sub-fits, read_back}
use Rattle.load_draw.proofs.value_of.Goals as goal

pub overflow_sub-whole : goal.overflow_sub-whole
overflow_sub-whole c = sub-fits c.reduced.result c.reduced.ensures.1

pub returns : goal.returns
unfolding drawn_value float_of
returns c = let r = c.reduced in ap float_of (read_back r.result c.args.draw r.ensures.0 r.ensures.1)
