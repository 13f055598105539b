-- `mix` meets its contract: the operations are those of the definition.
use Rattle.std.proofs.Common.{refl}
use Rattle.foundation.specs.Draw.{mixed, xor_right, xor_left}
use Rattle.load_draw.proofs.mix.Goals as goal

pub returns : goal.returns
unfolding mixed xor_right xor_left
returns c = refl
