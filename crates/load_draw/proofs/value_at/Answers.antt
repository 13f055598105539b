-- `value_at` meets its contract: the value of what is drawn.
use Rattle.std.proofs.Common.{ap, ◌∙◌}
use Rattle.foundation.specs.Draw.{drawn_value}
use Rattle.load_draw.proofs.value_at.Goals as goal

pub returns : goal.returns
returns c = c.value_of.ensures ∙ ap drawn_value c.mix.ensures
