-- `two_at` meets its contract: its digits are found.
use Rattle.foundation.specs.OffsetReading.{two_at}
use Rattle.offset_text.proofs.fields.two_at.Goals as goal

pub returns-clause-value : goal.returns-clause-value
unfolding two_at
returns-clause-value c = cc
