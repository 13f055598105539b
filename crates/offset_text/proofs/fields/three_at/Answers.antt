-- `three_at` meets its contract: its digits are found.
use Rattle.foundation.specs.OffsetReading.{three_at}
use Rattle.offset_text.proofs.fields.three_at.Goals as goal

pub returns-clause-value : goal.returns-clause-value
unfolding three_at
returns-clause-value c = cc
