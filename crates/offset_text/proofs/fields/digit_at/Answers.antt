-- `digit_at` meets its contract.
use Rattle.foundation.specs.OffsetReading.{digit_at}
use Rattle.offset_text.proofs.fields.digit_at.Goals as goal

pub returns-clause-value : goal.returns-clause-value
unfolding digit_at
returns-clause-value c = cc
