-- `size_read` meets its contract: the fields are found.
use Rattle.foundation.specs.OffsetReading.{degrees, minutes, seconds, thousandths, size_read}
use Rattle.offset_text.proofs.fields.size_read.Goals as goal

pub returns : goal.returns
unfolding size_read degrees minutes seconds thousandths
returns c = cc
