-- `may_stand` meets its contract, kind by kind.
use Rattle.std.proofs.Common.{arith}
use Rattle.std.proofs.lemmas.Grind.{common_steps}
use Rattle.foundation.specs.OffsetReading.{is_digit, may_stand}
use Rattle.offset_text.proofs.form.may_stand.Goals as goal

pub returns-then-byte-eq43 : goal.returns-then-byte-eq43
unfolding may_stand
returns-then-byte-eq43 c = grind (arith, common_steps)

pub returns-else-byte-eq43 : goal.returns-else-byte-eq43
unfolding may_stand
returns-else-byte-eq43 c = grind (arith, common_steps)

pub returns-in-48 : goal.returns-in-48
unfolding may_stand is_digit
returns-in-48 c = grind (arith, common_steps)

pub returns-in_default : goal.returns-in_default
unfolding may_stand
returns-in_default c = grind (arith, common_steps)
