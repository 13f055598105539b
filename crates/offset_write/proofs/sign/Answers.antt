-- `sign` meets its contract.
use mathlib.Core.Path.{refl}
use Rattle.foundation.specs.Offset.{sign_byte}
use Rattle.offset_write.proofs.sign.Goals as goal

pub returns-then-minus : goal.returns-then-minus
unfolding sign_byte
returns-then-minus c = rw c.if-minus.true refl

pub returns : goal.returns
unfolding sign_byte
returns c = rw c.if-minus.false refl
