-- `text_with` meets its contract, byte by byte.
use Rattle.foundation.specs.Offset.{two_digits, three_digits, text_with}
use Rattle.offset_write.proofs.text_with.Goals as goal

pub returns : goal.returns
unfolding text_with three_digits two_digits
returns c =
    rw (
      c.sign.ensures,
      c.digit_byte.ensures,
      c.digit_byte-2.ensures,
      c.digit_byte-3.ensures,
      c.digit_byte-4.ensures,
      c.digit_byte-5.ensures,
      c.digit_byte-6.ensures,
      c.digit_byte-7.ensures,
      c.digit_byte-8.ensures,
      c.digit_byte-9.ensures,
      c.digit_byte-10.ensures,
    )
