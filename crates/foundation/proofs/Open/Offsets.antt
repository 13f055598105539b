-- Offsets and their texts: `unfolding offsets`.
use Rattle.foundation.specs.Text.{ascii}
use Rattle.foundation.specs.Offset.{negative, signed, sign_byte, two_digits, three_digits, text_with, text_of}
use Rattle.foundation.specs.OffsetReading.{is_digit, form, may_stand, has_form, digit_at, two_at, three_at, degrees, minutes, seconds, thousandths, in_range, size_read, minus_read, readable, read_as}
use Rattle.foundation.specs.OffsetRounding.{nearest_whole, within_reach, rounded_to}
use Rattle.foundation.specs.OffsetCall.{read_offset, read_into, read_leaves, write_offset, write_leaves}

unfoldable pub offsets : Unit {0}
unfolding
    ascii negative signed sign_byte two_digits three_digits text_with text_of is_digit form may_stand has_form digit_at two_at three_at degrees minutes seconds thousandths in_range
    size_read minus_read readable read_as nearest_whole within_reach rounded_to read_offset read_into read_leaves write_offset write_leaves
offsets = tt
