-- The claims about offsets in degrees, minutes and seconds (document 02, Ticket 11), of every text and every float: each one proposition that can be read alone.
use Rattle.std.specs.Prelude.{Bool, true, false, List, ◌↔◌, ◌≡◌, ℕ, ◌+◌, ◌*◌, ◌%◌, ◌≤◌, ◌<◌, ℤ, pos, nat_abs, ◌-ℤ◌, ◌*ℤ◌, Float}
use Rattle.std.specs.Float.{fin, binary64}
use Rattle.std.specs.Float.Ieee.{up, down, fits}
use Rattle.std.specs.Float.Ieee.Exact.{HasValue}
use Rattle.foundation.specs.Answer.{refused, granted}
use Rattle.foundation.specs.Numbers.{finite, float_of}
use Rattle.foundation.specs.Text.{ascii}
use Rattle.foundation.specs.Offset.{largest_offset, negative, signed, text_of}
use Rattle.foundation.specs.OffsetCall.{offset_bytes, read_offset, write_offset, write_leaves}

-- "Reading gives whole milliarcseconds, at most 1,295,999,999 in magnitude, and the f64 equal to it": reading answers w and x just where the text is that of w, w is of at most
-- that magnitude and x is the f64 of w.
unfoldable pub ReadsTexts : Type 0
ReadsTexts =
    (text : List ℕ) (w : ℤ) (x : Float)
    → (read_offset text ≡ granted (w, x)) ↔ ((text ≡ text_of w) × (nat_abs w ≤ largest_offset) × (x ≡ float_of w))

-- "Any other text, minus zero included, is 28": reading answers 28 just where the text is that of no whole number of at most 1,295,999,999 in magnitude.
unfoldable pub OtherTexts : Type 0
OtherTexts = (text : List ℕ) → (read_offset text ≡ refused 28 0) ↔ ((w : ℤ) → nat_abs w ≤ largest_offset → text ≡ text_of w → ⊥)

-- "the f64 equal to it": a 64-bit float, finite, with the number's sign (zero is +0) and its magnitude.
unfoldable pub FloatEqual : Type 0
FloatEqual = (w : ℤ) → nat_abs w ≤ largest_offset → HasValue (float_of w) (negative w) (nat_abs w) 1 × (fits binary64 (float_of w) ≡ true)

-- "The written value is within half a milliarcsecond of the float", "the even one at a half": w and the float are at most a half apart, where they are a half apart w is even, and w
-- is at most the largest in magnitude. The float `fin s m e` is the fraction of `signed s (m * up e)` and `down e`, so both sides are taken times twice `down e`.
unfoldable pub WithinHalf : Type 0
WithinHalf =
    (s : Bool) (m : ℕ) (e w : ℤ) → write_offset offset_bytes (fin s m e) ≡ granted w
    → (2 * nat_abs (w *ℤ pos (down e) -ℤ signed s (m * up e)) ≤ down e)
    × (2 * nat_abs (w *ℤ pos (down e) -ℤ signed s (m * up e)) ≡ down e → nat_abs w % 2 ≡ 0)
    × (nat_abs w ≤ largest_offset)

-- "the nearest whole milliarcsecond": no other whole number is at most a half from the float and, where it is a half away, even.
unfoldable pub OnlyNearest : Type 0
OnlyNearest =
    (s : Bool) (m : ℕ) (e w other : ℤ) → write_offset offset_bytes (fin s m e) ≡ granted w
    → 2 * nat_abs (other *ℤ pos (down e) -ℤ signed s (m * up e)) ≤ down e
    → (2 * nat_abs (other *ℤ pos (down e) -ℤ signed s (m * up e)) ≡ down e → nat_abs other % 2 ≡ 0)
    → other ≡ w

-- "a float that is not finite or rounds beyond the largest is 29", and no other: a finite one is 29 from the largest and a half on, since the largest is odd, and goes to a whole
-- number below that.
unfoldable pub BeyondLargest : Type 0
BeyondLargest =
    ((x : Float) → finite x ≡ false → write_offset offset_bytes x ≡ refused 29 0)
    × ((s : Bool) (m : ℕ) (e : ℤ)
    → ((2 * largest_offset + 1) * down e ≤ 2 * (m * up e) → write_offset offset_bytes (fin s m e) ≡ refused 29 0)
    × (2 * (m * up e) < (2 * largest_offset + 1) * down e → (w : ℤ) × (write_offset offset_bytes (fin s m e) ≡ granted w)))

-- "writes zero with plus": whatever float goes to zero, and whatever its sign.
unfoldable pub ZeroWithPlus : Type 0
ZeroWithPlus = (x : Float) → write_offset offset_bytes x ≡ granted (pos 0) → write_leaves offset_bytes x ≡ ascii "+000 00 00.000"

-- "what was written reads as that whole number": what writing left in its store reads as the number that it answered, with the f64 equal to it.
unfoldable pub WrittenReads : Type 0
WrittenReads = (room : ℕ) (x : Float) (w : ℤ) → write_offset room x ≡ granted w → read_offset (write_leaves room x) ≡ granted (w, float_of w)

-- And writing the f64 that reading answered answers the same whole number and leaves the text that was read.
unfoldable pub ReadWrites : Type 0
ReadWrites =
    (text : List ℕ) (w : ℤ) (x : Float)
    → read_offset text ≡ granted (w, x)
    → (write_offset offset_bytes x ≡ granted w) × (write_leaves offset_bytes x ≡ text)
