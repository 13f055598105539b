-- Offsets in whole milliarcseconds, and their texts (document 02, Ticket 11). An offset is a whole number ℤ: there is one zero, without a sign.
use Rattle.std.specs.Prelude.{Bool, true, false, cond, List, [], ◌∷◌, ℕ, ◌+◌, ◌/◌, ◌%◌, ℤ, pos, negsuc, neg_ℤ, nat_abs}

-- "at most 1,295,999,999 in magnitude": a milliarcsecond short of 360 degrees
abbrev pub largest_offset : ℕ
largest_offset = 1295999999

-- whether a whole number is below zero
unfoldable pub negative : ℤ → Bool
negative (pos n) = false
negative (negsuc n) = true

-- the whole number of a size, taken with minus where asked
unfoldable pub signed : Bool → ℕ → ℤ
signed minus size = cond minus (neg_ℤ (pos size)) (pos size)

-- "sign": "+" is 43, "-" is 45
unfoldable pub sign_byte : Bool → ℕ
sign_byte minus = cond minus 45 43

-- "two", "three digits", before what follows them; "0" is 48
unfoldable pub two_digits : ℕ → List ℕ → List ℕ
two_digits n tail = (48 + n / 10) ∷ (48 + n % 10) ∷ tail

unfoldable pub three_digits : ℕ → List ℕ → List ℕ
three_digits n tail = (48 + n / 100) ∷ two_digits (n % 100) tail

-- "sign, three digits of degrees (000 to 359), space, two of minutes, space, two of seconds (both 00 to 59), point, three of thousandths; 14 bytes": the text of a
-- size with a sign. A degree has 3,600,000 milliarcseconds, a minute 60,000, a second 1,000; " " is 32, "." is 46.
unfoldable pub text_with : Bool → ℕ → List ℕ
text_with minus size =
    sign_byte minus
    ∷ three_digits (size / 3600000) (32 ∷ two_digits (size / 60000 % 60) (32 ∷ two_digits (size / 1000 % 60) (46 ∷ three_digits (size % 1000) [])))

-- The text of a whole number: minus where it is below zero, so that it "writes zero with plus".
unfoldable pub text_of : ℤ → List ℕ
text_of w = text_with (negative w) (nat_abs w)
