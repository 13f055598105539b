-- What a text reads as (document 02, Ticket 11): its form, the numbers of its fields, its sign.
use Rattle.std.specs.Prelude.{Bool, true, false, cond, not, ◌&&◌, ◌||◌, List, [], ◌∷◌, ℕ, ◌+◌, ◌*◌, ◌-◌, eqb, ltb, leb, get_or, ℤ}
use Rattle.foundation.specs.Answer.{Answer, refused, granted}
use Rattle.foundation.specs.Text.{ascii}
use Rattle.foundation.specs.Offset.{signed}

-- "0" to "9"
unfoldable pub is_digit : ℕ → Bool
is_digit byte = leb 48 byte && leb byte 57

-- The form of a text, by an example of it: where it has "+" a sign stands, where it has "0" any digit, elsewhere the byte itself.
unfoldable pub form : List ℕ
form = ascii "+000 00 00.000"

unfoldable pub may_stand : ℕ → ℕ → Bool
may_stand kind byte = cond (eqb kind 43) (eqb byte 43 || eqb byte 45) (cond (eqb kind 48) (is_digit byte) (eqb byte kind))

-- "sign, three digits of degrees .., space, two of minutes, space, two of seconds .., point, three of thousandths; 14 bytes": as many bytes as the form has, and each may
-- stand at its place.
unfoldable pub has_form : List ℕ → List ℕ → Bool
has_form [] [] = true
has_form [] (byte ∷ text) = false
has_form (kind ∷ kinds) [] = false
has_form (kind ∷ kinds) (byte ∷ text) = may_stand kind byte && has_form kinds text

-- the number of the digit, of two and of three digits at a place
unfoldable pub digit_at : List ℕ → ℕ → ℕ
digit_at text place = get_or text place 0 - 48

unfoldable pub two_at : List ℕ → ℕ → ℕ
two_at text place = 10 * digit_at text place + digit_at text (place + 1)

unfoldable pub three_at : List ℕ → ℕ → ℕ
three_at text place = 100 * digit_at text place + two_at text (place + 1)

-- the numbers of the fields
unfoldable pub degrees : List ℕ → ℕ
degrees text = three_at text 1

unfoldable pub minutes : List ℕ → ℕ
minutes text = two_at text 5

unfoldable pub seconds : List ℕ → ℕ
seconds text = two_at text 8

unfoldable pub thousandths : List ℕ → ℕ
thousandths text = three_at text 11

-- "degrees (000 to 359)", "minutes", "seconds (both 00 to 59)"
unfoldable pub in_range : List ℕ → Bool
in_range text = ltb (degrees text) 360 && (ltb (minutes text) 60 && ltb (seconds text) 60)

-- "whole milliarcseconds", without their sign
unfoldable pub size_read : List ℕ → ℕ
size_read text = 1000 * (60 * (60 * degrees text + minutes text) + seconds text) + thousandths text

-- "sign": whether it is "-"
unfoldable pub minus_read : List ℕ → Bool
minus_read text = eqb (get_or text 0 0) 45

-- "Any other text, minus zero included, is 28"
unfoldable pub readable : List ℕ → Bool
readable text = has_form form text && (in_range text && not (minus_read text && eqb (size_read text) 0))

-- "Reading gives whole milliarcseconds"
unfoldable pub read_as : List ℕ → Answer ℤ
read_as text = cond (readable text) (granted (signed (minus_read text) (size_read text))) (refused 28 0)
