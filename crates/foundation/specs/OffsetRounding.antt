-- The whole milliarcsecond that a float goes to (document 02, Ticket 11), by exact arithmetic on the float's parts.
use Rattle.std.specs.Prelude.{Bool, cond, ℕ, suc, ◌+◌, ◌*◌, ◌/◌, ◌%◌, ltb, leb, ℤ, Float}
use Rattle.std.specs.Float.{nan, inf, fin}
use Rattle.std.specs.Float.Ieee.{up, down}
use Rattle.foundation.specs.Answer.{Answer, refused, granted}
use Rattle.foundation.specs.Offset.{largest_offset, signed}

-- "goes to the nearest whole milliarcsecond, the even one at a half": of the fraction a / b, by twice the remainder beside b
unfoldable pub nearest_whole : ℕ → ℕ → ℕ
nearest_whole a b = cond (ltb (a % b * 2) b) (a / b) (cond (ltb b (a % b * 2)) (suc (a / b)) (a / b + a / b % 2))

-- a size, taken with minus where asked, if it is not "beyond the largest"
unfoldable pub within_reach : Bool → ℕ → Answer ℤ
within_reach minus size = cond (leb size largest_offset) (granted (signed minus size)) (refused 29 0)

-- "a float that is not finite or rounds beyond the largest is 29": `fin s m e` has the magnitude m × 2^e, which is the fraction m × up e / down e
unfoldable pub rounded_to : Float → Answer ℤ
rounded_to nan = refused 29 0
rounded_to (inf s) = refused 29 0
rounded_to (fin s m e) = within_reach s (nearest_whole (m * up e) (down e))
