-- What the calls ask of an f64: zero of either sign, finite, magnitude, the operations with one rounding each, the f64 of a whole number, bit patterns.
use Rattle.std.specs.Prelude.{Bool, true, false, ℕ, zero, suc, Float, ℤ, pos, negsuc}
use Rattle.std.specs.Float.{nan, inf, fin, binary64}
use Rattle.std.specs.Float.Ieee.{sub, mul, div, eq, le, of_int, to_bits, of_bits}

-- +0: what stands at every place outside the pattern (document 01, "Elimination": "+0 outside the pattern").
unfoldable pub plus_zero : Float
plus_zero = fin false 0 (pos 0)

-- Whether the bits of a number are +0's, as against -0's: the run's invariant speaks of the places that are not.
unfoldable pub is_plus_zero : Float → Bool
is_plus_zero nan = false
is_plus_zero (inf s) = false
is_plus_zero (fin true m e) = false
is_plus_zero (fin false (suc m) e) = false
is_plus_zero (fin false zero (pos (suc e))) = false
is_plus_zero (fin false zero (negsuc e)) = false
is_plus_zero (fin false zero (pos zero)) = true

-- Document 01, "Elimination": "Zero means +0 or -0."
unfoldable pub is_zero : Float → Bool
unfolding plus_zero
is_zero x = eq x plus_zero

-- neither an infinity nor a NaN
unfoldable pub finite : Float → Bool
finite nan = false
finite (inf s) = false
finite (fin s m e) = true

-- the number without its sign
unfoldable pub magnitude : Float → Float
magnitude nan = nan
magnitude (inf s) = inf false
magnitude (fin s m e) = fin false m e

-- "2 to the power -1022": the least magnitude in the normal range of a 64-bit float
unfoldable pub least_pivot : Float
least_pivot = fin false 1 (negsuc 1021)

-- What may serve as a pivot. Document 02, Ticket 14: "A pivot must have magnitude at least 2 to the power -1022". Nothing else asks this of a number: below the
-- pivot and right of it one that is fainter is a nonzero as any other ("Multipliers and updates treat such entries as today").
unfoldable pub may_pivot : Float → Bool
may_pivot x = le least_pivot (magnitude x)

-- Document 01, "Elimination": "place - m × u: the product is rounded once, then the difference".
unfoldable pub product : Float → Float → Float
product m u = mul binary64 m u

unfoldable pub difference : Float → Float → Float
difference place taken = sub binary64 place taken

-- "m = entry / pivot", rounded once
unfoldable pub quotient : Float → Float → Float
quotient entry pivot = div binary64 entry pivot

-- Document 02, Ticket 11: "the f64 equal to it", of a whole number; a draw's value (Ticket 6) is the f64 of one too
unfoldable pub float_of : ℤ → Float
float_of w = of_int binary64 w

-- the bit pattern of a number, and the number of a bit pattern
unfoldable pub bits_of : Float → ℕ
bits_of x = to_bits binary64 x

unfoldable pub of_pattern : ℕ → Float
of_pattern bits = of_bits binary64 bits
