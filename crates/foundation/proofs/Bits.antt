-- The numbers that are no NaN, by a comparison and by their bit patterns: what the casts between numbers and patterns ask.
use mathlib.Core.Bool.{true, not, false≢true}
use mathlib.Core.Path.{◌≡◌, ◌∙◌}
use Prim.Native.Nat.{ℕ, ◌%◌, ◌≤◌}
use lib.Dec.{T}
use lib.Ieee.{Float, nan, inf, fin, is_nan, binary64, nan_bits, eq}
use lib.Ieee.Bits.{nan_bits_above}
use borrow.Author.Tests.{le-ltb}

-- what equals itself is no NaN
pub self_number : (x : Float) → eq x x ≡ true → T (not (is_nan x))
unfolding eq is_nan
self_number nan e = absurd (false≢true e)
self_number (inf s) e = tt
self_number (fin s m k) e = tt

-- a pattern without its sign that does not pass infinity's is no NaN's
pub pattern_number : (bits : ℕ) → bits % 0x8000_0000_0000_0000 ≤ 0x7ff0_0000_0000_0000 → T (not (nan_bits binary64 bits))
pattern_number bits h = rw (nan_bits_above binary64 bits ∙ le-ltb _ _ h) tt
