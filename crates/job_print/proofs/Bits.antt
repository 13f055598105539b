-- The bits of a number.
use Rattle.std.proofs.Common.{◌≡◌, true, refl}
use Rattle.std.proofs.lemmas.Bool.{false≢true}
use lib.Ieee.{Float, nan, inf, fin, is_nan, to_bits}
use Rattle.foundation.specs.Numbers.{bits_of}

-- a NaN's are those that the definition gives it
pub nan_bits : (x : Float) → is_nan x ≡ true → 0x7ff8_0000_0000_0000 ≡ bits_of x
unfolding is_nan bits_of to_bits
nan_bits nan e = refl
nan_bits (inf s) e = absurd (false≢true e)
nan_bits (fin s m k) e = absurd (false≢true e)
