-- Sizes that the code rounds, and what its answer says.
use Rattle.std.specs.Prelude.{◌≡◌, ℕ, ◌*◌, ◌≤◌, true, false, ℤ, from_bits, Float}
use Rattle.std.specs.Float.{nan, inf, fin, binary64}
use Rattle.std.specs.Float.Ieee.{up, down, lt}
use Rattle.foundation.specs.Answer.{Answer, refused, granted}
use Rattle.foundation.specs.Offset.{largest_offset, negative, signed}
use Rattle.foundation.specs.OffsetRounding.{nearest_whole}
use Rattle.offset_round.specs.declared.Rounding.{Rounding}
use Rattle.offset_round.specs.declared.Rounding.TheVariants.{To, Beyond}

-- the size that a finite float goes to; no other is asked for
unfoldable pub nearest_size : Float → ℕ
nearest_size nan = 0
nearest_size (inf s) = 0
nearest_size (fin s m e) = nearest_whole (m * up e) (down e)

-- 0.0, 0.5 and 1295999999.5 by their bit patterns
abbrev pub nought : Float
nought = from_bits binary64 0x0000000000000000

abbrev pub one_half : Float
one_half = from_bits binary64 0x3FE0000000000000

abbrev pub limit : Float
limit = from_bits binary64 0x41D34FD8FFE00000

-- neither below zero nor from half a milliarcsecond behind the largest on: what is rounded
pub record Small (x : Float) : Type 0 where
  pub not_below : lt x nought ≡ false
  pub under : lt x limit ≡ true

-- what the answer says: the whole number, or 29
unfoldable pub rounding_of : Rounding → Answer ℤ
rounding_of (To minus size) = granted (signed minus size)
rounding_of Beyond = refused 29 0

-- its size is in reach, and minus is told of a number below zero alone
abbrev pub Proper : Rounding → Type 0
Proper (To minus size) = (negative (signed minus size) ≡ minus) × (size ≤ largest_offset)
Proper Beyond = Unit
