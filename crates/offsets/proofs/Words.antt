-- Whole numbers of at most the largest size, in the machine's words.
use mathlib.Core.Bool.{Bool, true, false}
use mathlib.Core.Path.{◌≡◌}
use Prim.Native.Nat.{ℕ, ◌≤◌}
use native.Mathlib.Omega.{arith}
use lib.IntN.{ℤ, nat_abs}
use mir.Syntax.{w64}
use mir.Val.{SFits, to_z, of_z}
use mir.ValLaws.{to_z-of_z}
use Rattle.foundation.specs.Offset.{largest_offset, signed}
use Rattle.foundation.proofs.OffsetTexts.{size_of_signed}
use Rattle.numbers.proofs.Signed.{plus_fits, minus_fits}

-- in the range of an i64
signed-fits : (minus : Bool) (n : ℕ) → n ≤ largest_offset → SFits w64 (signed minus n)
unfolding signed
signed-fits false n h = plus_fits n (omega arith)
signed-fits true n h = minus_fits n (omega arith)

pub signed_back : (w : ℤ) (minus : Bool) (n : ℕ) → w ≡ signed minus n → n ≤ largest_offset → to_z w64 (of_z w64 w) ≡ signed minus n
signed_back w minus n e h = rw e (to_z-of_z w64 (signed minus n) (signed-fits minus n h))

pub signed_size : (w : ℤ) (minus : Bool) (n : ℕ) → w ≡ signed minus n → n ≤ largest_offset → nat_abs (to_z w64 (of_z w64 w)) ≤ largest_offset
signed_size w minus n e h = rw (signed_back w minus n e h, size_of_signed minus n) h
