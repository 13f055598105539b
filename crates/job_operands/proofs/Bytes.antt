-- Numbers in their bytes, and the patterns of a NaN.
use Rattle.std.proofs.Common.{◌≡◌, Bool, true, false, ℕ, zero, suc, ◌+◌, ◌*◌, ◌^◌, ◌%◌, ◌<◌, List, [], ◌∷◌, ◌++◌, length, take, get_or, refl, sym, ◌∙◌, arith, length-take-le}
use Rattle.std.proofs.Math.Nat.{pow-suc}
use Rattle.std.proofs.Math.Seq.{take-suc, take_all}
use Rattle.std.specs.Int.{w16, w64, byte_worth, sum_through, from_le_bytes}
use lib.Ieee.{Float, nan, inf, fin, is_nan, binary64, of_bits}
use lib.Ieee.Bits.{nan_bits_is, nan_bits_above}
use borrow.Author.Tests.{lt-ltb}
use Rattle.foundation.specs.Job.{little_endian}
use Rattle.foundation.specs.Numbers.{of_pattern}

-- ---- numbers in their bytes

-- one byte more
little_more : (s : List ℕ) (b : ℕ) → little_endian (s ++ (b ∷ [])) ≡ little_endian s + b * 256 ^ length s
unfolding little_endian
little_more [] b = omega arith
little_more (a ∷ s) b = rw (little_more s b, pow-suc 256 (length s)) (omega arith)

-- the bytes up to place `last`, each by its worth
little_sum : (s : List ℕ) (last : ℕ) → last < length s → sum_through (λ i. byte_worth i (get_or s i 0)) last ≡ little_endian (take (suc last) s)
unfolding little_endian
little_sum s zero h = rw (take-suc s 0 0 h) (omega arith)
little_sum s (suc i) h =
    rw (take-suc s (suc i) 0 h, little_more (take (suc i) s) (get_or s (suc i) 0), little_sum s i (omega arith), length-take-le (suc i) s (omega arith))

-- what std reads of two and of eight bytes
pub little_two : (s : List ℕ) → length s ≡ 2 → from_le_bytes w16 s ≡ little_endian s
little_two s h = rw (little_sum s 1 (omega arith), take_all 2 s (omega arith))

pub little_eight : (s : List ℕ) → length s ≡ 8 → from_le_bytes w64 s ≡ little_endian s
little_eight s h = rw (little_sum s 7 (omega arith), take_all 8 s (omega arith))

-- ---- patterns

nan_of : (x : Float) → is_nan x ≡ true → nan ≡ x
unfolding is_nan
nan_of nan e = refl
nan_of (inf s) e = let z : ◌≡◌ {A = Bool} false true = e in cc
nan_of (fin s m k) e = let z : ◌≡◌ {A = Bool} false true = e in cc

-- above infinity, the sign left out, stand the NaNs
pub pattern-nan : (bits : ℕ) → 0x7ff0_0000_0000_0000 < bits % 0x8000_0000_0000_0000 → nan ≡ of_pattern bits
unfolding of_pattern
pattern-nan bits h = nan_of (of_bits binary64 bits) (sym (nan_bits_is binary64 bits) ∙ nan_bits_above binary64 bits ∙ lt-ltb _ _ h)
