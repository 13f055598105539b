-- Laws of f64 for the choice by magnitude: which numbers are zero, and what lies above what.
use mathlib.Core.Bool.{Bool, true, false, true≢false}
use mathlib.Core.Path.{◌≡◌, refl, sym, ap, ◌∙◌}
use Prim.Native.Nat.{ℕ, zero, suc, ◌+◌, ◌*◌, ◌<◌}
use native.Mathlib.Nat.{zero-mul, mul-pos}
use native.Mathlib.Omega.{arith}
use lib.Dec.{eqb}
use lib.Ieee.{Float, nan, inf, fin, up, down, neg, lt, eq}
use lib.Ieee.Fits.{up_pos, down_pos}
use lib.IntN.{ℤ, pos}
use borrow.Author.Tests.{ne_eqb, lt-ltb, le-ltb}
use Rattle.lists.proofs.Members.{by_test}
use Rattle.foundation.specs.Numbers.{plus_zero, is_zero, magnitude}
use Rattle.run_pivot.specs.Pivot.{absolute}

scaled_positive : (m : ℕ) (e d : ℤ) → 0 < suc m * up e * down d
scaled_positive m e d = mul-pos (mul-pos (omega arith) (up_pos e)) (down_pos d)

pub scaled_zero : (e d : ℤ) → 0 * up e * down d ≡ 0
scaled_zero e d = rw (zero-mul, zero-mul)

-- zero is a significand of 0
zero-fin : (s : Bool) (m : ℕ) (e : ℤ) → is_zero (fin s m e) ≡ eqb m 0
unfolding is_zero plus_zero eq
zero-fin true zero e = rw (scaled_zero e (pos 0), scaled_zero (pos 0) e)
zero-fin false zero e = rw (scaled_zero e (pos 0), scaled_zero (pos 0) e)
zero-fin s (suc m) e =
    let h = scaled_positive m e (pos 0) in
    rw (scaled_zero (pos 0) e, ne_eqb (suc m * up e * down (pos 0)) 0 (λ q. omega arith), ne_eqb (suc m) 0 (λ q. omega arith))

pub zero-form : (v : Float) → is_zero v ≡ true → (s : Bool) × (e : ℤ) × (v ≡ fin s zero e)
unfolding is_zero eq plus_zero
zero-form nan z = absurd (true≢false (sym z))
zero-form (inf s) z = absurd (true≢false (sym z))
zero-form (fin s (suc m) e) z = absurd (true≢false (sym z ∙ zero-fin s (suc m) e ∙ ne_eqb (suc m) 0 (λ q. omega arith)))
zero-form (fin s zero e) z = (s, e, refl)

-- the two arms of the code
pub absolute_negated : (v : Float) → lt v (fin false 0 (pos 0)) ≡ true → neg v ≡ absolute v
unfolding absolute
absolute_negated v t = rw t

pub absolute_itself : (v : Float) → lt v (fin false 0 (pos 0)) ≡ false → v ≡ absolute v
unfolding absolute
absolute_itself v t = rw t

pub absolute_nonzero : (v : Float) → is_zero v ≡ false → absolute v ≡ magnitude v
unfolding absolute magnitude lt neg
absolute_nonzero nan e = refl
absolute_nonzero (inf true) e = refl
absolute_nonzero (inf false) e = refl
absolute_nonzero (fin s zero d) e = absurd (true≢false (sym (zero-fin s zero d) ∙ e))
absolute_nonzero (fin true (suc m) d) e =
    rw (scaled_zero (pos 0) d, lt-ltb 0 (suc m * up d * down (pos 0) + 0) (omega (arith, scaled_positive m d (pos 0))))
absolute_nonzero (fin false (suc m) d) e = rw (scaled_zero (pos 0) d, le-ltb (suc m * up d * down (pos 0)) 0 (omega arith))

-- what has no minus sign, as a magnitude
pub data Positive : Float → Type 0 where
  not_a_number : Positive nan
  infinite : Positive (inf false)
  number : (m : ℕ) (e : ℤ) → Positive (fin false m e)

pub magnitude_positive : (v : Float) → Positive (magnitude v)
unfolding magnitude
magnitude_positive nan = not_a_number
magnitude_positive (inf s) = infinite
magnitude_positive (fin s m e) = number m e

-- a zero of either sign is above none of them
pub zero_never : {top : Float} → Positive top → (s : Bool) (e : ℤ) → lt top (fin s zero e) ≡ false
unfolding lt
zero_never not_a_number s e = refl
zero_never infinite s e = refl
zero_never (number m d) true e = refl
zero_never (number m d) false e = rw (scaled_zero e d, le-ltb (m * up d * down e) 0 (omega arith))

-- in the code a zero keeps its sign
pub absolute-zero : (s : Bool) (e : ℤ) → absolute (fin s zero e) ≡ fin s zero e
unfolding absolute lt
absolute-zero true e = rw (scaled_zero e (pos 0), scaled_zero (pos 0) e)
absolute-zero false e = rw (scaled_zero e (pos 0), scaled_zero (pos 0) e)

-- which changes nothing that a search for the largest asks
pub above_is : (top v : Float) → Positive top → lt top (absolute v) ≡ lt top (magnitude v)
unfolding magnitude
above_is top v p =
    by_test (is_zero v)
    (λ z. let (s, e, form) = zero-form v z in rw form (ap (lt top) (absolute-zero s e) ∙ zero_never p s e ∙ sym (zero_never p false e)))
    (λ z. ap (lt top) (absolute_nonzero v z))
