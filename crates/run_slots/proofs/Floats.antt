-- Laws of f64: what is not finite shows, and a product's order does not.
use mathlib.Core.Bool.{Bool, true, false, not, beq, and-false}
use mathlib.Core.Path.{◌≡◌, refl, sym, ap}
use Prim.Native.Nat.{ℕ, ◌*◌, ◌<◌}
use native.Mathlib.Nat.{mul_comm, zero-mul, sub_self, mul-pos}
use native.Mathlib.Omega.{arith}
use lib.IntN.{pos}
use lib.Ieee.Fits.{down_pos}
use lib.Ieee.Scale.{round_same}
use borrow.Author.Tests.{le-ltb}
use lib.Ieee.{Float, nan, inf, fin, Format, binary64, unlike, up, down, add, neg, sub, mul, sum, round, units, odd, eq, size}
use Rattle.lists.proofs.Members.{by_test}
use Rattle.foundation.specs.Numbers.{finite, product, difference}
use Rattle.foundation.specs.Reference.{sound_update}

unlike_comm : (s t : Bool) → unlike s t ≡ unlike t s
unlike_comm true true = refl
unlike_comm true false = refl
unlike_comm false true = refl
unlike_comm false false = refl

pub mul_commutes : (f : Format) (x y : Float) → mul f x y ≡ mul f y x
unfolding mul
mul_commutes f nan nan = refl
mul_commutes f nan (inf t) = refl
mul_commutes f nan (fin t n d) = refl
mul_commutes f (inf s) nan = refl
mul_commutes f (inf s) (inf t) = ap inf (unlike_comm s t)
mul_commutes f (inf s) (fin t n d) = rw (unlike_comm s t)
mul_commutes f (fin s m e) nan = refl
mul_commutes f (fin s m e) (inf t) = rw (unlike_comm s t)
mul_commutes f (fin s m e) (fin t n d) = rw (unlike_comm s t, mul_comm (m * up e) (n * up d), mul_comm (down e) (down d))

pub product_commutes : (m u : Float) → product m u ≡ product u m
unfolding product
product_commutes m u = mul_commutes binary64 m u

-- a difference that is finite had a finite product
pub difference-finite : (a b : Float) → finite b ≡ false → finite (difference a b) ≡ false
unfolding finite difference sub add neg
difference-finite nan nan e = refl
difference-finite nan (inf t) e = refl
difference-finite nan (fin t n d) e = refl
difference-finite (inf s) nan e = refl
difference-finite (inf s) (inf t) e = by_test (beq s (not t)) (λ q. rw q) (λ q. rw q)
difference-finite (inf s) (fin t n d) e = refl
difference-finite (fin s m x) nan e = refl
difference-finite (fin s m x) (inf t) e = refl
difference-finite (fin s m x) (fin t n d) e = absurd (true_false e)
  where
    true_false : true ≡ false → ⊥
    true_false q = mathlib.Core.Bool.true≢false q

pub sound_is : (m u place : Float) → sound_update m u place ≡ finite (difference place (product m u))
unfolding sound_update
sound_is m u place = by_test (finite (product m u)) (λ e. rw e) (λ e. rw (e, difference-finite place (product m u) e))

round-zero : (f : Format) (s : Bool) (den : ℕ) → 0 < den → round f s 0 den ≡ round f s 0 1
round-zero f s den h = round_same f s 0 den 0 1 h (omega arith) (sym (zero-mul den))

unlike_self : (s : Bool) → beq s (not s) ≡ false
unlike_self true = refl
unlike_self false = refl

round-nothing : eq (round binary64 false 0 1) (fin false 0 (pos 0)) ≡ true
unfolding round units odd eq size
round-nothing = refl

-- a number less itself is zero exactly where it is finite
pub self_difference : (x : Float) → eq (sub binary64 x x) (fin false 0 (pos 0)) ≡ finite x
unfolding finite sub add neg sum eq
self_difference nan = refl
self_difference (inf s) = rw (unlike_self s)
self_difference (fin s m e) =
    let a = m * up e * down e in
    rw (unlike_self s, le-ltb a a (omega arith), sub_self a, and-false s, round-zero binary64 false (down e * down e) (mul-pos (down_pos e) (down_pos e))) round-nothing
