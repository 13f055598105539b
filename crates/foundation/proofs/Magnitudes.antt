-- The order of magnitudes of finite numbers, compared as fractions, crosswise; and which of them may serve as a pivot.
use mathlib.Core.Bool.{true, false, not, ◌&&◌, ◌||◌, false≢true}
use mathlib.Core.Path.{◌≡◌, refl, sym, ◌∙◌}
use Prim.Native.Nat.{ℕ, ◌*◌, ◌≤◌, ◌<◌}
use native.Mathlib.Decide.{dec_lt}
use native.Mathlib.Nat.{mul_right_comm, mul-le-mul_right, mul-lt-mul_of_pos_right, lt_of_mul-lt-mul_right}
use native.Mathlib.Omega.{arith}
use lib.Dec.{eqb, ltb}
use lib.Ieee.{Float, nan, inf, fin, up, down, lt, eq, le}
use lib.Ieee.Fits.{down_pos}
use lib.IntN.{negsuc}
use borrow.Author.Tests.{ltb-true, ltb-false, lt-ltb, le-ltb, eqb-true, eqb-false, ne_eqb, not-true, not-false}
use Rattle.lists.proofs.Members.{by_test, or_right}
use Rattle.foundation.specs.Numbers.{finite, magnitude, least_pivot, may_pivot}

-- ---- magnitudes as fractions

-- a finite number's magnitude is `over` / `under`
over : Float → ℕ
over nan = 0
over (inf s) = 0
over (fin s m e) = m * up e

under : Float → ℕ
under nan = 1
under (inf s) = 1
under (fin s m e) = down e

under_positive : (x : Float) → 0 < under x
unfolding under
under_positive nan = omega arith
under_positive (inf s) = omega arith
under_positive (fin s m e) = down_pos e

less_is : (x y : Float) → finite x ≡ true → finite y ≡ true → lt (magnitude x) (magnitude y) ≡ ltb (over x * under y) (over y * under x)
unfolding finite magnitude lt over under
less_is nan y f g = absurd (false≢true f)
less_is (inf s) y f g = absurd (false≢true f)
less_is (fin s m e) nan f g = absurd (false≢true g)
less_is (fin s m e) (inf t) f g = absurd (false≢true g)
less_is (fin s m e) (fin t n d) f g = refl

-- ---- the order of magnitudes

-- a/u is below c/w and not below b/v, so b/v is below c/w
crosswise : (a u b v c w : ℕ) → 0 < v → a * w < c * u → b * u ≤ a * v → b * w < c * v
crosswise a u b v c w positive below above =
    lt_of_mul-lt-mul_right u
    (omega (arith, mul_right_comm b w u, mul-le-mul_right w above, mul_right_comm a v w, mul-lt-mul_of_pos_right below positive, mul_right_comm c u v))

module _ (x y : Float) (f : finite x ≡ true) (g : finite y ≡ true) where
  pub reverse : lt (magnitude x) (magnitude y) ≡ true → lt (magnitude y) (magnitude x) ≡ false
  reverse e =
      let below : over x * under y < over y * under x = ltb-true (over x * under y) (over y * under x) (sym (less_is x y f g) ∙ e) in
      rw (less_is y x g f) (le-ltb (over y * under x) (over x * under y) (omega arith))

pub not_below_self : (x : Float) → finite x ≡ true → lt (magnitude x) (magnitude x) ≡ false
not_below_self x f = rw (less_is x x f f) (le-ltb (over x * under x) (over x * under x) (omega arith))

-- where x is below z and not below y, y is below z
pub passed_on :
    (x y z : Float) → finite x ≡ true → finite y ≡ true → finite z ≡ true → lt (magnitude x) (magnitude z) ≡ true → lt (magnitude x) (magnitude y) ≡ false
    → lt (magnitude y) (magnitude z) ≡ true
passed_on x y z f g h below above =
    rw (less_is y z g h)
    (lt-ltb _ _
    (crosswise (over x) (under x) (over y) (under y) (over z) (under z) (under_positive y) (ltb-true _ _ (sym (less_is x z f h) ∙ below))
    (ltb-false _ _ (sym (less_is x y f g) ∙ above))))

-- ---- the limit of a pivot

-- at least is not below
not_less : (a b : ℕ) → ltb a b || (eqb a b && true) ≡ not (ltb b a)
not_less a b =
    elim (dec_lt b a) [
      | yes l ↦ rw (lt-ltb b a l, le-ltb a b (omega arith), ne_eqb a b (λ q. omega arith))
      | no l ↦
          by_test (eqb a b)
          (λ e. let same = eqb-true a b e in rw (e, le-ltb b a (omega arith), or_right (ltb a b) true refl))
          (λ e. let other = eqb-false a b e in rw (e, le-ltb b a (omega arith), lt-ltb a b (omega (arith, other))))
    ]

-- a finite number serves where it is not below the limit
pub may_pivot_lem : (x : Float) → finite x ≡ true → may_pivot x ≡ not (lt (magnitude x) least_pivot)
unfolding finite may_pivot magnitude least_pivot le lt eq
may_pivot_lem nan f = absurd (false≢true f)
may_pivot_lem (inf s) f = absurd (false≢true f)
may_pivot_lem (fin s m e) f = not_less (1 * up (negsuc 1021) * down e) (m * up e * down (negsuc 1021))

limit-finite : finite least_pivot ≡ true
unfolding finite least_pivot
limit-finite = refl

limit-magnitude : magnitude least_pivot ≡ least_pivot
unfolding magnitude least_pivot
limit-magnitude = refl

module _ (x y : Float) (f : finite x ≡ true) (g : finite y ≡ true) (faint : may_pivot x ≡ false) (may : may_pivot y ≡ true) where
  -- what cannot serve is below what may
  pub faint_below : lt (magnitude x) (magnitude y) ≡ true
  faint_below =
      by_test (lt (magnitude x) (magnitude y)) (λ below. below)
      (λ above.
      let x_below : lt (magnitude x) (magnitude least_pivot) ≡ true = rw limit-magnitude (not-false _ (sym (may_pivot_lem x f) ∙ faint)) in
      let y_below : lt (magnitude y) (magnitude least_pivot) ≡ true = passed_on x y least_pivot f g limit-finite x_below above in
      absurd (false≢true (sym (not-true _ (sym (may_pivot_lem y g) ∙ may)) ∙ rw limit-magnitude at y_below)))
