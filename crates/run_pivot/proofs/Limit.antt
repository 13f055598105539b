-- Laws of the limit of a pivot: the code's test of one number, and why what is above the largest f64 below the limit meets it.
use mathlib.Core.Bool.{Bool, true, false, not, ◌&&◌, true≢false}
use mathlib.Core.Path.{◌≡◌, refl, sym, ap, ◌∙◌}
use Prim.Native.Nat.{ℕ, zero, suc, ◌+◌, ◌-◌, ◌*◌, ◌%◌, ◌^◌, ◌≤◌, ◌<◌}
use native.Mathlib.Decide.{dec_lt}
use native.Mathlib.Nat.{zero-mul, one-mul, mul-one, mul_comm, mul_assoc, mul-le-mul_right, mul-lt-mul_of_pos_right, le_of_mul-le-mul_right, lt_of_mul-lt-mul_right}
use native.Mathlib.Omega.{arith}
use lib.Dec.{eqb, ltb, leb}
use lib.Ieee.{Float, nan, inf, fin, binary64, up, down, lt, le, eq, fits}
use lib.Ieee.Fits.{down_pos}
use lib.IntN.{ℤ, pos, negsuc}
use lib.Pow.{pow-lt, pow-add}
use borrow.Author.Tests.{ne_eqb, lt-ltb, le-ltb, leb-true}
use Rattle.lists.proofs.Members.{by_test, and_left, and_right, fails}
use Rattle.foundation.specs.Numbers.{is_zero, finite, magnitude, least_pivot, may_pivot}
use Rattle.foundation.proofs.Magnitudes.{may_pivot_lem}
use Rattle.run_pivot.specs.Pivot.{absolute}
use Rattle.run_pivot.proofs.Magnitudes.{scaled_zero, zero-form, absolute_nonzero, absolute-zero, Positive, number, zero_never}

-- ---- a number by itself

limit_positive : Positive least_pivot
unfolding least_pivot
limit_positive = number 1 (negsuc 1021)

-- a zero of either sign falls short of the limit
zero-short : (s : Bool) (e : ℤ) → le least_pivot (fin s zero e) ≡ false
unfolding le eq least_pivot
zero-short s e =
    rw (zero_never limit_positive s e)
    (rw (ne_eqb (1 * 1 * down e) (0 * up e * down (negsuc 1021)) (apart (down e) (0 * up e * down (negsuc 1021)) (down_pos e) (scaled_zero e (negsuc 1021)))))
  where
    apart : (d z : ℕ) → 0 < d → z ≡ 0 → 1 * 1 * d ≡ z → ⊥
    apart d z p e q = omega arith

-- what may serve is not zero
may_nonzero : (v : Float) → may_pivot v ≡ true → is_zero v ≡ false
unfolding may_pivot magnitude
may_nonzero v may =
    fails (is_zero v) (λ z. let (s, e, form) = zero-form v z in true≢false (sym may ∙ ap may_pivot form ∙ zero-short false e))

-- the code has its magnitude
pub may-absolute : (v : Float) → may_pivot v ≡ true → absolute v ≡ magnitude v
may-absolute v may = absolute_nonzero v (may_nonzero v may)

-- the code's test of one number
pub serves_is : (v : Float) → le least_pivot (absolute v) ≡ may_pivot v
unfolding may_pivot magnitude
serves_is v =
    by_test (is_zero v)
    (λ z. let (s, e, form) = zero-form v z in rw form (ap (le least_pivot) (absolute-zero s e) ∙ zero-short s e ∙ sym (zero-short false e)))
    (λ z. ap (le least_pivot) (absolute_nonzero v z))

-- ---- the largest number below the limit

-- 2 to the power 52, less 1, units of 2 to the power -1074
unfoldable pub largest_faint : Float
largest_faint = fin false 4503599627370495 (negsuc 1073)

pub faint_positive : Positive largest_faint
unfolding largest_faint
faint_positive = number 4503599627370495 (negsuc 1073)

-- a number that has no smaller part than 2 to the power -l is a whole count of these
in_units : (m : ℕ) (e : ℤ) (l : ℕ) → down e ≤ 2 ^ l → (count : ℕ) × (m * up e * 2 ^ l ≡ count * down e)
in_units m (pos k) l h = (m * 2 ^ k * 2 ^ l, sym (mul-one (m * 2 ^ k * 2 ^ l)))
in_units m (negsuc k) l h =
    let within : suc k ≤ l = elim (dec_lt l (suc k)) [ yes g ↦ absurd (omega (arith, pow-lt g)) | no g ↦ omega arith ] in
    let whole : l ≡ (l - suc k) + suc k = omega arith in (
      m * 2 ^ (l - suc k),
      ap (λ (v : ℕ). v * 2 ^ l) (mul-one m) ∙ ap (λ (v : ℕ). m * 2 ^ v) whole ∙ ap (λ (v : ℕ). m * v) (pow-add 2 (l - suc k) (suc k))
          ∙ sym (mul_assoc m (2 ^ (l - suc k)) (2 ^ suc k)),
    )

-- A fraction value / d that is a whole count of units, 1 / units each, is above `below` units just where it is not short of the next count, `next`, which is 1 / limits.
above_is_next :
    (below next units limits value d count : ℕ) → suc below ≡ next → units ≡ limits * next → 0 < d → value * units ≡ count * d
    → ltb (below * d) (value * units) ≡ not (ltb (value * limits) d)
above_is_next below next units limits value d count follows parts positive whole =
    let scaled : value * units ≡ value * limits * next = ap (λ (v : ℕ). value * v) parts ∙ sym (mul_assoc value limits next) in
    elim (dec_lt below count) [
      | yes l ↦
          let reach : next * d ≤ count * d = mul-le-mul_right d (omega arith) in
          let least : d ≤ value * limits = le_of_mul-le-mul_right {k = next} (omega (arith, mul_comm d next)) (omega arith) in
          rw (le-ltb (value * limits) d least) (lt-ltb (below * d) (value * units) (omega (arith, mul-lt-mul_of_pos_right l positive)))
      | no l ↦
          let under : count * d ≤ below * d = mul-le-mul_right d (omega arith) in
          let short : count * d < next * d = mul-lt-mul_of_pos_right (omega arith) positive in
          let less : value * limits < d = lt_of_mul-lt-mul_right next (omega (arith, mul_comm d next)) in
          rw (lt-ltb (value * limits) d less) (le-ltb (below * d) (value * units) (omega arith))
    ]

-- an f64 above that number may serve, and no other
pub above_faint : (v : Float) → finite v ≡ true → fits binary64 v ≡ true → lt largest_faint (magnitude v) ≡ may_pivot v
unfolding finite fits magnitude largest_faint least_pivot lt
above_faint nan f held = absurd (true≢false (sym f))
above_faint (inf s) f held = absurd (true≢false (sym f))
above_faint (fin s m e) f held = compared (units m held) ∙ sym (may_pivot_lem (fin s m e) refl)
  where
    -- an f64 has whole units of 2 to the power -1074
    units : (n : ℕ) → fits binary64 (fin s n e) ≡ true → (count : ℕ) × (n * up e * 2 ^ 1074 ≡ count * down e)
    units zero h = (0, rw (zero-mul (up e), zero-mul (2 ^ 1074), zero-mul (down e)))
    units (suc n) h =
        in_units (suc n) e 1074
        (leb-true _ _ (and_right (eqb (suc n % 2) 1 && ltb (suc n) (2 ^ 53)) (leb (down e) (2 ^ 1074)) (and_left _ (ltb (suc n * up e) (2 ^ 1024 * down e)) h)))

    compared :
        (count : ℕ) × (m * up e * 2 ^ 1074 ≡ count * down e)
        → ltb (4503599627370495 * 1 * down e) (m * up e * 2 ^ 1074) ≡ not (ltb (m * up e * 2 ^ 1022) (1 * 1 * down e))
    compared (count, whole) =
        rw (one-mul (down e))
        (above_is_next 4503599627370495 4503599627370496 (2 ^ 1074) (2 ^ 1022) (m * up e) (down e) count refl refl (down_pos e) whole)
