-- The sizes that the code rounds: their fractions, the whole part, the half behind it, and the three ways to round.
use Rattle.std.proofs.Common.{◌≡◌, ℕ, ◌+◌, ◌*◌, ◌/◌, ◌%◌, ◌^◌, ◌<◌, ◌≤◌, min, Bool, true, false, T, ltb, ℤ, pos, sym, refl, ap, ◌∙◌, subst, true≢false, lt_of_lt_of_le, zero-lt-suc, mul_assoc, div-lt_iff_lt-mul, pow-suc, zero-add, zero-mul, mul-one, arith, lit≤, le→leb, lt→ltb, pow_mono, shl_lt, ltb-false, ltb-true, le-ltb}
use mathlib.Core.Bool.{false≢true}
use lib.Ieee.{Float, nan, inf, fin, binary64, up, down, lt, mul, of_bits, of_int, round, to_unsigned, in_float}
use lib.Ieee.Fits.{down_pos}
use lib.Ieee.Exact.{HasValue, round_exact}
use lib.Ieee.Back.{round_whole}
use lib.Ieee.Positive.{num, den, den_pos, positive_of_value, mul_at}
use Rattle.foundation.specs.Offset.{largest_offset}
use Rattle.foundation.specs.OffsetRounding.{nearest_whole}
use Rattle.foundation.proofs.Offsets.{reach_size}
use Rattle.offset_round.specs.Sizes.{nearest_size, nought, one_half, limit, Small}
use Rattle.offset_round.proofs.Halves.{rounds-down, rounds_up, rounds_even}

-- ---- which floats are small

pub no_nan : Small nan → ⊥
unfolding lt
no_nan p = false≢true p.under

pub no_inf : (s : Bool) → Small (inf s) → ⊥
unfolding lt of_bits
no_inf s p = false≢true (sym p.not_below ∙ p.under)

-- of those with a minus, zero alone
pub minus_zero : (m : ℕ) (e : ℤ) → lt (fin true m e) nought ≡ false → m * up e ≡ 0
unfolding lt of_bits
minus_zero m e h =
    let l : m * up e * 1 + 0 * down e ≤ 0 = ltb-false 0 (m * up e * 1 + 0 * down e) h in
    omega (arith, zero-mul (down e))

plus_under : (m : ℕ) (e : ℤ) → lt (fin false m e) limit ≡ true → m * up e * 2 < 2591999999 * down e
unfolding lt of_bits
plus_under m e h = ltb-true _ _ h

-- ---- a small float as a fraction

pub fraction_under : (x : Float) → Small x → num x * 2 < (2 * largest_offset + 1) * den x
fraction_under nan p = absurd (no_nan p)
fraction_under (inf s) p = absurd (no_inf s p)
fraction_under (fin false m e) p = plus_under m e p.under
fraction_under (fin true m e) p = let z = minus_zero m e p.not_below in omega (arith, down_pos e)

nearest_fraction : (x : Float) → Small x → nearest_size x ≡ nearest_whole (num x) (den x)
unfolding nearest_size
nearest_fraction nan p = absurd (no_nan p)
nearest_fraction (inf s) p = absurd (no_inf s p)
nearest_fraction (fin s m e) p = refl

pub nearest_small : (x : Float) → Small x → nearest_size x ≤ largest_offset
nearest_small x p = rw (nearest_fraction x p) (reach_size false (num x) (den x) (den_pos x) (fraction_under x p))

no_part : (z w c : ℕ) → z ≡ 0 → (ltb 0 (z * w + c) ≡ ltb (z * w) c) × (false ≡ ltb c (z * w))
no_part z w c none = rw (none, zero-mul w) (rw (zero-add c) refl, sym (le-ltb c 0 (omega arith)))

-- beside a float without minus: compared crosswise
beside : (x : Float) → Small x → (n : ℕ) (d : ℤ)
    → (lt x (fin false n d) ≡ ltb (num x * down d) (n * up d * den x)) × (lt (fin false n d) x ≡ ltb (n * up d * den x) (num x * down d))
unfolding lt
beside nan p n d = absurd (no_nan p)
beside (inf s) p n d = absurd (no_inf s p)
beside (fin false m e) p n d = (refl, refl)
beside (fin true m e) p n d = no_part (m * up e) (down d) (n * up d * down e) (minus_zero m e p.not_below)

-- ---- the whole part

pub above_minus_one : (x : Float) → Small x → T (lt (fin true 1 (pos 0)) x)
unfolding lt
above_minus_one nan p = absurd (no_nan p)
above_minus_one (inf s) p = absurd (no_inf s p)
above_minus_one (fin false m e) p = lt→ltb 0 (1 * down e + m * up e * 1) (omega (arith, down_pos e))
above_minus_one (fin true m e) p = let z = minus_zero m e p.not_below in lt→ltb (m * up e * 1) (1 * down e) (omega (arith, down_pos e))

pub below_word : (x : Float) → Small x → T (lt x (fin false 1 (pos 64)))
unfolding lt
below_word nan p = absurd (no_nan p)
below_word (inf s) p = absurd (no_inf s p)
below_word (fin false m e) p = lt→ltb (m * up e * 1) (18446744073709551616 * down e) (omega (arith, down_pos e, plus_under m e p.under))
below_word (fin true m e) p = lt→ltb 0 (m * up e * 1 + 18446744073709551616 * down e) (omega (arith, down_pos e))

part_small : (x : Float) → Small x → num x / den x < 1296000000
part_small x p = (div-lt_iff_lt-mul (den_pos x)).1 (omega (arith, den_pos x, fraction_under x p))

capped : (a : ℕ) → a < 1296000000 → min a 18446744073709551615 ≡ a
capped a h = omega arith

whole_part : (x : Float) → Small x → to_unsigned 64 x ≡ num x / den x
unfolding to_unsigned
whole_part nan p = absurd (no_nan p)
whole_part (inf s) p = absurd (no_inf s p)
whole_part (fin false m e) p = capped _ (part_small (fin false m e) p)
whole_part (fin true m e) p =
    let z = minus_zero m e p.not_below in
    let l : m * up e / down e < 1 = (div-lt_iff_lt-mul (down_pos e)).1 (omega (arith, down_pos e)) in
    omega arith

-- the code's whole part, and its bound
pub part_of : (x : Float) → Small x → (t : ℕ) → t ≡ to_unsigned 64 x → (t ≡ num x / den x) × (t < 1296000000)
part_of x p t e =
    let is : t ≡ num x / den x = e ∙ whole_part x p in
    (is, omega (arith, is, part_small x p))

-- ---- the half behind it

pub counts : (t : ℕ) → t < 1296000000 → T (in_float binary64 (pos (2 * t + 1)))
unfolding in_float
counts t h = le→leb (2 * t + 1) 9007199254740992 (omega arith)

pub half_value : (t : ℕ) → t < 1296000000 → HasValue (mul binary64 (of_int binary64 (pos (2 * t + 1))) one_half) false (2 * t + 1) 2
unfolding of_int of_bits
half_value t h =
    let k = 2 * t + 1 in
    let small : k < 2 ^ 53 = omega arith in
    let v : HasValue (round binary64 false k 1) false k 1 = round_whole binary64 false k (omega arith) in
    let one : HasValue one_half false 1 2 = (refl, refl) in
    let is : mul binary64 (round binary64 false k 1) one_half ≡ round binary64 false (k * 1) (1 * 2) =
    mul_at binary64 (round binary64 false k 1) one_half k 1 1 2 (positive_of_value (round binary64 false k 1) k 1 v (omega arith)) tt (zero-lt-suc 0) (zero-lt-suc 1) v one in
    let room : k * 2 ^ 1073 < 2 ^ (1074 + 1024) = lt_of_lt_of_le (shl_lt 53 1073 small) (pow_mono (lit≤ {m = 1126} {n = 2098} tt)) in
    let scale : k * 1 * 2 ^ 1074 ≡ k * 2 ^ 1073 * (1 * 2) = ap (λ (x : ℕ). x * 2 ^ 1074) (mul-one k) ∙ ap (λ (x : ℕ). k * x) (pow-suc 2 1073) ∙ sym (mul_assoc k (2 ^ 1073) 2) in
    let exact : HasValue (round binary64 false (k * 1) (1 * 2)) false (k * 1) (1 * 2) = round_exact binary64 false (k * 1) (1 * 2) k 1073 (zero-lt-suc 1) small room scale in
    subst (λ (x : Float). HasValue x false k 2) (sym is) (subst (λ (y : ℕ). HasValue (round binary64 false (k * 1) (1 * 2)) false y 2) (mul-one k) exact)

-- ---- the three ways to round

module _ (x : Float) (small : Small x) (t : ℕ) (part : t ≡ num x / den x) where
  pub goes_down : (h : Float) → HasValue h false (2 * t + 1) 2 → lt x h ≡ true → t ≡ nearest_size x
  goes_down nan v e = absurd v
  goes_down (inf u) v e = absurd v
  goes_down (fin true n d) v e = absurd (true≢false v.0)
  goes_down (fin false n d) v e =
      rounds-down (num x) (den x) (n * up d) (down d) t part (down_pos d) v.1 (sym (beside x small n d).0 ∙ e) ∙ sym (nearest_fraction x small)

  pub goes_up : (h : Float) → HasValue h false (2 * t + 1) 2 → lt h x ≡ true → t + 1 ≡ nearest_size x
  goes_up nan v f = absurd v
  goes_up (inf u) v f = absurd v
  goes_up (fin true n d) v f = absurd (true≢false v.0)
  goes_up (fin false n d) v f =
      rounds_up (num x) (den x) (n * up d) (down d) t part (down_pos d) v.1 (sym (beside x small n d).1 ∙ f) ∙ sym (nearest_fraction x small)

  pub goes_even : (h : Float) → HasValue h false (2 * t + 1) 2 → lt x h ≡ false → lt h x ≡ false → t + t % 2 ≡ nearest_size x
  goes_even nan v e f = absurd v
  goes_even (inf u) v e f = absurd v
  goes_even (fin true n d) v e f = absurd (true≢false v.0)
  goes_even (fin false n d) v e f =
      rounds_even (num x) (den x) (n * up d) (down d) t part (down_pos d) v.1 (sym (beside x small n d).0 ∙ e) (sym (beside x small n d).1 ∙ f)
      ∙ sym (nearest_fraction x small)

pub still_small : (r n : ℕ) → r ≡ n → n ≤ largest_offset → r ≤ largest_offset
still_small r n e h = omega arith
