-- The nearest whole number to a fraction, the even one at a half: it is within a half, and nothing else is.
use mathlib.Core.Path.{◌≡◌, refl, ap, ◌∙◌}
use Prim.Native.Nat.{ℕ, zero, suc, ◌+◌, ◌*◌, ◌/◌, ◌%◌, ◌≤◌, ◌<◌}
use native.Mathlib.Nat.{div-add-mod', mod-lt, suc-mul, add-mul, mul_assoc, one-mul, mul-le-mul_right, mul-div_cancel, mul-mod_left}
use native.Mathlib.Omega.{arith}
use lib.Dec.{ltb}
use borrow.Author.Tests.{ltb-true, ltb-false, lt-ltb}
use Rattle.lists.proofs.Members.{by_test}
use Rattle.foundation.specs.OffsetRounding.{nearest_whole}

-- n is within a half of a / b, and even where it is a half away
pub record Near (a b n : ℕ) : Type 0 where
  pub above : 2 * (n * b) ≤ 2 * a + b
  pub below : 2 * a ≤ 2 * (n * b) + b
  pub even_above : 2 * (n * b) ≡ 2 * a + b → n % 2 ≡ 0
  pub even_below : 2 * a ≡ 2 * (n * b) + b → n % 2 ≡ 0

module _ (a b q r : ℕ) (whole : q * b + r ≡ a) (rest : r < b) where
  near_down : r * 2 < b → Near a b q
  near_down h =
      record { above = omega arith; below = omega arith; even_above = λ e. absurd (omega arith); even_below = λ e. absurd (omega arith) }

  near_up : b < r * 2 → Near a b (suc q)
  near_up h =
      let s : suc q * b ≡ q * b + b = suc-mul q b in
      record { above = omega arith; below = omega arith; even_above = λ e. absurd (omega arith); even_below = λ e. absurd (omega arith) }

  near_tie : r * 2 ≡ b → Near a b (q + q % 2)
  near_tie h = go (q % 2) refl (omega arith)
    where
      go : (k : ℕ) → q % 2 ≡ k → k < 2 → Near a b (q + k)
      go zero e l =
          let s : q + 0 ≡ q = omega arith in
          rw s (record { above = omega arith; below = omega arith; even_above = λ f. absurd (omega arith); even_below = λ f. e })
      go (suc zero) e l =
          let s : q + 1 ≡ suc q = omega arith in
          let m : suc q * b ≡ q * b + b = suc-mul q b in
          rw s (record { above = omega arith; below = omega arith; even_above = λ f. omega arith; even_below = λ f. absurd (omega arith) })
      go (suc (suc k)) e l = absurd (omega arith)

pub nearest_near : (a b : ℕ) → 0 < b → Near a b (nearest_whole a b)
unfolding nearest_whole
nearest_near a b h =
    let w : a / b * b + a % b ≡ a = div-add-mod' a b in
    let r : a % b < b = mod-lt a h in
    by_test (ltb (a % b * 2) b) (λ e. rw e (near_down a b (a / b) (a % b) w r (ltb-true _ _ e)))
    (λ e.
    let low : b ≤ a % b * 2 = ltb-false _ _ e in
    by_test (ltb b (a % b * 2)) (λ f. rw (e, f) (near_up a b (a / b) (a % b) w r (ltb-true _ _ f)))
    (λ f. let high : a % b * 2 ≤ b = ltb-false _ _ f in rw (e, f) (near_tie a b (a / b) (a % b) w r (omega arith))))

-- no other number is: two of them would be neighbours, both even
near_order : (a b n k : ℕ) → 0 < b → Near a b n → Near a b k → n < k → ⊥
near_order a b n k h p q l =
    let m : suc n * b ≤ k * b = mul-le-mul_right b l in
    let s : suc n * b ≡ n * b + b = suc-mul n b in
    let same : k * b ≡ suc n * b = omega (arith, p.below, q.above) in
    let even_n : n % 2 ≡ 0 = p.even_below (omega (arith, p.below, q.above)) in
    let even_k : k % 2 ≡ 0 = q.even_above (omega (arith, p.below, q.above)) in
    let further : suc (suc n) ≤ k = omega arith in
    let t : suc (suc n) * b ≤ k * b = mul-le-mul_right b further in
    let u : suc (suc n) * b ≡ suc n * b + b = suc-mul (suc n) b in
    omega arith

pub near_unique : (a b n k : ℕ) → 0 < b → Near a b n → Near a b k → n ≡ k
near_unique a b n k h p q =
    by_test (ltb n k) (λ e. absurd (near_order a b n k h p q (ltb-true n k e)))
    (λ e.
    by_test (ltb k n) (λ f. absurd (near_order a b k n h q p (ltb-true k n f)))
    (λ f. let x : k ≤ n = ltb-false n k e in let y : n ≤ k = ltb-false k n f in omega arith))

-- a whole number is the nearest one to itself
pub nearest_whole_lem : (n b : ℕ) → 0 < b → nearest_whole (n * b) b ≡ n
unfolding nearest_whole
nearest_whole_lem n b h =
    let q : n * b / b ≡ n = mul-div_cancel n h in
    let r : n * b % b ≡ 0 = mul-mod_left n b in
    rw (r, q, lt-ltb 0 b h)

pub odd_times : (k b : ℕ) → (2 * k + 1) * b ≡ 2 * (k * b) + b
odd_times k b = add-mul (2 * k) 1 b ∙ rw (mul_assoc 2 k b, one-mul b)

-- by twice the fraction: at most an odd k just where a / b is below k and a half
pub under-limit : (a b n k : ℕ) → Near a b n → a * 2 < (2 * k + 1) * b → n ≤ k
under-limit a b n k p l =
    by_test (ltb k n)
    (λ e.
    let m : suc k * b ≤ n * b = mul-le-mul_right b (ltb-true k n e) in
    absurd (omega (arith, p.above, suc-mul k b, odd_times k b)))
    (λ e. ltb-false k n e)

pub over_limit : (a b n k : ℕ) → 0 < b → k % 2 ≡ 1 → Near a b n → (2 * k + 1) * b ≤ a * 2 → k < n
over_limit a b n k h odd p l =
    by_test (ltb k n) (λ e. ltb-true k n e)
    (λ e.
    let le : n ≤ k = ltb-false k n e in
    by_test (ltb n k)
    (λ f.
    let m : suc n * b ≤ k * b = mul-le-mul_right b (ltb-true n k f) in
    absurd (omega (arith, p.below, suc-mul n b, odd_times k b)))
    (λ f.
    let ge : k ≤ n = ltb-false n k f in
    let same : n ≡ k = omega arith in
    let at : n * b ≡ k * b = ap (λ (x : ℕ). x * b) same in
    let even : n % 2 ≡ 0 = p.even_below (omega (arith, p.below, odd_times k b)) in
    absurd (omega arith)))
