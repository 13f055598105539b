-- A fraction a / b beside k / 2, which another fraction c / d is equal to: the comparison crosswise is that of twice a with k times b.
use Rattle.std.proofs.Common.{◌≡◌, ℕ, ◌+◌, ◌*◌, ◌/◌, ◌%◌, ◌<◌, ◌≤◌, true, false, ltb, ap, ◌∙◌, lt_of_mul-lt-mul_right, div-add-mod', mul_right_comm, le_of_mul-le-mul_right, arith, ltb-false, ltb-true, le-ltb, lt-ltb}
use Rattle.foundation.specs.OffsetRounding.{nearest_whole}
use Rattle.foundation.proofs.Nearest.{odd_times}

module _ (a b c d k : ℕ) (positive : 0 < d) (value : c * 2 ≡ k * d) where
  left : a * d * 2 ≡ a * 2 * d
  left = mul_right_comm a d 2

  right : c * b * 2 ≡ k * b * d
  right = mul_right_comm c b 2 ∙ ap (λ (x : ℕ). x * b) value ∙ mul_right_comm k d b

  less : a * d < c * b → a * 2 < k * b
  less h = lt_of_mul-lt-mul_right d (omega (arith, left, right))

  more : c * b < a * d → k * b < a * 2
  more h = lt_of_mul-lt-mul_right d (omega (arith, left, right))

  not_less : c * b ≤ a * d → k * b ≤ a * 2
  not_less h = le_of_mul-le-mul_right (omega (arith, left, right)) positive

  not_more : a * d ≤ c * b → a * 2 ≤ k * b
  not_more h = le_of_mul-le-mul_right (omega (arith, left, right)) positive

-- the half beside the whole part t of a / b: which of the three cases of rounding it is
module _ (a b c d t : ℕ) (part : t ≡ a / b) (positive : 0 < d) (value : c * 2 ≡ (2 * t + 1) * d) where
  whole : t * b + a % b ≡ a
  whole = rw part (div-add-mod' a b)

  pub rounds-down : ltb (a * d) (c * b) ≡ true → t ≡ nearest_whole a b
  unfolding nearest_whole
  rounds-down e =
      let l : a * 2 < (2 * t + 1) * b = less a b c d (2 * t + 1) positive value (ltb-true _ _ e) in
      let r : ltb (a % b * 2) b ≡ true = lt-ltb (a % b * 2) b (omega (arith, whole, odd_times t b)) in
      rw r part

  pub rounds_up : ltb (c * b) (a * d) ≡ true → t + 1 ≡ nearest_whole a b
  unfolding nearest_whole
  rounds_up f =
      let l : (2 * t + 1) * b < a * 2 = more a b c d (2 * t + 1) positive value (ltb-true _ _ f) in
      let r : ltb (a % b * 2) b ≡ false = le-ltb (a % b * 2) b (omega (arith, whole, odd_times t b)) in
      let s : ltb b (a % b * 2) ≡ true = lt-ltb b (a % b * 2) (omega (arith, whole, odd_times t b)) in
      rw (r, s) (omega arith)

  pub rounds_even : ltb (a * d) (c * b) ≡ false → ltb (c * b) (a * d) ≡ false → t + t % 2 ≡ nearest_whole a b
  unfolding nearest_whole
  rounds_even e f =
      let l : (2 * t + 1) * b ≤ a * 2 = not_less a b c d (2 * t + 1) positive value (ltb-false _ _ e) in
      let m : a * 2 ≤ (2 * t + 1) * b = not_more a b c d (2 * t + 1) positive value (ltb-false _ _ f) in
      let r : ltb (a % b * 2) b ≡ false = le-ltb (a % b * 2) b (omega (arith, whole, odd_times t b)) in
      let s : ltb b (a % b * 2) ≡ false = le-ltb b (a % b * 2) (omega (arith, whole, odd_times t b)) in
      rw (r, s, part)
