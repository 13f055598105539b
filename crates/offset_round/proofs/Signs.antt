-- The sign, and the limit: what a float goes to, and what is beyond.
use Rattle.std.proofs.Common.{◌≡◌, ℕ, zero, suc, ◌+◌, ◌*◌, ◌<◌, ◌≤◌, Bool, true, false, not, ltb, ℤ, sym, refl, ap, ◌∙◌, zero-mul, arith, ltb-false, le-ltb, lt-ltb}
use mathlib.Core.Bool.{false≢true}
use lib.Ieee.{Float, nan, inf, fin, up, down, lt, neg, of_bits}
use lib.Ieee.Fits.{down_pos}
use Rattle.foundation.specs.Answer.{refused, granted}
use Rattle.foundation.specs.Offset.{largest_offset, negative, signed}
use Rattle.foundation.specs.OffsetRounding.{nearest_whole, rounded_to}
use Rattle.foundation.proofs.Nearest.{nearest_whole_lem}
use Rattle.foundation.proofs.Offsets.{reach_over, reach_under}
use Rattle.offset_round.specs.Sizes.{nearest_size, nought, limit, Small}
use Rattle.offset_round.proofs.Sizes.{no_nan, no_inf, minus_zero, fraction_under}

-- zero is not below zero
pub sign_told : (n : ℕ) → (signed (ltb 0 n) n ≡ signed true n) × (negative (signed (ltb 0 n) n) ≡ ltb 0 n)
unfolding signed negative
sign_told zero = (refl, refl)
sign_told (suc n) = rw (lt-ltb 0 (suc n) (omega arith)) (refl, refl)

pub plus_told : (n : ℕ) → negative (signed false n) ≡ false
unfolding signed negative
plus_told n = refl

-- ---- not below zero

nearest_nought : (a b : ℕ) → a ≡ 0 → 0 < b → nearest_whole a b ≡ 0
nearest_nought a b z h = ap (λ (x : ℕ). nearest_whole x b) (z ∙ sym (zero-mul b)) ∙ nearest_whole_lem 0 b h

either_nought : (s : Bool) → signed s 0 ≡ signed false 0
unfolding signed
either_nought false = refl
either_nought true = refl

small-rounds : (x : Float) → Small x → rounded_to x ≡ granted (signed false (nearest_size x))
unfolding rounded_to nearest_size
small-rounds nan p = absurd (no_nan p)
small-rounds (inf s) p = absurd (no_inf s p)
small-rounds (fin false m e) p = reach_under false (m * up e) (down e) (down_pos e) (fraction_under (fin false m e) p)
small-rounds (fin true m e) p =
    reach_under true (m * up e) (down e) (down_pos e) (fraction_under (fin true m e) p)
    ∙ rw (nearest_nought (m * up e) (down e) (minus_zero m e p.not_below) (down_pos e), either_nought true)

pub plus_rounds : (x : Float) (n : ℕ) → Small x → n ≡ nearest_size x → rounded_to x ≡ granted (signed false n)
plus_rounds x n p e = small-rounds x p ∙ ap (λ (k : ℕ). granted (signed false k)) (sym e)

over : (m : ℕ) (e : ℤ) → lt (fin false m e) limit ≡ false → (2 * largest_offset + 1) * down e ≤ m * up e * 2
unfolding lt of_bits
over m e h = ltb-false _ _ h

under : (m : ℕ) (e : ℤ) → lt (fin true m e) limit ≡ false → ⊥
unfolding lt of_bits
under m e h = let l : m * up e * 2 + 2591999999 * down e ≤ 0 = ltb-false 0 (m * up e * 2 + 2591999999 * down e) h in omega (arith, down_pos e)

pub plus_beyond : (x : Float) → lt x nought ≡ false → lt x limit ≡ false → rounded_to x ≡ refused 29 0
unfolding rounded_to
plus_beyond nan p h = refl
plus_beyond (inf s) p h = refl
plus_beyond (fin false m e) p h = reach_over false (m * up e) (down e) (down_pos e) (over m e h)
plus_beyond (fin true m e) p h = absurd (under m e h)

-- ---- below zero: the size of -x

turned : (m : ℕ) (e : ℤ) → lt (fin false m e) nought ≡ false
unfolding lt of_bits
turned m e = le-ltb (m * up e * 1) (0 * down e) (omega (arith, zero-mul (down e)))

no_plus : (m : ℕ) (e : ℤ) → lt (fin false m e) nought ≡ true → ⊥
no_plus m e h = false≢true (sym (turned m e) ∙ h)

turned_over : (x : Float) → lt x nought ≡ true → lt (neg x) nought ≡ false
unfolding neg
turned_over nan h = unfold lt in refl
turned_over (inf true) h = unfold lt of_bits in refl
turned_over (inf false) h = unfold lt of_bits in absurd (false≢true h)
turned_over (fin true m e) h = turned m e
turned_over (fin false m e) h = absurd (no_plus m e h)

module _ (x : Float) (below : lt x nought ≡ true) where
  pub minus_small : lt (neg x) limit ≡ true → Small (neg x)
  minus_small l = record { not_below = turned_over x below; under = l }

minus_rounds_to : (x : Float) → lt x nought ≡ true → lt (neg x) limit ≡ true → rounded_to x ≡ granted (signed true (nearest_size (neg x)))
unfolding rounded_to neg
minus_rounds_to nan h l = absurd (no_nan (minus_small nan h l))
minus_rounds_to (inf s) h l = absurd (no_inf (not s) (minus_small (inf s) h l))
minus_rounds_to (fin false m e) h l = absurd (no_plus m e h)
minus_rounds_to (fin true m e) h l =
    unfold nearest_size in reach_under true (m * up e) (down e) (down_pos e) (fraction_under (fin false m e) (minus_small (fin true m e) h l))

pub minus_rounds : (x : Float) (n : ℕ) → lt x nought ≡ true → lt (neg x) limit ≡ true → n ≡ nearest_size (neg x) → rounded_to x ≡ granted (signed (ltb 0 n) n)
minus_rounds x n h l e = minus_rounds_to x h l ∙ ap (λ (k : ℕ). granted (signed true k)) (sym e) ∙ ap granted (sym (sign_told n).0)

pub minus_beyond : (x : Float) → lt x nought ≡ true → lt (neg x) limit ≡ false → rounded_to x ≡ refused 29 0
unfolding rounded_to neg
minus_beyond nan h l = refl
minus_beyond (inf s) h l = refl
minus_beyond (fin false m e) h l = absurd (no_plus m e h)
minus_beyond (fin true m e) h l = reach_over true (m * up e) (down e) (down_pos e) (over m e l)
