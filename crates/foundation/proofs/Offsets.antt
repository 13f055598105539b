-- The theorems about rounding an offset, and about the calls that read and write one.
use mathlib.Core.Bool.{Bool, true, false, false≢true}
use mathlib.Core.Path.{◌≡◌, refl, sym, ap, ◌∙◌}
use Prim.Native.Nat.{ℕ, zero, suc, ◌+◌, ◌*◌, ◌-◌, ◌%◌, ◌≤◌, ◌<◌}
use native.Mathlib.Nat.{mul-one, zero-mul, suc-mul}
use native.Mathlib.Omega.{arith}
use lib.Dec.{leb, ltb, eqb}
use lib.IntN.{ℤ, pos, negsuc, neg_ℤ, nat_abs, sub_ℕ, ◌-ℤ◌, ◌*ℤ◌}
use lib.Ieee.{Float, nan, inf, fin, binary64, up, down, of_int}
use lib.Ieee.Bits.{is_true}
use lib.Ieee.Fits.{down_pos, of_int-fits}
use lib.Ieee.Exact.{HasValue}
use lib.Ieee.Back.{round_whole}
use lib.ListN.{length}
use borrow.Author.Tests.{le-leb, lt-leb, leb-true, leb-false, ltb-true, ltb-false, eq-eqb, eqb-true}
use Rattle.lists.proofs.Members.{by_test}
use Rattle.lists.proofs.Places.{padded-full}
use Rattle.foundation.specs.Answer.{refused, granted, refuse_if, result_store}
use Rattle.foundation.specs.Numbers.{finite, float_of}
use Rattle.foundation.specs.Text.{ascii}
use Rattle.foundation.specs.Offset.{largest_offset, negative, signed, sign_byte, two_digits, three_digits, text_with, text_of}
use Rattle.foundation.specs.OffsetRounding.{nearest_whole, within_reach, rounded_to}
use Rattle.foundation.specs.OffsetCall.{write_offset, write_leaves}
use Rattle.foundation.specs.Claims.Offsets.{ReadsTexts, WithinHalf, OnlyNearest, BeyondLargest, FloatEqual, ZeroWithPlus, WrittenReads, ReadWrites}
use Rattle.foundation.proofs.Nearest.{Near, nearest_near, nearest_whole_lem, near_unique, under-limit, over_limit}
use Rattle.foundation.proofs.Stores.{not-granted}
use Rattle.foundation.proofs.OffsetTexts.{size_of_signed, own_sign, text-length, reads_texts}

-- ---- the f64 of a whole number

pub float_equal : FloatEqual
unfolding FloatEqual float_of of_int negative
float_equal (pos n) h = (round_whole binary64 false n (omega arith), is_true _ (of_int-fits binary64 (pos n)))
float_equal (negsuc n) h = (round_whole binary64 true (suc n) (omega arith), is_true _ (of_int-fits binary64 (negsuc n)))

-- what has a whole number's value rounds to it
value-rounds : (x : Float) (s : Bool) (n : ℕ) → HasValue x s n 1 → n ≤ largest_offset → rounded_to x ≡ granted (signed s n)
unfolding rounded_to within_reach
value-rounds nan s n v h = absurd v
value-rounds (inf t) s n v h = absurd v
value-rounds (fin t m e) s n v h =
    let a : m * up e ≡ n * down e = sym (mul-one (m * up e)) ∙ v.1 in
    let is : nearest_whole (m * up e) (down e) ≡ n = ap (λ (x : ℕ). nearest_whole x (down e)) a ∙ nearest_whole_lem n (down e) (down_pos e) in
    rw (is, le-leb n largest_offset h, v.0)

float-rounds : (w : ℤ) → nat_abs w ≤ largest_offset → rounded_to (float_of w) ≡ granted w
unfolding FloatEqual
float-rounds w h = value-rounds (float_of w) (negative w) (nat_abs w) (float_equal w h).0 h ∙ ap granted (own_sign w)

-- ---- how far apart two whole numbers are

sub-apart : (a b : ℕ) → nat_abs (sub_ℕ a b) ≡ (a - b) + (b - a)
sub-apart a b =
    by_test (ltb a b) (λ e. let l : a < b = ltb-true a b e in rw e (omega arith)) (λ e. let l : b ≤ a = ltb-false a b e in rw e (omega arith))

-- on the same side of zero
apart : (s : Bool) (x y : ℕ) → nat_abs (signed s x -ℤ signed s y) ≡ (x - y) + (y - x)
unfolding signed
apart false x zero = omega arith
apart false x (suc y) = sub-apart x (suc y)
apart true zero zero = refl
apart true zero (suc y) = omega arith
apart true (suc x) zero = sub-apart 0 (suc x) ∙ omega arith
apart true (suc x) (suc y) = sub-apart (suc y) (suc x) ∙ omega arith

-- on either side of it
across : (q a : ℕ) → nat_abs (neg_ℤ (pos q) -ℤ pos a) ≡ q + a
across zero zero = refl
across zero (suc a) = sub-apart 0 (suc a) ∙ omega arith
across (suc q) zero = sub-apart 0 (suc q) ∙ omega arith
across (suc q) (suc a) = omega arith

across_back : (q a : ℕ) → nat_abs (pos q -ℤ neg_ℤ (pos a)) ≡ q + a
across_back q zero = refl
across_back q (suc a) = refl

scaled : (s : Bool) (n b : ℕ) → signed s n *ℤ pos b ≡ signed s (n * b)
unfolding signed
scaled false n b = refl
scaled true zero b = rw (zero-mul b)
scaled true (suc n) b = refl

-- ---- within half a milliarcsecond

half_apart : (a b n : ℕ) → Near a b n → (2 * ((n * b - a) + (a - n * b)) ≤ b) × (2 * ((n * b - a) + (a - n * b)) ≡ b → n % 2 ≡ 0)
half_apart a b n p =
    by_test (leb (n * b) a)
    (λ e.
    let low : n * b ≤ a = leb-true (n * b) a e in
    (omega (arith, p.below), λ h. p.even_below (omega arith)))
    (λ e.
    let high : a < n * b = leb-false (n * b) a e in
    (omega (arith, p.above), λ h. p.even_above (omega arith)))

pub within_half : WithinHalf
unfolding WithinHalf write_offset refuse_if rounded_to within_reach
within_half s m e w =
    let a = m * up e in
    let b = down e in
    let n = nearest_whole a b in
    by_test (leb n largest_offset)
    (λ t.
    rw t
    (λ h.
    let same : signed s n ≡ w = cc in
    let far : nat_abs (w *ℤ pos b -ℤ signed s a) ≡ (n * b - a) + (a - n * b) = rw (← same, scaled s n b) (apart s (n * b) a) in
    let size : nat_abs w ≡ n = rw (← same) (size_of_signed s n) in
    let (near, even) = half_apart a b n (nearest_near a b (down_pos e)) in
    let small : n ≤ largest_offset = leb-true n largest_offset t in
    rw (far, size) (near, even, small)))
    (λ t. rw t (λ h. not-granted 29 0 h))

-- ---- nothing else is

near_of : (a b n : ℕ) → 2 * ((n * b - a) + (a - n * b)) ≤ b → (2 * ((n * b - a) + (a - n * b)) ≡ b → n % 2 ≡ 0) → Near a b n
near_of a b n h even =
    record { above = omega arith; below = omega arith; even_above = λ e. even (omega arith); even_below = λ e. even (omega arith) }

nought_near : (a b : ℕ) → 2 * (0 * b + a) ≤ b → Near a b 0
nought_near a b h =
    let z : 0 * b ≡ 0 = zero-mul b in
    record { above = omega arith; below = omega arith; even_above = λ e. refl; even_below = λ e. refl }

nearest_is : (s : Bool) (a b n : ℕ) (k : ℤ) → 0 < b → Near a b n → 2 * nat_abs (k *ℤ pos b -ℤ signed s a) ≤ b
    → (2 * nat_abs (k *ℤ pos b -ℤ signed s a) ≡ b → nat_abs k % 2 ≡ 0) → k ≡ signed s n
unfolding signed
nearest_is false a b n (pos k) p near h even =
    let far : nat_abs (pos (k * b) -ℤ pos a) ≡ (k * b - a) + (a - k * b) = apart false (k * b) a in
    ap pos (near_unique a b k n p (near_of a b k (rw far at h) (rw far at even)) near)
nearest_is false a b n (negsuc k) p near h even =
    let far = rw (across (suc k * b) a) at h in
    absurd (omega (arith, far, suc-mul k b))
nearest_is true a b n (pos zero) p near h even =
    let far = rw (across_back (0 * b) a) at h in
    ap (λ (x : ℕ). neg_ℤ (pos x)) (near_unique a b 0 n p (nought_near a b far) near)
nearest_is true a b n (pos (suc k)) p near h even =
    let far = rw (across_back (suc k * b) a) at h in
    absurd (omega (arith, far, suc-mul k b))
nearest_is true a b n (negsuc k) p near h even =
    let far : nat_abs (neg_ℤ (pos (suc k * b)) -ℤ neg_ℤ (pos a)) ≡ (suc k * b - a) + (a - suc k * b) = apart true (suc k * b) a in
    ap (λ (x : ℕ). neg_ℤ (pos x)) (near_unique a b (suc k) n p (near_of a b (suc k) (rw far at h) (rw far at even)) near)

pub only_nearest : OnlyNearest
unfolding OnlyNearest write_offset refuse_if rounded_to within_reach
only_nearest s m e w other =
    let n = nearest_whole (m * up e) (down e) in
    by_test (leb n largest_offset)
    (λ t.
    rw t
    (λ h close even.
    let same : signed s n ≡ w = cc in
    nearest_is s (m * up e) (down e) n other (down_pos e) (nearest_near (m * up e) (down e) (down_pos e)) close even ∙ same))
    (λ t. rw t (λ h close even. not-granted 29 0 h))

-- ---- 29

module _ (s : Bool) (a b : ℕ) (positive : 0 < b) where
  -- from the largest and a half on
  pub reach_over : (2 * largest_offset + 1) * b ≤ a * 2 → within_reach s (nearest_whole a b) ≡ refused 29 0
  unfolding within_reach
  reach_over h = rw (lt-leb (nearest_whole a b) largest_offset (over_limit a b (nearest_whole a b) largest_offset positive refl (nearest_near a b positive) h))

  -- below that
  pub reach_size : a * 2 < (2 * largest_offset + 1) * b → nearest_whole a b ≤ largest_offset
  reach_size h = under-limit a b (nearest_whole a b) largest_offset (nearest_near a b positive) h

  pub reach_under : a * 2 < (2 * largest_offset + 1) * b → within_reach s (nearest_whole a b) ≡ granted (signed s (nearest_whole a b))
  unfolding within_reach
  reach_under h = rw (le-leb (nearest_whole a b) largest_offset (reach_size h))

no_number : (x : Float) → finite x ≡ false → rounded_to x ≡ refused 29 0
unfolding finite rounded_to
no_number nan h = refl
no_number (inf s) h = refl
no_number (fin s m e) h = absurd (false≢true (sym h))

pub beyond-largest : BeyondLargest
unfolding BeyondLargest write_offset refuse_if rounded_to
beyond-largest = (
  no_number,
  λ s m e. (
    λ h. reach_over s (m * up e) (down e) (down_pos e) (omega arith),
    λ h. (signed s (nearest_whole (m * up e) (down e)), reach_under s (m * up e) (down e) (down_pos e) (omega arith)),
  ),
)

-- ---- the calls

leaves-text : (room : ℕ) (x : Float) (w : ℤ) → room ≡ 14 → rounded_to x ≡ granted w → (write_offset room x ≡ granted w) × (write_leaves room x ≡ text_of w)
unfolding write_offset write_leaves refuse_if result_store
leaves-text room x w fits e =
    let full : room ≡ length (text_of w) = fits ∙ sym (text-length w) in
    rw (eq-eqb room 14 fits, e) (refl, rw full (padded-full 0 (text_of w)))

rounds-small : (x : Float) (w : ℤ) → rounded_to x ≡ granted w → nat_abs w ≤ largest_offset
unfolding rounded_to WithinHalf write_offset refuse_if
rounds-small nan w h = not-granted 29 0 h
rounds-small (inf s) w h = not-granted 29 0 h
rounds-small (fin s m e) w h = (within_half s m e w h).2

pub zero_with_plus : ZeroWithPlus
unfolding ZeroWithPlus write_offset refuse_if text_of text_with three_digits two_digits sign_byte negative ascii
zero_with_plus x h = (leaves-text 14 x (pos 0) refl h).1

pub written_reads : WrittenReads
unfolding WrittenReads ReadsTexts write_offset refuse_if
written_reads room x w =
    by_test (eqb room 14)
    (λ t. rw t (λ h. (reads_texts (write_leaves room x) w (float_of w)).1 ((leaves-text room x w (eqb-true room 14 t) h).1, rounds-small x w h, refl)))
    (λ t. rw t (λ h. not-granted 6 0 h))

pub read-writes : ReadWrites
unfolding ReadWrites ReadsTexts
read-writes text w x h =
    let (is, small, value) = (reads_texts text w x).0 h in
    let made = leaves-text 14 (float_of w) w refl (float-rounds w small) in
    rw value (made.0, made.1 ∙ sym is)
