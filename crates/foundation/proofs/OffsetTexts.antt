-- A text reads as the whole number whose text it is, and nothing else reads.
use mathlib.Core.Bool.{Bool, true, false, not, ◌&&◌, ◌||◌, false≢true}
use mathlib.Core.Logic.{◌⊎◌, inl, inr}
use mathlib.Core.List.{List, [], ◌∷◌, map}
use mathlib.Core.Path.{◌≡◌, refl, sym, ap, ◌∙◌}
use Prim.Native.Nat.{ℕ, zero, suc, ◌+◌, ◌*◌, ◌-◌, ◌/◌, ◌%◌, ◌≤◌, ◌<◌}
use native.Mathlib.Nat.{zero-add, div-div-eq-div-mul}
use native.Mathlib.Omega.{arith}
use lib.Dec.{eqb, ltb, leb}
use lib.IntN.{ℤ, pos, negsuc, nat_abs}
use lib.Ieee.{Float}
use lib.ListN.{length, get_or}
use lib.Seq.{ext_get_or}
use borrow.Author.Tests.{le-leb, lt-ltb, ne_eqb, eqb-true, ltb-true, leb-true, not-true}
use Rattle.lists.specs.Sets.{run}
use Rattle.lists.proofs.Members.{by_test, and_left, and_right, or_true_cases}
use Rattle.lists.proofs.Places.{length-map_run, get_or-map_run}
use Rattle.foundation.specs.Answer.{Answer, refused, granted, and_then}
use Rattle.foundation.specs.Text.{ascii}
use Rattle.foundation.specs.Offset.{largest_offset, negative, signed, sign_byte, two_digits, three_digits, text_with, text_of}
use Rattle.foundation.specs.OffsetReading.{is_digit, form, may_stand, has_form, digit_at, two_at, three_at, degrees, minutes, seconds, thousandths, in_range, size_read, minus_read, readable, read_as}
use Rattle.foundation.specs.Numbers.{float_of}
use Rattle.foundation.specs.OffsetCall.{read_offset}
use Rattle.foundation.specs.Claims.Offsets.{ReadsTexts, OtherTexts}
use Rattle.foundation.proofs.Stores.{not-granted, same_granted}

-- ---- signs and sizes

pub size_of_signed : (minus : Bool) (n : ℕ) → nat_abs (signed minus n) ≡ n
unfolding signed
size_of_signed false n = refl
size_of_signed true zero = refl
size_of_signed true (suc n) = refl

-- but for minus zero, the sign stays
sign_of_signed : (minus : Bool) (n : ℕ) → minus && eqb n 0 ≡ false → negative (signed minus n) ≡ minus
unfolding signed negative
sign_of_signed false n h = refl
sign_of_signed true zero h = absurd (false≢true (sym h))
sign_of_signed true (suc n) h = refl

pub own_sign : (w : ℤ) → signed (negative w) (nat_abs w) ≡ w
unfolding signed negative
own_sign (pos n) = refl
own_sign (negsuc n) = refl

never_minus_zero : (w : ℤ) → negative w && eqb (nat_abs w) 0 ≡ false
unfolding negative
never_minus_zero (pos n) = refl
never_minus_zero (negsuc n) = ne_eqb (suc n) 0 (λ e. absurd (omega arith))

text_of_signed : (minus : Bool) (n : ℕ) → minus && eqb n 0 ≡ false → text_with minus n ≡ text_of (signed minus n)
unfolding text_of
text_of_signed minus n h = rw (sign_of_signed minus n h, size_of_signed minus n)

pub text-length : (w : ℤ) → length (text_of w) ≡ 14
unfolding text_of text_with three_digits two_digits
text-length w = refl

-- ---- digits

is_digit_lem : (d : ℕ) → d < 10 → is_digit (48 + d) ≡ true
unfolding is_digit
is_digit_lem d h = rw (le-leb 48 (48 + d) (omega arith), le-leb (48 + d) 57 (omega arith))

digit_bounds : (b : ℕ) → is_digit b ≡ true → (48 ≤ b) × (b ≤ 57)
unfolding is_digit
digit_bounds b e = (leb-true 48 b (and_left (leb 48 b) (leb b 57) e), leb-true b 57 (and_right (leb 48 b) (leb b 57) e))

-- the parts of a size, put together again
parts_join : (n : ℕ) → 1000 * (60 * (60 * (n / 3600000) + n / 60000 % 60) + n / 1000 % 60) + n % 1000 ≡ n
parts_join n =
    let a : n / 1000 / 60 ≡ n / 60000 = div-div-eq-div-mul n 1000 60 in
    let b : n / 60000 / 60 ≡ n / 3600000 = div-div-eq-div-mul n 60000 60 in
    rw (← b, ← a) (omega arith)

-- and a size put together from parts in range, taken apart
parts_back : (d m s t n : ℕ) → 1000 * (60 * (60 * d + m) + s) + t ≡ n → m < 60 → s < 60 → t < 1000
    → (n / 3600000 ≡ d) × (n / 60000 % 60 ≡ m) × (n / 1000 % 60 ≡ s) × (n % 1000 ≡ t)
parts_back d m s t n e f g h =
    let a : n / 1000 / 60 ≡ n / 60000 = div-div-eq-div-mul n 1000 60 in
    let b : n / 60000 / 60 ≡ n / 3600000 = div-div-eq-div-mul n 60000 60 in
    let k : n / 1000 ≡ 60 * (60 * d + m) + s = omega arith in
    let l : n / 60000 ≡ 60 * d + m = omega arith in
    (omega arith, omega arith, omega arith, omega arith)

-- ---- the text of a size reads as it

two_is : (d : ℕ) → d < 100 → 10 * (48 + d / 10 - 48) + (48 + d % 10 - 48) ≡ d
two_is d h = omega arith

three_is : (d : ℕ) → d < 1000 → 100 * (48 + d / 100 - 48) + (10 * (48 + d % 100 / 10 - 48) + (48 + d % 100 % 10 - 48)) ≡ d
three_is d h = omega arith

sign_stands : (minus : Bool) → eqb (sign_byte minus) 43 || eqb (sign_byte minus) 45 ≡ true
unfolding sign_byte
sign_stands false = refl
sign_stands true = refl

module _ (minus : Bool) (n : ℕ) (small : n ≤ largest_offset) where
  text-degrees : degrees (text_with minus n) ≡ n / 3600000
  unfolding degrees three_at two_at digit_at text_with three_digits two_digits
  text-degrees = three_is (n / 3600000) (omega arith)

  text-minutes : minutes (text_with minus n) ≡ n / 60000 % 60
  unfolding minutes two_at digit_at text_with three_digits two_digits
  text-minutes = two_is (n / 60000 % 60) (omega arith)

  text-seconds : seconds (text_with minus n) ≡ n / 1000 % 60
  unfolding seconds two_at digit_at text_with three_digits two_digits
  text-seconds = two_is (n / 1000 % 60) (omega arith)

  text-thousandths : thousandths (text_with minus n) ≡ n % 1000
  unfolding thousandths three_at two_at digit_at text_with three_digits two_digits
  text-thousandths = three_is (n % 1000) (omega arith)

  text_size : size_read (text_with minus n) ≡ n
  unfolding size_read
  text_size = rw (text-degrees, text-minutes, text-seconds, text-thousandths) (parts_join n)

  text_in_range : in_range (text_with minus n) ≡ true
  unfolding in_range
  text_in_range =
      let a : ltb (degrees (text_with minus n)) 360 ≡ true = rw text-degrees (lt-ltb (n / 3600000) 360 (omega arith)) in
      let b : ltb (minutes (text_with minus n)) 60 ≡ true = rw text-minutes (lt-ltb (n / 60000 % 60) 60 (omega arith)) in
      let c : ltb (seconds (text_with minus n)) 60 ≡ true = rw text-seconds (lt-ltb (n / 1000 % 60) 60 (omega arith)) in
      rw (a, b, c)

  text_minus : minus_read (text_with minus n) ≡ minus
  unfolding minus_read text_with
  text_minus = which minus
    where
      which : (m : Bool) → eqb (sign_byte m) 45 ≡ m
      which false = unfold sign_byte in refl
      which true = unfold sign_byte in refl

  text-has-form : has_form form (text_with minus n) ≡ true
  unfolding has_form form ascii may_stand text_with three_digits two_digits
  text-has-form =
      rw (
        sign_stands minus,
        is_digit_lem (n / 3600000 / 100) (omega arith),
        is_digit_lem (n / 3600000 % 100 / 10) (omega arith),
        is_digit_lem (n / 3600000 % 100 % 10) (omega arith),
        is_digit_lem (n / 60000 % 60 / 10) (omega arith),
        is_digit_lem (n / 60000 % 60 % 10) (omega arith),
        is_digit_lem (n / 1000 % 60 / 10) (omega arith),
        is_digit_lem (n / 1000 % 60 % 10) (omega arith),
        is_digit_lem (n % 1000 / 100) (omega arith),
        is_digit_lem (n % 1000 % 100 / 10) (omega arith),
        is_digit_lem (n % 1000 % 100 % 10) (omega arith),
      )

  text_reads : minus && eqb n 0 ≡ false → read_as (text_with minus n) ≡ granted (signed minus n)
  unfolding read_as readable
  text_reads h = rw (text-has-form, text_in_range, text_minus, text_size, h)

pub reads_back : (w : ℤ) → nat_abs w ≤ largest_offset → read_as (text_of w) ≡ granted w
unfolding text_of
reads_back w h = text_reads (negative w) (nat_abs w) h (never_minus_zero w) ∙ ap granted (own_sign w)

-- ---- what has the form

pub form-length : (kinds text : List ℕ) → has_form kinds text ≡ true → length text ≡ length kinds
unfolding has_form
form-length [] [] h = refl
form-length [] (b ∷ text) h = absurd (false≢true h)
form-length (k ∷ kinds) [] h = absurd (false≢true h)
form-length (k ∷ kinds) (b ∷ text) h = ap suc (form-length kinds text (and_right (may_stand k b) (has_form kinds text) h))

form_place : (kinds text : List ℕ) (i : ℕ) → has_form kinds text ≡ true → i < length kinds → may_stand (get_or kinds i 0) (get_or text i 0) ≡ true
unfolding has_form
form_place [] text i h l = absurd (omega arith)
form_place (k ∷ kinds) [] i h l = absurd (false≢true h)
form_place (k ∷ kinds) (b ∷ text) zero h l = and_left (may_stand k b) (has_form kinds text) h
form_place (k ∷ kinds) (b ∷ text) (suc i) h l = form_place kinds text i (and_right (may_stand k b) (has_form kinds text) h) (omega arith)

-- a list is the list of its members
members : (t : List ℕ) (n : ℕ) → length t ≡ n → t ≡ map (λ i. get_or t i 0) (run 0 n)
members t n e =
    let f : ℕ → ℕ = λ i. get_or t i 0 in
    ext_get_or 0 t (map f (run 0 n)) (e ∙ sym (length-map_run f 0 n))
    (λ i h. sym (get_or-map_run f 0 n i 0 (omega arith) ∙ ap f (zero-add i)))

-- the digits of a field, from its number
two_back : (x y d : ℕ) → (48 ≤ x) × (x ≤ 57) → (48 ≤ y) × (y ≤ 57) → 10 * (x - 48) + (y - 48) ≡ d → (48 + d / 10 ≡ x) × (48 + d % 10 ≡ y)
two_back x y d (a, b) (f, g) e = (omega arith, omega arith)

three_back : (x y z d : ℕ) → (48 ≤ x) × (x ≤ 57) → (48 ≤ y) × (y ≤ 57) → (48 ≤ z) × (z ≤ 57) → 100 * (x - 48) + (10 * (y - 48) + (z - 48)) ≡ d
    → (48 + d / 100 ≡ x) × (48 + d % 100 / 10 ≡ y) × (48 + d % 100 % 10 ≡ z)
three_back x y z d (a, b) (f, g) (k, l) e = (omega arith, omega arith, omega arith)

three-small : (x y z : ℕ) → x ≤ 57 → y ≤ 57 → z ≤ 57 → 100 * (x - 48) + (10 * (y - 48) + (z - 48)) < 1000
three-small x y z a b c = omega arith

module _ (t : List ℕ) (formed : has_form form t ≡ true) where
  pub form-sized : length t ≡ 14
  unfolding form ascii
  form-sized = form-length form t formed

  stands : (i : ℕ) → i < 14 → may_stand (get_or form i 0) (get_or t i 0) ≡ true
  unfolding form ascii
  stands i h = form_place form t i formed h

  digit_stands : (i : ℕ) → i < 14 → get_or form i 0 ≡ 48 → (48 ≤ get_or t i 0) × (get_or t i 0 ≤ 57)
  unfolding may_stand
  digit_stands i h e = digit_bounds (get_or t i 0) (rw e at (stands i h))

  mark_stands : (i : ℕ) → i < 14 → (get_or form i 0 ≡ 32 ⊎ get_or form i 0 ≡ 46) → get_or t i 0 ≡ get_or form i 0
  unfolding may_stand
  mark_stands i h (inl e) = rw e (eqb-true (get_or t i 0) 32 (rw e at (stands i h)))
  mark_stands i h (inr e) = rw e (eqb-true (get_or t i 0) 46 (rw e at (stands i h)))

  sign_read : sign_byte (minus_read t) ≡ get_or t 0 0
  unfolding sign_byte minus_read may_stand form ascii
  sign_read =
      by_test (eqb (get_or t 0 0) 45) (λ e. rw e (sym (eqb-true (get_or t 0 0) 45 e)))
      (λ e.
      rw e (elim (or_true_cases (eqb (get_or t 0 0) 43) (eqb (get_or t 0 0) 45) (stands 0 (omega arith))) [
        | inl f ↦ sym (eqb-true (get_or t 0 0) 43 f)
        | inr f ↦ absurd (false≢true (sym e ∙ f))
      ]))

  module _ (range : in_range t ≡ true) where
    range_degrees : degrees t < 360
    unfolding in_range
    range_degrees = ltb-true _ _ (and_left (ltb (degrees t) 360) _ range)

    range_minutes : minutes t < 60
    unfolding in_range
    range_minutes = ltb-true _ _ (and_left (ltb (minutes t) 60) _ (and_right (ltb (degrees t) 360) _ range))

    range_seconds : seconds t < 60
    unfolding in_range
    range_seconds = ltb-true _ _ (and_right (ltb (minutes t) 60) _ (and_right (ltb (degrees t) 360) _ range))

    range_thousandths : thousandths t < 1000
    unfolding thousandths three_at two_at digit_at form ascii
    range_thousandths =
        three-small (get_or t 11 0) (get_or t 12 0) (get_or t 13 0) (digit_stands 11 (omega arith) refl).1 (digit_stands 12 (omega arith) refl).1
        (digit_stands 13 (omega arith) refl).1

    read_small : size_read t ≤ largest_offset
    unfolding size_read
    read_small = omega (arith, range_degrees, range_minutes, range_seconds, range_thousandths)

    -- the text is that of its sign and its size
    read-text : t ≡ text_with (minus_read t) (size_read t)
    unfolding size_read degrees minutes seconds thousandths three_at two_at digit_at text_with three_digits two_digits run form ascii
    read-text =
        let digit : (i : ℕ) → i < 14 → get_or form i 0 ≡ 48 → (48 ≤ get_or t i 0) × (get_or t i 0 ≤ 57) = digit_stands in
        let (pd, pm, ps, pu) = parts_back (degrees t) (minutes t) (seconds t) (thousandths t) (size_read t) refl range_minutes range_seconds range_thousandths in
        let (d1, d2, d3) = three_back (get_or t 1 0) (get_or t 2 0) (get_or t 3 0) (size_read t / 3600000) (digit 1 (omega arith) refl) (digit 2 (omega arith) refl) (digit 3 (omega arith) refl) (sym pd) in
        let (m1, m2) = two_back (get_or t 5 0) (get_or t 6 0) (size_read t / 60000 % 60) (digit 5 (omega arith) refl) (digit 6 (omega arith) refl) (sym pm) in
        let (s1, s2) = two_back (get_or t 8 0) (get_or t 9 0) (size_read t / 1000 % 60) (digit 8 (omega arith) refl) (digit 9 (omega arith) refl) (sym ps) in
        let (u1, u2, u3) = three_back (get_or t 11 0) (get_or t 12 0) (get_or t 13 0) (size_read t % 1000) (digit 11 (omega arith) refl) (digit 12 (omega arith) refl) (digit 13 (omega arith) refl) (sym pu) in
        let a : get_or t 4 0 ≡ 32 = mark_stands 4 (omega arith) (inl refl) in
        let b : get_or t 7 0 ≡ 32 = mark_stands 7 (omega arith) (inl refl) in
        let c : get_or t 10 0 ≡ 46 = mark_stands 10 (omega arith) (inr refl) in
        members t 14 form-sized ∙ rw (sign_read, d1, d2, d3, m1, m2, s1, s2, u1, u2, u3, a, b, c)

-- ---- nothing else reads

module _ (t : List ℕ) (reads : readable t ≡ true) where
  pub readable-form : has_form form t ≡ true
  unfolding readable
  readable-form = and_left (has_form form t) _ reads

  rest_reads : in_range t && not (minus_read t && eqb (size_read t) 0) ≡ true
  unfolding readable
  rest_reads = and_right (has_form form t) _ reads

  readable_range : in_range t ≡ true
  readable_range = and_left (in_range t) _ rest_reads

  readable_sign : minus_read t && eqb (size_read t) 0 ≡ false
  readable_sign = not-true _ (and_right (in_range t) _ rest_reads)

  readable-text : t ≡ text_of (signed (minus_read t) (size_read t))
  readable-text = read-text t readable-form readable_range ∙ text_of_signed (minus_read t) (size_read t) readable_sign

  pub readable-small : size_read t ≤ largest_offset
  readable-small = read_small t readable-form readable_range

only_texts : (t : List ℕ) (w : ℤ) → read_as t ≡ granted w → (t ≡ text_of w) × (nat_abs w ≤ largest_offset)
unfolding read_as
only_texts t w =
    by_test (readable t)
    (λ e. rw e (λ h.
    let same : signed (minus_read t) (size_read t) ≡ w = cc in
    let size : nat_abs w ≡ size_read t = rw (← same) (size_of_signed (minus_read t) (size_read t)) in
    (readable-text t e ∙ ap text_of same, rw size (readable-small t e))))
    (λ e. rw e (λ h. not-granted 28 0 h))

-- what is read is that whole number and its f64
number_read : (a : Answer ℤ) (w : ℤ) (x : Float) → and_then {B = ℤ × Float} a (λ v. granted (v, float_of v)) ≡ granted (w, x) → (a ≡ granted w) × (x ≡ float_of w)
unfolding and_then
number_read (refused number step) w x h = not-granted number step h
number_read (granted v) w x h =
    let both = same_granted (v, float_of v) (w, x) h in
    (ap (λ (p : ℤ × Float). granted p.0) both, sym (ap (λ (p : ℤ × Float). p.1) both) ∙ ap (λ (p : ℤ × Float). float_of p.0) both)

pub reads_texts : ReadsTexts
unfolding ReadsTexts read_offset and_then
reads_texts t w x = (
  λ h.
      let (reads, value) = number_read (read_as t) w x h in
      let (is, small) = only_texts t w reads in
      (is, small, value),
  λ h. rw (h.0, reads_back w h.1, h.2),
)

pub other_texts : OtherTexts
unfolding OtherTexts ReadsTexts read_offset read_as and_then
other_texts t = (
  λ h w small is. not-granted 28 0 (sym h ∙ (reads_texts t w (float_of w)).1 (is, small, refl)),
  λ other.
      by_test (readable t)
      (λ e. absurd (other (signed (minus_read t) (size_read t)) (rw (size_of_signed (minus_read t) (size_read t)) (readable-small t e)) (readable-text t e)))
      (λ e. rw e),
)
