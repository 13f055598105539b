-- Digits: a number is the number without its last digit, and that digit; and how many digits there are.
use mathlib.Core.Path.{◌≡◌, refl, ap, sym, ◌∙◌}
use mathlib.Core.List.{List, [], ◌∷◌, ◌++◌}
use Prim.Native.Nat.{ℕ, zero, suc, ◌+◌, ◌*◌, ◌/◌, ◌%◌, ◌≤◌, ◌<◌}
use native.Mathlib.Nat.{div-lt_self}
use native.Mathlib.Omega.{arith}
use lib.Dec.{ltb}
use lib.ListN.{length, length-append}
use lib.Seq.{append_snoc}
use borrow.Author.Tests.{lt-ltb, le-ltb, ltb-true, ltb-false}
use Rattle.lists.proofs.Members.{by_test}
use Rattle.foundation.specs.Printing.{digits, decimal, hex_digit, hex_digits}

-- ---- decimal

-- what stands behind the digits stands apart from them
digits_tail : (turns n : ℕ) (tail : List ℕ) → digits turns n tail ≡ digits turns n [] ++ tail
unfolding digits
digits_tail zero n tail = refl
digits_tail (suc turns) n tail =
    by_test (ltb n 10) (λ e. rw e)
    (λ e. rw e (digits_tail turns (n / 10) ((48 + n % 10) ∷ tail) ∙ rw (digits_tail turns (n / 10) ((48 + n % 10) ∷ []), append_snoc)))

-- more turns than digits change nothing
digits_turns : (a b n : ℕ) → n < a → n < b → digits a n [] ≡ digits b n []
unfolding digits
digits_turns zero b n h k = absurd (omega arith)
digits_turns (suc a) zero n h k = absurd (omega arith)
digits_turns (suc a) (suc b) n h k =
    by_test (ltb n 10) (λ e. rw e)
    (λ e.
    let m : 10 ≤ n = ltb-false n 10 e in
    let l : n / 10 < n = div-lt_self {n = n} {k = 10} (omega arith) (omega arith) in
    rw e
    (digits_tail a (n / 10) ((48 + n % 10) ∷ []) ∙ rw (digits_turns a b (n / 10) (omega arith) (omega arith)) (sym (digits_tail b (n / 10) ((48 + n % 10) ∷ [])))))

pub decimal-one : (n : ℕ) → n < 10 → decimal n ≡ (48 + n) ∷ []
unfolding decimal digits
decimal-one n h = rw (lt-ltb n 10 h)

pub decimal_more : (n : ℕ) → 10 ≤ n → decimal n ≡ decimal (n / 10) ++ ((48 + n % 10) ∷ [])
unfolding decimal digits
decimal_more n h =
    let l : n / 10 < n = div-lt_self {n = n} {k = 10} (omega arith) (omega arith) in
    rw (le-ltb n 10 h)
    (digits_tail n (n / 10) ((48 + n % 10) ∷ []) ∙ ap (λ (d : List ℕ). d ++ ((48 + n % 10) ∷ [])) (digits_turns n (suc (n / 10)) (n / 10) (omega arith) (omega arith)))

unfoldable power : ℕ → ℕ
power zero = 1
power (suc k) = 10 * power k

decimal-length : (k n : ℕ) → n < power (suc k) → length (decimal n) ≤ suc k
unfolding power
decimal-length zero n h = rw (decimal-one n (omega arith)) (omega arith)
decimal-length (suc k) n h =
    by_test (ltb n 10) (λ e. rw (decimal-one n (ltb-true n 10 e)) (omega arith))
    (λ e. rw (decimal_more n (ltb-false n 10 e)) (simp length-append (omega (arith, decimal-length k (n / 10) (omega arith)))))

-- 2 to the power of 64 has 20 digits
pub decimal-short : (n : ℕ) → n < 18446744073709551616 → length (decimal n) ≤ 20
unfolding power
decimal-short n h = decimal-length 19 n (omega arith)

-- ---- hexadecimal

hex_tail : (count n : ℕ) (tail : List ℕ) → hex_digits count n tail ≡ hex_digits count n [] ++ tail
unfolding hex_digits
hex_tail zero n tail = refl
hex_tail (suc count) n tail = hex_tail count (n / 16) (hex_digit (n % 16) ∷ tail) ∙ rw (hex_tail count (n / 16) (hex_digit (n % 16) ∷ []), append_snoc)

pub hex_more : (count n : ℕ) → hex_digits (suc count) n [] ≡ hex_digits count (n / 16) [] ++ (hex_digit (n % 16) ∷ [])
unfolding hex_digits
hex_more count n = hex_tail count (n / 16) (hex_digit (n % 16) ∷ [])

pub hex_length : (count n : ℕ) → length (hex_digits count n []) ≡ count
unfolding hex_digits
hex_length zero n = refl
hex_length (suc count) n = rw hex_more (simp (length-append, hex_length count (n / 16)) (omega arith))
