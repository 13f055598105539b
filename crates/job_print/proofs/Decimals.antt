-- Decimal digits, written: those of the number without its last digit, then that digit.
use Rattle.std.proofs.Common.{◌≡◌, ℕ, ◌+◌, ◌/◌, ◌%◌, ◌≤◌, ◌<◌, List, [], ◌∷◌, ◌++◌, length, arith, length-append}
use Rattle.foundation.specs.Printing.{decimal, spaced}
use Rattle.foundation.specs.Text.{ascii}
use Rattle.foundation.proofs.Digits.{decimal-one, decimal_more, decimal-short}
use Rattle.job_print.specs.Page.{HasRoom, Wrote}
use Rattle.job_print.specs.declared.page.Page.{Page}
use Rattle.job_print.proofs.Appending.{wrote_none, wrote_then, room_left}

-- the digits before the last one are written
pub record Front (p q : Page) (n : ℕ) : Type 0 where
  pub digits : List ℕ
  pub all : decimal n ≡ digits ++ ((48 + n % 10) ∷ [])
  pub wrote : Wrote p q digits

-- there are none
pub front_none : (p q : Page) (n : ℕ) → n < 10 → q ≡ p → Front p q n
front_none p q n h e =
    let d : n % 10 ≡ n = omega arith in
    record { digits = []; all = rw (decimal-one n h, d); wrote = rw e (wrote_none p) }

-- they are those of a tenth
pub front-more : (p q r : Page) (n : ℕ) → 10 ≤ n → Wrote p q (decimal (n / 10)) → r ≡ q → Front p r n
front-more p q r n h w e = record { digits = decimal (n / 10); all = decimal_more n h; wrote = rw e w }

pub room-before : (p : Page) (n : ℕ) → 10 ≤ n → HasRoom p (length (decimal n)) → HasRoom p (length (decimal (n / 10)))
room-before p n h k =
    let l : length (decimal n) ≡ length (decimal (n / 10)) + 1 = rw (decimal_more n h) (simp length-append) in
    omega arith

pub last_room : {p q : Page} {n : ℕ} → Front p q n → HasRoom p (length (decimal n)) → HasRoom q 1
last_room f h =
    let l = rw f.all at h in
    room_left 1 f.wrote (simp length-append at l)

pub last_digit : {p q r : Page} {n : ℕ} → Front p q n → Wrote q r ((48 + n % 10) ∷ []) → Wrote p r (decimal n)
last_digit f w = rw f.all (wrote_then f.wrote w)

-- ---- a space and a number

pub spaced-room : {p q : Page} (n : ℕ) → n < 18446744073709551616 → HasRoom p 21 → Wrote p q (32 ∷ []) → HasRoom q (length (decimal n))
spaced-room n h k w = omega (arith, w.appended.ends, w.appended.size, decimal-short n h)

pub spaced_put : {p q r : Page} (n : ℕ) → Wrote p q (32 ∷ []) → Wrote q r (decimal n) → Wrote p r (spaced n)
unfolding spaced ascii
spaced_put n a b = wrote_then a b
