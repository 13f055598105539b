-- Hexadecimal digits: `count` of them are `count` - 1 of the number without its last digit, and that digit.
use Rattle.std.proofs.Common.{◌≡◌, ℕ, suc, ◌+◌, ◌-◌, ◌/◌, ◌%◌, ◌≤◌, ◌<◌, [], ◌∷◌, arith}
use borrow.Author.Tests.{lt-ltb, le-ltb}
use Rattle.foundation.specs.Printing.{hex_digit, hex_digits}
use Rattle.foundation.proofs.Digits.{hex_more, hex_length}
use Rattle.job_print.specs.Page.{HasRoom, Wrote}
use Rattle.job_print.specs.declared.page.Page.{Page}
use Rattle.job_print.proofs.Appending.{wrote_none, wrote_then}

-- 0 to 9
pub hex_below : (d : ℕ) → d < 10 → 48 + d ≡ hex_digit d
unfolding hex_digit
hex_below d h = rw (lt-ltb d 10 h)

-- A to F
pub hex_above : (d : ℕ) → 10 ≤ d → 65 + (d - 10) ≡ hex_digit d
unfolding hex_digit
hex_above d h = rw (le-ltb d 10 h) (omega arith)

pub hex_none : (p : Page) (count n : ℕ) → count ≡ 0 → Wrote p p (hex_digits count n [])
unfolding hex_digits
hex_none p count n e = rw e (wrote_none p)

pub hex_last : {p q r : Page} {d : ℕ} (count n : ℕ) → 0 < count → Wrote p q (hex_digits (count - 1) (n / 16) []) → d ≡ hex_digit (n % 16)
    → Wrote q r (d ∷ []) → Wrote p r (hex_digits count n [])
hex_last count n h a e b =
    let f : count ≡ suc (count - 1) = omega arith in
    rw (f, hex_more (count - 1) n) (wrote_then a (rw e at b))

pub hex_room : {p q : Page} (count n : ℕ) → 0 < count → HasRoom p count → Wrote p q (hex_digits (count - 1) n []) → HasRoom q 1
hex_room count n h k a = omega (arith, a.appended.ends, a.appended.size, hex_length (count - 1) n)
