-- Numbers, and lines of numbers, one behind the other.
use Rattle.std.proofs.Common.{◌≡◌, ℕ, suc, ◌+◌, ◌<◌, List, [], ◌∷◌, ◌++◌, length, take, get_or, ap, ◌∙◌, arith, append_assoc, add-one, length-take-le}
use Rattle.std.proofs.lemmas.List.{append-nil}
use Rattle.std.proofs.Math.Seq.{take-suc}
use lib.Ieee.{Float, nan}
use Rattle.lists.specs.Functions.{chain}
use Rattle.lists.proofs.Places.{chain-append}
use Rattle.foundation.specs.Numbers.{bits_of}
use Rattle.foundation.specs.Printing.{hex_digits, hex_bits, spaced}
use Rattle.foundation.specs.Text.{ascii}
use Rattle.job_print.specs.Page.{Wrote}
use Rattle.job_print.specs.Lines.{numbers_line, value_line, value_lines}
use Rattle.job_print.specs.declared.page.Page.{Page}
use Rattle.job_print.proofs.Appending.{wrote_none, wrote_then}

-- ---- numbers behind their spaces

numbers_more : (xs : List ℕ) (x : ℕ) → chain spaced (xs ++ (x ∷ [])) ≡ chain spaced xs ++ spaced x
unfolding chain
numbers_more xs x = chain-append spaced xs (x ∷ []) ∙ rw append-nil

pub numbers_start : (p : Page) (numbers : List ℕ) → Wrote p p (chain spaced (take 0 numbers))
unfolding chain
numbers_start p numbers = wrote_none p

pub numbers-turn : {p q r : Page} (numbers : List ℕ) (i : ℕ) → i < length numbers → Wrote p q (chain spaced (take i numbers))
    → Wrote q r (spaced (get_or numbers i 0)) → Wrote p r (chain spaced (take (i + 1) numbers))
numbers-turn numbers i h a b = rw (add-one i, take-suc numbers i 0 h, numbers_more (take i numbers) (get_or numbers i 0)) (wrote_then a b)

-- a word, numbers and the line's end
pub line_put : {p q r s : Page} (word numbers : List ℕ) → Wrote p q word → Wrote q r (chain spaced numbers) → Wrote r s (10 ∷ []) → Wrote p s (numbers_line word numbers)
unfolding numbers_line ascii
line_put word numbers a b c = wrote_then (wrote_then a b) c

-- ---- a line of the solution

pub value_put : {p q r s t u : Page} (row bits : ℕ) (x : Float) → bits ≡ bits_of x → Wrote p q (120 ∷ []) → Wrote q r (spaced row) → Wrote r s (32 ∷ [])
    → Wrote s t (hex_digits 16 bits []) → Wrote t u (10 ∷ []) → Wrote p u (value_line row x)
unfolding value_line ascii hex_bits
value_put row bits x e a b c d f = wrote_then (wrote_then (wrote_then (wrote_then a b) c) (rw e at d)) f

-- ---- the solution

values_more : (row : ℕ) (xs : List Float) (x : Float) → value_lines row (xs ++ (x ∷ [])) ≡ value_lines row xs ++ value_line (row + length xs) x
unfolding value_lines
values_more row [] x = rw append-nil (ap (λ (i : ℕ). value_line i x) (omega arith))
values_more row (y ∷ ys) x =
    let e : suc row + length ys ≡ row + suc (length ys) = omega arith in
    rw (values_more (suc row) ys x, append_assoc, e)

pub values_start : (p : Page) (xs : List Float) → Wrote p p (value_lines 1 (take 0 xs))
unfolding value_lines
values_start p xs = wrote_none p

pub values-turn : {p q r : Page} (xs : List Float) (i : ℕ) → i < length xs → Wrote p q (value_lines 1 (take i xs))
    → Wrote q r (value_line (i + 1) (get_or xs i nan)) → Wrote p r (value_lines 1 (take (i + 1) xs))
values-turn xs i h a b =
    let e : 1 + length (take i xs) ≡ i + 1 = rw (length-take-le i xs (omega arith)) (omega arith) in
    rw (add-one i, take-suc xs i nan h, values_more 1 (take i xs) (get_or xs i nan), e) (wrote_then a b)
