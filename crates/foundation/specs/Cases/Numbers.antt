-- Numbers f64, squares, answers and text.
use Rattle.std.specs.Prelude.{false, List, [], ◌∷◌, map, ℕ, ◌+◌, ◌*◌, negsuc, eqb}
use Rattle.std.specs.Float.{fin}
use Rattle.foundation.specs.Answer.{Answer, refused, granted, refuse_if, and_then, result_store, work_store}
use Rattle.foundation.specs.Pattern.{lent_square, pattern_of}
use Rattle.foundation.specs.Numbers.{plus_zero, is_zero, finite, magnitude, may_pivot, product, difference, quotient, bits_of, of_pattern}
use Rattle.foundation.specs.Square.{swap, placed, exchanged}
use Rattle.foundation.specs.Text.{ascii}
use Rattle.foundation.specs.Table.{Case, case, told}
use Rattle.foundation.specs.Cases.Show.{flags, float, floats, four, pattern, patterns, places, row}

-- +0, -0, the least number above 0, 1.5, -1.5, the largest number, both infinities, not a number
abbrev pub kinds : List ℕ
kinds =
    0x0000000000000000
    ∷ 0x8000000000000000
    ∷ 0x0000000000000001
    ∷ 0x3FF8000000000000
    ∷ 0xBFF8000000000000
    ∷ 0x7FEFFFFFFFFFFFFF
    ∷ 0x7FF0000000000000
    ∷ 0xFFF0000000000000
    ∷ 0x7FF8000000000000
    ∷ []

unfoldable pub number_cases : List Case
number_cases =
    -- "x: row, bits in hexadecimal": a number has its bit pattern, and a bit pattern its number; 1.5 is 3 halves
    row (map bits_of (floats kinds)) kinds
    ∷ row (patterns (map of_pattern kinds)) kinds
    ∷ row (bits_of (fin false 3 (negsuc 0)) ∷ []) (0x3FF8000000000000 ∷ [])
    -- "+0 outside the pattern"
    ∷ row (pattern plus_zero ∷ []) (0x0000000000000000 ∷ [])
    -- "Zero means +0 or -0."
    ∷ row (flags (map is_zero (floats kinds))) (1 ∷ 1 ∷ 0 ∷ 0 ∷ 0 ∷ 0 ∷ 0 ∷ 0 ∷ 0 ∷ [])
    -- 13, by Ticket 14 of document 02: "A pivot must have magnitude at least 2 to the power -1022", with either sign; what is not a number has none
    ∷ row (flags (map may_pivot (floats kinds))) (0 ∷ 0 ∷ 0 ∷ 1 ∷ 1 ∷ 1 ∷ 1 ∷ 1 ∷ 0 ∷ [])
    -- 11: "a value or right side is not finite": neither infinity is, nor what is not a number
    ∷ row (flags (map finite (floats kinds))) (1 ∷ 1 ∷ 1 ∷ 1 ∷ 1 ∷ 1 ∷ 0 ∷ 0 ∷ 0 ∷ [])
    -- "the largest magnitude": without the sign
    ∷ row (patterns (map (λ x. magnitude x) (floats kinds)))
    (0x0000000000000000
    ∷ 0x0000000000000000
    ∷ 0x0000000000000001
    ∷ 0x3FF8000000000000
    ∷ 0x3FF8000000000000
    ∷ 0x7FEFFFFFFFFFFFFF
    ∷ 0x7FF0000000000000
    ∷ 0x7FF0000000000000
    ∷ 0x7FF8000000000000
    ∷ [])
    -- "m = entry / pivot": 1 / 3, rounded
    ∷ row (pattern (quotient (float 0x3FF0000000000000) (float 0x4008000000000000)) ∷ []) (0x3FD5555555555555 ∷ [])
    -- "the product is rounded once, then the difference": 0.1 × 0.1, and that product less 0.1 × 0.1, which is 0 though the exact product is not
    ∷ row (pattern (product (float 0x3FB999999999999A) (float 0x3FB999999999999A)) ∷ []) (0x3F847AE147AE147C ∷ [])
    ∷ row (pattern (difference (float 0x3F847AE147AE147C) (product (float 0x3FB999999999999A) (float 0x3FB999999999999A))) ∷ []) (0x0000000000000000 ∷ [])
    -- 0.3 less 0.1, rounded
    ∷ row (pattern (difference (float 0x3FD3333333333333) (float 0x3FB999999999999A)) ∷ []) (0x3FC9999999999999 ∷ [])
    ∷ []

-- a square whose place (i, j) holds ij
abbrev pub digits : ℕ → ℕ → ℕ
digits i j = 10 * i + j

unfoldable pub square_cases : List Case
square_cases =
    -- row 2 for 4 and 4 for 2, every other row for itself
    row (map (swap 2 4) (1 ∷ 2 ∷ 3 ∷ 4 ∷ 5 ∷ [])) (1 ∷ 4 ∷ 3 ∷ 2 ∷ 5 ∷ [])
    -- "Rows k and p are exchanged in columns k to n (..); earlier multipliers are not moved."
    ∷ case (places four four (exchanged 2 4 digits))
    ((11 ∷ 12 ∷ 13 ∷ 14 ∷ []) ∷ (21 ∷ 42 ∷ 43 ∷ 44 ∷ []) ∷ (31 ∷ 32 ∷ 33 ∷ 34 ∷ []) ∷ (41 ∷ 22 ∷ 23 ∷ 24 ∷ []) ∷ [])
    -- "at first the given numbers in the pattern and zero elsewhere": rows {1,2}, {2}; 7 stands for zero
    ∷ case (places (0 ∷ 1 ∷ 2 ∷ 3 ∷ []) (0 ∷ 1 ∷ 2 ∷ 3 ∷ []) (placed (pattern_of (lent_square 2 (0 ∷ 2 ∷ 3 ∷ []) (1 ∷ 2 ∷ 2 ∷ []))) 7 digits))
    ((7 ∷ 7 ∷ 7 ∷ 7 ∷ []) ∷ (7 ∷ 11 ∷ 12 ∷ 7 ∷ []) ∷ (7 ∷ 7 ∷ 22 ∷ 7 ∷ []) ∷ (7 ∷ 7 ∷ 7 ∷ 7 ∷ []) ∷ [])
    ∷ []

-- a granted list, as a row shows it
abbrev pub shown_list : Answer (List ℕ) → List (List ℕ)
shown_list answer = told (λ xs. xs ∷ []) answer

-- 7 at step 2, or a granted number
abbrev pub seven_at_two : Answer ℕ
seven_at_two = refused 7 2

abbrev pub given : ℕ → Answer ℕ
given x = granted x

unfoldable pub answer_cases : List Case
answer_cases =
    -- "A refusal carries its number and its step, 0 outside steps 7, 8, 13 and 14": a test that fails refuses, else the later ones decide
    case (shown_list (refuse_if (eqb 1 1) 6 (granted (4 ∷ [])))) ((0 ∷ 6 ∷ 0 ∷ []) ∷ [])
    ∷ case (shown_list (refuse_if (eqb 1 2) 6 (granted (4 ∷ [])))) ((1 ∷ []) ∷ (4 ∷ []) ∷ [])
    ∷ case (shown_list (refuse_if (eqb 1 2) 6 (refused 7 2))) ((0 ∷ 7 ∷ 2 ∷ []) ∷ [])
    -- the later part is asked only where the earlier one refuses nothing
    ∷ case (shown_list (and_then seven_at_two (λ x. refused 9 x))) ((0 ∷ 7 ∷ 2 ∷ []) ∷ [])
    ∷ case (shown_list (and_then (given 4) (λ x. refused 9 x))) ((0 ∷ 9 ∷ 4 ∷ []) ∷ [])
    ∷ case (shown_list (and_then (given 4) (λ x. granted (x ∷ x ∷ [])))) ((1 ∷ []) ∷ (4 ∷ 4 ∷ []) ∷ [])
    -- "Result stores are then zero throughout (..); result stores longer than needed are zero beyond."
    ∷ row (result_store 0 4 (λ x. x ∷ 8 ∷ []) seven_at_two) (0 ∷ 0 ∷ 0 ∷ 0 ∷ [])
    ∷ row (result_store 0 4 (λ x. x ∷ 8 ∷ []) (given 5)) (5 ∷ 8 ∷ 0 ∷ 0 ∷ [])
    ∷ row (result_store 0 2 (λ x. x ∷ 8 ∷ []) (given 5)) (5 ∷ 8 ∷ [])
    -- "as are work stores after every call"
    ∷ row (work_store 0 3) (0 ∷ 0 ∷ 0 ∷ [])
    ∷ row (work_store 0 0) []
    -- quoted text as bytes
    ∷ row (ascii "x 1 3F\n") (120 ∷ 32 ∷ 49 ∷ 32 ∷ 51 ∷ 70 ∷ 10 ∷ [])
    ∷ []
