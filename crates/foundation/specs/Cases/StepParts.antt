-- The parts of a step and of back substitution, one by one: which rows, columns and numbers each looks at.
use Rattle.std.specs.Prelude.{Bool, true, false, cond, ◌&&◌, List, [], ◌∷◌, ◌++◌, map, ℕ, eqb, Float}
use Rattle.foundation.specs.Square.{Square}
use Rattle.foundation.specs.Reference.{largest, listed, whole, cut, steps_of, pivot_row, best, eliminated_right, updates_at, sound_update, sound_place, sound_row, sound_step, noPivot, notFinite, number_of, stopped, step, starting, Checked, substituted, solved_row, solved, ended, reference}
use Rattle.foundation.specs.Table.{Case, case}
use Rattle.foundation.specs.Cases.Show.{flag, flags, float, pattern, row, three_on_two}
use Rattle.foundation.specs.Cases.Reference.{square_of, side_of, course_shown}

-- 1, 2, the largest number, the least, infinity
abbrev pub one : ℕ
one = 0x3FF0000000000000

abbrev pub twice : ℕ
twice = 0x4000000000000000

abbrev pub most : ℕ
most = 0x7FEFFFFFFFFFFFFF

abbrev pub least : ℕ
least = 0x0000000000000001

abbrev pub infinity : ℕ
infinity = 0x7FF0000000000000

-- ones everywhere, also outside the square, but x at (i, j)
abbrev pub ones_but : ℕ → ℕ → ℕ → Square Float
ones_but i j x a b = float (cond (eqb a i && eqb b j) x one)

abbrev pub ones : ℕ → Float
ones i = float one

-- ones and infinities past row 3 and column 3
abbrev pub walled : Square Float
walled = square_of ((one ∷ one ∷ one ∷ infinity ∷ []) ∷ (one ∷ one ∷ one ∷ infinity ∷ []) ∷ (one ∷ one ∷ one ∷ infinity ∷ []) ∷ (one ∷ infinity ∷ infinity ∷ infinity ∷ []) ∷ [])

-- the columns 1, 2, 3 of entries 4, 1, 2
abbrev pub entries : ℕ → Float
entries = side_of (0x4010000000000000 ∷ one ∷ twice ∷ [])

-- whether row 2 of step 1 on two columns is sound, of these rows and this right side
abbrev pub sound_second : List (List ℕ) → List ℕ → ℕ
sound_second rows right = flag (sound_row 2 1 (square_of rows) (side_of right) 2)

-- right sides of +0 and -0 in rows 2 and 3 after step 1, of this multiplier and this right side of the pivot row
abbrev pub followed : ℕ → ℕ → List ℕ
followed m right = map (λ i. pattern (eliminated_right 1 (λ j. float m) (side_of (right ∷ 0 ∷ 0x8000000000000000 ∷ [])) i)) (2 ∷ 3 ∷ [])

abbrev pub checked_shown : Checked → List ℕ
checked_shown c = pattern c.value ∷ flag c.sound ∷ []

abbrev pub from : ℕ → Bool → Checked
from value sound = record { value = float value; sound = sound }

unfoldable pub part_cases : List Case
part_cases =
    -- "A run may be cut to its first s steps"
    row (steps_of whole 5 ∷ steps_of (cut 2) 5 ∷ []) (5 ∷ 2 ∷ [])
    -- "the row from k to n": of entries 4, 1, 2 row 1 at step 1, row 3 at step 2, row 2 among two rows; there is no step 0, and no row 0 that another is held against
    ∷ row (map (λ k. pivot_row largest 3 k entries) (0 ∷ 1 ∷ 2 ∷ 3 ∷ 4 ∷ [])) (0 ∷ 1 ∷ 3 ∷ 3 ∷ 0 ∷ [])
    ∷ row (pivot_row largest 2 2 entries ∷ best entries 0 (2 ∷ 3 ∷ []) ∷ best entries 2 [] ∷ best ones 0 (2 ∷ 3 ∷ []) ∷ []) (2 ∷ 3 ∷ 2 ∷ 2 ∷ [])
    -- "row p_k of a given list"; none where its entry is zero, or the list has no p_k
    ∷ row (map (λ k. pivot_row (listed (3 ∷ 2 ∷ 4 ∷ [])) 3 k entries) (0 ∷ 1 ∷ 2 ∷ 3 ∷ 4 ∷ [])) (0 ∷ 3 ∷ 2 ∷ 0 ∷ 0 ∷ [])
    -- "The right side follows": rows below k alone
    ∷ row (map (λ i. pattern (eliminated_right 2 ones (side_of (one ∷ twice ∷ one ∷ twice ∷ [])) i)) (1 ∷ 2 ∷ 3 ∷ 4 ∷ []))
    (one ∷ twice ∷ 0xBFF0000000000000 ∷ 0x0000000000000000 ∷ [])
    -- "with m not zero": m is 1 and -1, the pivot row's right side +0 and -0, rows 2 and 3 have +0 and -0; where m is +0 or -0 all stays, beside 1 and -1
    ∷ case
    (map (λ m. followed m 0) (one ∷ 0xBFF0000000000000 ∷ []) ++ map (λ m. followed m 0x8000000000000000) (one ∷ 0xBFF0000000000000 ∷ []))
    ((0 ∷ 0x8000000000000000 ∷ []) ∷ (0 ∷ 0 ∷ []) ∷ (0 ∷ 0 ∷ []) ∷ (0 ∷ 0x8000000000000000 ∷ []) ∷ [])
    ∷ case
    (map (λ m. followed m one) (0 ∷ 0x8000000000000000 ∷ []) ++ map (λ m. followed m 0xBFF0000000000000) (0 ∷ 0x8000000000000000 ∷ []))
    ((0 ∷ 0x8000000000000000 ∷ []) ∷ (0 ∷ 0x8000000000000000 ∷ []) ∷ (0 ∷ 0x8000000000000000 ∷ []) ∷ (0 ∷ 0x8000000000000000 ∷ []) ∷ [])
    -- "Updates counts the matrix subtractions": rows from k+1 to the last row, columns from k+1 to n, ones everywhere
    ∷ row (updates_at 3 3 1 (ones_but 0 0 one) ∷ updates_at 2 3 1 (ones_but 0 0 one) ∷ updates_at 3 2 1 (ones_but 0 0 one) ∷ updates_at 3 3 3 (ones_but 0 0 one) ∷ []) (4 ∷ 2 ∷ 2 ∷ 0 ∷ [])
    -- 14: a product, a difference; a zero of the pivot row takes none, whatever the place holds
    ∷ row (flags (sound_update (float twice) (float most) (float one) ∷ sound_update (float 0xBFF0000000000000) (float most) (float most) ∷ sound_update (float one) (float most) (float most) ∷ sound_update (float one) (float least) (float one) ∷ [])) (0 ∷ 0 ∷ 1 ∷ 1 ∷ [])
    ∷ row (flags (sound_place (float one) (float 0x8000000000000000) (float infinity) ∷ sound_place (float one) (float one) (float infinity) ∷ [])) (1 ∷ 0 ∷ [])
    -- a row: nothing is taken where its entry is zero, or the multiplier is; the quotient, the right side, beside a zero of the pivot row's too, the columns right of k are looked at
    ∷ row
    (sound_second ((one ∷ one ∷ []) ∷ (0 ∷ infinity ∷ []) ∷ []) (one ∷ infinity ∷ [])
    ∷ sound_second ((most ∷ one ∷ []) ∷ (least ∷ infinity ∷ []) ∷ []) (one ∷ infinity ∷ [])
    ∷ sound_second ((least ∷ 0 ∷ []) ∷ (one ∷ one ∷ []) ∷ []) (one ∷ one ∷ [])
    ∷ sound_second ((one ∷ one ∷ []) ∷ (one ∷ one ∷ []) ∷ []) (one ∷ infinity ∷ [])
    ∷ sound_second ((one ∷ one ∷ []) ∷ (one ∷ one ∷ []) ∷ []) (infinity ∷ one ∷ [])
    ∷ sound_second ((one ∷ one ∷ []) ∷ (one ∷ one ∷ []) ∷ []) (0 ∷ infinity ∷ [])
    ∷ sound_second ((one ∷ one ∷ []) ∷ (one ∷ one ∷ []) ∷ []) (0x8000000000000000 ∷ infinity ∷ [])
    ∷ sound_second ((one ∷ one ∷ []) ∷ (one ∷ infinity ∷ []) ∷ []) (one ∷ one ∷ [])
    ∷ sound_second ((one ∷ infinity ∷ []) ∷ (one ∷ one ∷ []) ∷ []) (one ∷ one ∷ [])
    ∷ sound_second ((one ∷ one ∷ []) ∷ (one ∷ one ∷ []) ∷ []) (one ∷ one ∷ [])
    ∷ [])
    (1 ∷ 1 ∷ 0 ∷ 0 ∷ 0 ∷ 0 ∷ 0 ∷ 0 ∷ 0 ∷ 1 ∷ [])
    -- a step: every row from k+1 to the last and every column from k+1 to n, and no other; nor the pivot row itself
    ∷ row (flags (sound_step 3 3 1 walled ones ∷ sound_step 4 3 1 walled ones ∷ sound_step 3 4 1 walled ones ∷ [])) (1 ∷ 0 ∷ 0 ∷ [])
    ∷ row (flags (map (λ i. sound_step 3 3 1 (ones_but i 2 infinity) ones) (1 ∷ 2 ∷ 3 ∷ []))) (0 ∷ 0 ∷ 0 ∷ [])
    ∷ row (flags (map (λ i. sound_step 3 3 1 (ones_but i 3 infinity) ones) (1 ∷ 2 ∷ 3 ∷ []))) (0 ∷ 0 ∷ 0 ∷ [])
    ∷ row (flag (sound_step 2 2 1 (square_of ((one ∷ infinity ∷ []) ∷ (0 ∷ one ∷ []) ∷ [])) ones) ∷ []) (1 ∷ [])
    -- 13 and 14 have their numbers, and a run that stopped stays so, in its steps, back substitution and end
    ∷ row (number_of noPivot ∷ number_of notFinite ∷ []) (13 ∷ 14 ∷ [])
    ∷ case (course_shown [] (step largest 2 2 2 (stopped notFinite 1))) ((0 ∷ 14 ∷ 1 ∷ []) ∷ [])
    ∷ case (course_shown [] (solved 2 (stopped noPivot 1))) ((0 ∷ 13 ∷ 1 ∷ []) ∷ [])
    ∷ case (course_shown [] (ended whole 2 (stopped noPivot 1))) ((0 ∷ 13 ∷ 1 ∷ []) ∷ [])
    -- "subtract u × solution for nonzero u": 2 - 1 × 1 - 1 × 1, of the columns named; no column
    ∷ row (checked_shown (substituted ones ones (from twice true) (1 ∷ 2 ∷ []))) (0x0000000000000000 ∷ 1 ∷ [])
    ∷ row (checked_shown (substituted ones ones (from twice true) [])) (twice ∷ 1 ∷ [])
    -- once not finite, never again: what came before counts; an infinite difference; an infinite product
    ∷ row (checked_shown (substituted ones ones (from twice false) (1 ∷ []))) (one ∷ 0 ∷ [])
    ∷ row (checked_shown (substituted ones (λ j. float 0xFFEFFFFFFFFFFFFF) (from most true) (1 ∷ []))) (infinity ∷ 0 ∷ [])
    ∷ row (checked_shown (substituted (λ j. float twice) (λ j. float most) (from one true) (1 ∷ []))) (0xFFF0000000000000 ∷ 0 ∷ [])
    -- the largest number less itself is finite
    ∷ row (checked_shown (substituted ones (λ j. float most) (from most true) (1 ∷ []))) (0x0000000000000000 ∷ 1 ∷ [])
    -- row 1: the columns 2 and 3, and no other; row 3: none; "then divide by the diagonal"; a quotient that is not finite
    ∷ row (checked_shown (solved_row 3 walled (side_of (twice ∷ one ∷ twice ∷ [])) 1)) (0xBFF0000000000000 ∷ 1 ∷ [])
    ∷ row (checked_shown (solved_row 3 walled (side_of (twice ∷ one ∷ twice ∷ [])) 3)) (twice ∷ 1 ∷ [])
    ∷ row (checked_shown (solved_row 1 (square_of ((twice ∷ []) ∷ [])) (side_of (one ∷ [])) 1)) (0x3FE0000000000000 ∷ 1 ∷ [])
    ∷ row (checked_shown (solved_row 1 (square_of ((0x3FE0000000000000 ∷ []) ∷ [])) (side_of (most ∷ [])) 1)) (infinity ∷ 0 ∷ [])
    -- "a full n by n square of f64, +0 outside the pattern": a row is chosen for no step yet, no update is counted
    ∷ case
    ((starting three_on_two (ones_but 0 0 one) ones).pivots
    ∷ ((starting three_on_two (ones_but 0 0 one) ones).updates ∷ [])
    ∷ map (λ i. pattern ((starting three_on_two (ones_but 0 0 one) ones).square i 1)) (1 ∷ 2 ∷ 3 ∷ 4 ∷ [])
    ∷ [])
    ([] ∷ (0 ∷ []) ∷ (one ∷ 0 ∷ one ∷ 0 ∷ []) ∷ [])
    -- three rows on two columns: 14 looks at the last row, here the largest number over a half
    ∷ case
    (course_shown []
    (reference (listed (1 ∷ 2 ∷ [])) whole three_on_two (square_of ((0x3FE0000000000000 ∷ 0 ∷ []) ∷ (0 ∷ one ∷ []) ∷ (most ∷ one ∷ []) ∷ []))
    (side_of (0 ∷ 0 ∷ 0 ∷ []))))
    ((0 ∷ 14 ∷ 1 ∷ []) ∷ [])
    -- three rows on two columns, 1 1, . 1, 2 4, right side 1, 3, 2: rows are searched and eliminated to the last, steps and columns go to n
    ∷ case
    (course_shown (1 ∷ 2 ∷ 3 ∷ [])
    (reference largest whole three_on_two (square_of ((one ∷ one ∷ []) ∷ (one ∷ one ∷ []) ∷ (twice ∷ 0x4010000000000000 ∷ []) ∷ []))
    (side_of (one ∷ 0x4008000000000000 ∷ twice ∷ []))))
    ((1 ∷ [])
    ∷ (3 ∷ 2 ∷ [])
    ∷ (1 ∷ [])
    ∷ (0xC014000000000000 ∷ 0x4008000000000000 ∷ 0x4008000000000000 ∷ [])
    ∷ (twice ∷ 0x4010000000000000 ∷ 0 ∷ [])
    ∷ (0 ∷ one ∷ 0 ∷ [])
    ∷ (0x3FE0000000000000 ∷ 0xBFF0000000000000 ∷ 0 ∷ [])
    ∷ [])
    ∷ []
