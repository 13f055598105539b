-- The free elimination, on whole numbers: it asks only whether one is zero.
use Rattle.std.specs.Prelude.{List, [], ◌∷◌, map, ℕ, ◌+◌, ◌*◌, eqb, get_or}
use Rattle.foundation.specs.Pattern.{lent_square, Pattern, pattern_of}
use Rattle.foundation.specs.Square.{Square}
use Rattle.foundation.specs.Free.{FreeStep, FreeState, free_start, taken, free_run, free_after}
use Rattle.foundation.specs.Table.{Case, case}
use Rattle.foundation.specs.Cases.Show.{flag, flags, row, tall, three}

-- rows {1,3}, {2,3}, {1,3}
abbrev pub three_fields : Pattern
three_fields = pattern_of (lent_square 3 (0 ∷ 2 ∷ 4 ∷ 6 ∷ []) (1 ∷ 3 ∷ 2 ∷ 3 ∷ 1 ∷ 3 ∷ []))

-- the number at (i, j) is ij
abbrev pub digits : Square ℕ
digits i j = 10 * i + j

-- a step: its row, its multipliers for rows 1, 2 and 3, and for (i, j) the number 100 t + ij, t saying which step it was
abbrev pub step_of : ℕ → ℕ → List ℕ → FreeStep ℕ
step_of t row multipliers = record { row = row; multiplier = λ i. get_or (0 ∷ multipliers) i 0; number = λ i j. 100 * t + digits i j }

abbrev pub square : List (List ℕ) → Square ℕ
square rows i j = get_or (0 ∷ get_or ([] ∷ rows) i []) j 0

-- k, and the rows of the square
abbrev pub state_shown : FreeState ℕ → List (List ℕ)
state_shown s = (s.k ∷ []) ∷ map (λ i. map (s.square i) (1 ∷ 2 ∷ 3 ∷ [])) (1 ∷ 2 ∷ 3 ∷ [])

abbrev pub started : List (List ℕ) → FreeState ℕ
started rows = free_start three 0 (square rows)

abbrev pub run_on : List (List ℕ) → List (FreeStep ℕ) → List (List ℕ)
run_on rows steps = state_shown (free_run three (eqb 0) (started rows) steps)

abbrev pub at : ℕ → Square ℕ → FreeState ℕ
at k numbers = record { k = k; square = numbers }

-- whether a step with this row is taken, at this k, on three fields whose places are nonzero everywhere, also outside
abbrev pub takes : ℕ → ℕ → ℕ
takes k row = flag (taken three (eqb 0) (at k (λ i j. 1)) (step_of 1 row []))

unfoldable pub free_cases : List Case
free_cases =
    -- "The state is k, at first 1, and a square, at first the given numbers in the pattern and zero elsewhere"; the empty list of steps
    case (state_shown (free_run three_fields (eqb 0) (free_start three_fields 0 digits) [])) ((1 ∷ []) ∷ (11 ∷ 0 ∷ 13 ∷ []) ∷ (0 ∷ 22 ∷ 23 ∷ []) ∷ (31 ∷ 0 ∷ 33 ∷ []) ∷ [])
    -- an exchange: "Rows k and p are exchanged in columns k and above"; multipliers 5 and 6 replace column 1, the numbers 1ij the places right of it
    ∷ case (run_on ((11 ∷ 12 ∷ 13 ∷ []) ∷ (21 ∷ 22 ∷ 23 ∷ []) ∷ (31 ∷ 32 ∷ 33 ∷ []) ∷ []) (step_of 1 3 (4 ∷ 5 ∷ 6 ∷ []) ∷ []))
    ((2 ∷ []) ∷ (31 ∷ 32 ∷ 33 ∷ []) ∷ (5 ∷ 122 ∷ 123 ∷ []) ∷ (6 ∷ 132 ∷ 133 ∷ []) ∷ [])
    -- the next step exchanges rows 2 and 3; "earlier columns stay": 5 and 6 keep their rows; "All else stays": row 1
    ∷ case (run_on ((11 ∷ 12 ∷ 13 ∷ []) ∷ (21 ∷ 22 ∷ 23 ∷ []) ∷ (31 ∷ 32 ∷ 33 ∷ []) ∷ []) (step_of 1 3 (4 ∷ 5 ∷ 6 ∷ []) ∷ step_of 2 3 (7 ∷ 8 ∷ 9 ∷ []) ∷ []))
    ((3 ∷ []) ∷ (31 ∷ 32 ∷ 33 ∷ []) ∷ (5 ∷ 132 ∷ 133 ∷ []) ∷ (6 ∷ 9 ∷ 233 ∷ []) ∷ [])
    -- fill: row 3 had nothing in column 2, the pivot row has; a number that is zero is written too
    ∷ case (run_on ((11 ∷ 12 ∷ 0 ∷ []) ∷ (0 ∷ 22 ∷ 0 ∷ []) ∷ (31 ∷ 0 ∷ 33 ∷ []) ∷ []) (step_of 1 1 (0 ∷ 0 ∷ 6 ∷ []) ∷ []))
    ((2 ∷ []) ∷ (11 ∷ 12 ∷ 0 ∷ []) ∷ (0 ∷ 22 ∷ 0 ∷ []) ∷ (6 ∷ 132 ∷ 33 ∷ []) ∷ [])
    ∷ case
    (run_on ((11 ∷ 12 ∷ 0 ∷ []) ∷ (0 ∷ 22 ∷ 0 ∷ []) ∷ (31 ∷ 32 ∷ 33 ∷ []) ∷ [])
    ((record { row = 1; multiplier = λ i. 6; number = λ i j. 0 }) ∷ []))
    ((2 ∷ []) ∷ (11 ∷ 12 ∷ 0 ∷ []) ∷ (0 ∷ 22 ∷ 0 ∷ []) ∷ (6 ∷ 0 ∷ 33 ∷ []) ∷ [])
    -- "the step's multiplier for row i, zero or not, replaces it": a multiplier of zero for row 2, which then changes no other place of it
    ∷ case (run_on ((11 ∷ 12 ∷ 13 ∷ []) ∷ (21 ∷ 22 ∷ 23 ∷ []) ∷ (31 ∷ 32 ∷ 33 ∷ []) ∷ []) (step_of 1 1 (4 ∷ 0 ∷ 6 ∷ []) ∷ []))
    ((2 ∷ []) ∷ (11 ∷ 12 ∷ 13 ∷ []) ∷ (0 ∷ 22 ∷ 23 ∷ []) ∷ (6 ∷ 132 ∷ 133 ∷ []) ∷ [])
    -- a zero that stays: row 2 has none in column 1, and no multiplier of 5 is written, nor any number
    ∷ case (run_on ((11 ∷ 12 ∷ 13 ∷ []) ∷ (0 ∷ 22 ∷ 23 ∷ []) ∷ (31 ∷ 32 ∷ 33 ∷ []) ∷ []) (step_of 1 1 (4 ∷ 5 ∷ 6 ∷ []) ∷ []))
    ((2 ∷ []) ∷ (11 ∷ 12 ∷ 13 ∷ []) ∷ (0 ∷ 22 ∷ 23 ∷ []) ∷ (6 ∷ 132 ∷ 133 ∷ []) ∷ [])
    -- "if that multiplier and the entry at (k, j) both differ from zero": (1, 3) is zero
    ∷ case (run_on ((11 ∷ 12 ∷ 0 ∷ []) ∷ (21 ∷ 22 ∷ 23 ∷ []) ∷ (31 ∷ 32 ∷ 33 ∷ []) ∷ []) (step_of 1 1 (4 ∷ 5 ∷ 6 ∷ []) ∷ []))
    ((2 ∷ []) ∷ (11 ∷ 12 ∷ 0 ∷ []) ∷ (5 ∷ 122 ∷ 23 ∷ []) ∷ (6 ∷ 132 ∷ 33 ∷ []) ∷ [])
    -- "Any other step is refused and changes nothing, k included": the second of three brings row 1, which is before k; the third is taken
    ∷ case
    (run_on ((11 ∷ 12 ∷ 13 ∷ []) ∷ (21 ∷ 22 ∷ 23 ∷ []) ∷ (31 ∷ 32 ∷ 33 ∷ []) ∷ [])
    (step_of 1 3 (4 ∷ 5 ∷ 6 ∷ []) ∷ step_of 2 1 (7 ∷ 8 ∷ 9 ∷ []) ∷ step_of 3 2 (7 ∷ 8 ∷ 9 ∷ []) ∷ []))
    ((3 ∷ []) ∷ (31 ∷ 32 ∷ 33 ∷ []) ∷ (5 ∷ 122 ∷ 123 ∷ []) ∷ (6 ∷ 9 ∷ 333 ∷ []) ∷ [])
    -- the last step, at k = n, and one past n, which is refused
    ∷ case
    (run_on ((11 ∷ 12 ∷ 13 ∷ []) ∷ (21 ∷ 22 ∷ 23 ∷ []) ∷ (31 ∷ 32 ∷ 33 ∷ []) ∷ [])
    (step_of 1 1 (4 ∷ 5 ∷ 6 ∷ []) ∷ step_of 2 2 (7 ∷ 8 ∷ 9 ∷ []) ∷ step_of 3 3 (1 ∷ 1 ∷ 1 ∷ []) ∷ step_of 4 3 (1 ∷ 1 ∷ 1 ∷ []) ∷ []))
    ((4 ∷ []) ∷ (11 ∷ 12 ∷ 13 ∷ []) ∷ (5 ∷ 122 ∷ 123 ∷ []) ∷ (6 ∷ 9 ∷ 233 ∷ []) ∷ [])
    -- "row p's entry in column k is not zero": row 2 has none there, row 1 has
    ∷ case (run_on ((11 ∷ 12 ∷ 13 ∷ []) ∷ (0 ∷ 22 ∷ 23 ∷ []) ∷ (31 ∷ 32 ∷ 33 ∷ []) ∷ []) (step_of 1 2 (4 ∷ 5 ∷ 6 ∷ []) ∷ []))
    ((1 ∷ []) ∷ (11 ∷ 12 ∷ 13 ∷ []) ∷ (0 ∷ 22 ∷ 23 ∷ []) ∷ (31 ∷ 32 ∷ 33 ∷ []) ∷ [])
    -- "A step is taken if k is at most n, p is a row from k on": rows 1 to 4 at k = 2, then row 3 at k = 3 and 4, and row 4 at k = 4
    ∷ row (map (takes 2) (1 ∷ 2 ∷ 3 ∷ 4 ∷ [])) (0 ∷ 1 ∷ 1 ∷ 0 ∷ [])
    ∷ row (takes 3 3 ∷ takes 4 3 ∷ takes 4 4 ∷ []) (1 ∷ 0 ∷ 0 ∷ [])
    -- three rows on two columns: p goes to the last row, k to n
    ∷ row
    (flags
    (taken tall (eqb 0) (at 2 (λ i j. 1)) (step_of 1 3 [])
    ∷ taken tall (eqb 0) (at 2 (λ i j. 1)) (step_of 1 4 [])
    ∷ taken tall (eqb 0) (at 3 (λ i j. 1)) (step_of 1 3 [])
    ∷ []))
    (1 ∷ 0 ∷ 0 ∷ [])
    -- after the first of two steps, after none of them, after more than there are
    ∷ row
    (map (λ t. (free_after three (eqb 0) 0 digits (step_of 1 3 (4 ∷ 5 ∷ 6 ∷ []) ∷ step_of 2 3 (7 ∷ 8 ∷ 9 ∷ []) ∷ []) t).k) (1 ∷ 0 ∷ 2 ∷ 3 ∷ []))
    (2 ∷ 1 ∷ 3 ∷ 3 ∷ [])
    ∷ []
