-- Orthogonal steps (document 02, Ticket 7), on whole numbers: only whether one is zero is asked.
use Rattle.std.specs.Prelude.{Bool, cond, ◌||◌, List, [], ◌∷◌, ◌++◌, map, ℕ, eqb, leb, take, get_or}
use Rattle.lists.specs.Sets.{upto}
use Rattle.foundation.specs.Orthogonal.{OrthogonalStep, OrthogonalState, orthogonal_start, involves, in_union, orthogonal_step, orthogonal_run, orthogonal_after}
use Rattle.foundation.specs.Pattern.{Pattern, pattern_of}
use Rattle.foundation.specs.Table.{Case, case, four_fields}
use Rattle.foundation.specs.Cases.Free.{digits, square, three_fields}
use Rattle.foundation.specs.Cases.Show.{flag, four, places, row, tall, three}

-- Rows of three fields: no number at all
abbrev pub nothing : List (List ℕ)
nothing = ((0 ∷ 0 ∷ 0 ∷ []) ∷ (0 ∷ 0 ∷ 0 ∷ []) ∷ (0 ∷ 0 ∷ 0 ∷ []) ∷ [])

-- rows 1 and 3 have columns 1 and 3, row 2 has 2 and 3
abbrev pub apart : List (List ℕ)
apart = ((11 ∷ 0 ∷ 13 ∷ []) ∷ (0 ∷ 22 ∷ 23 ∷ []) ∷ (31 ∷ 0 ∷ 33 ∷ []) ∷ [])

-- rows 1 and 2 have column 1, one of them column 2, the other column 3; row 3 has column 3 alone
abbrev pub crossed : List (List ℕ)
crossed = ((11 ∷ 12 ∷ 0 ∷ []) ∷ (21 ∷ 0 ∷ 23 ∷ []) ∷ (0 ∷ 0 ∷ 33 ∷ []) ∷ [])

-- no row has column 1
abbrev pub clear : List (List ℕ)
clear = ((0 ∷ 12 ∷ 13 ∷ []) ∷ (0 ∷ 22 ∷ 23 ∷ []) ∷ (0 ∷ 32 ∷ 33 ∷ []) ∷ [])

-- every place
abbrev pub full : List (List ℕ)
full = ((11 ∷ 12 ∷ 13 ∷ []) ∷ (21 ∷ 22 ∷ 23 ∷ []) ∷ (31 ∷ 32 ∷ 33 ∷ []) ∷ [])

-- what a step may leave of these: column 1 in row 1 alone
abbrev pub once : List (List ℕ)
once = ((1 ∷ 2 ∷ 3 ∷ []) ∷ (0 ∷ 4 ∷ 5 ∷ []) ∷ (0 ∷ 6 ∷ 7 ∷ []) ∷ [])

-- three rows on two columns
abbrev pub higher : List (List ℕ)
higher = ((11 ∷ 0 ∷ []) ∷ (0 ∷ 22 ∷ []) ∷ (31 ∷ 32 ∷ []) ∷ [])

-- a step: its rows, and its vector's numbers for rows 1, 2 and so on
abbrev pub step_of : List (List ℕ) → List ℕ → OrthogonalStep ℕ
step_of rows vector = record { rows = square rows; vector = λ i. get_or (0 ∷ vector) i 0 }

-- k; then the rows; then for each row what the vectors of steps 1 to n have there; then the rows of the upper factor
abbrev pub shown : ℕ → ℕ → OrthogonalState ℕ → List (List ℕ)
shown height n s = (s.k ∷ []) ∷ (places (upto height) (upto n) s.rows ++ (places (upto height) (upto n) s.vectors ++ places (upto n) (upto n) s.factor))

abbrev pub run_on : Pattern → List (List ℕ) → List (OrthogonalStep ℕ) → List (List ℕ)
run_on p rows steps = shown p.height p.n (orthogonal_run p (eqb 0) (orthogonal_start p 0 (square rows)) steps)

-- how a row expects a state: k, rows, vectors, upper factor; and the state before any step of three fields
abbrev pub left : ℕ → List (List ℕ) → List (List ℕ) → List (List ℕ) → List (List ℕ)
left k rows vectors factor = (k ∷ []) ∷ (rows ++ (vectors ++ factor))

abbrev pub unchanged : List (List ℕ) → List (List ℕ)
unchanged rows = left 1 rows nothing nothing

-- 0 and 1 taken for zero
abbrev pub up_to_one : ℕ → Bool
up_to_one x = leb x 1

-- a state with these rows, no vector and no row of the upper factor
abbrev pub at : ℕ → List (List ℕ) → OrthogonalState ℕ
at k rows = record { k = k; rows = square rows; vectors = λ i l. 0; factor = λ l j. 0 }

-- three fields, and a row 4
abbrev pub beyond : List (List ℕ)
beyond = ((11 ∷ 0 ∷ 0 ∷ []) ∷ (0 ∷ 0 ∷ 0 ∷ []) ∷ (0 ∷ 0 ∷ 0 ∷ []) ∷ (41 ∷ 42 ∷ 0 ∷ []) ∷ [])

-- columns 1 to 4 of the union at k = 2, of the first so many of four rows
abbrev pub union_of : ℕ → List ℕ
union_of height =
    map
    (λ j. flag (in_union (record { n = 4; height = height; row = λ i. four }) (eqb 0) 2 (square ((1 ∷ 1 ∷ 1 ∷ 1 ∷ []) ∷ (0 ∷ 2 ∷ 0 ∷ 0 ∷ []) ∷ (0 ∷ 0 ∷ 3 ∷ 0 ∷ []) ∷ (0 ∷ 5 ∷ 0 ∷ 5 ∷ []) ∷ [])) j))
    four

-- three fields, all places nonzero, after a step that brings 9 in columns 0 and 4 of every row
abbrev pub wide_state : OrthogonalState ℕ
wide_state =
    orthogonal_step three (eqb 0) (at 1 full) (record { rows = λ i j. cond (eqb j 0 || eqb j 4) 9 (square once i j); vector = λ i. 0 })

-- Five steps: one to `once`; one that keeps column 2 below row 2; one with fewer columns; the last; one past n.
abbrev pub five_steps : List (OrthogonalStep ℕ)
five_steps =
    step_of once (1 ∷ 2 ∷ 3 ∷ [])
    ∷ step_of ((0 ∷ 0 ∷ 0 ∷ []) ∷ (0 ∷ 8 ∷ 8 ∷ []) ∷ (0 ∷ 9 ∷ 9 ∷ []) ∷ []) (4 ∷ 5 ∷ 6 ∷ [])
    ∷ step_of ((9 ∷ 9 ∷ 9 ∷ []) ∷ (0 ∷ 8 ∷ 0 ∷ []) ∷ (0 ∷ 0 ∷ 9 ∷ []) ∷ []) (4 ∷ 5 ∷ 6 ∷ [])
    ∷ step_of ((0 ∷ 0 ∷ 0 ∷ []) ∷ (0 ∷ 0 ∷ 0 ∷ []) ∷ (0 ∷ 0 ∷ 7 ∷ []) ∷ []) (7 ∷ 8 ∷ 9 ∷ [])
    ∷ step_of nothing (1 ∷ 1 ∷ 1 ∷ [])
    ∷ []

-- the four fields' four steps, with 1 in every column of the union, and what they come to
abbrev pub field_steps : List (OrthogonalStep ℕ)
field_steps =
    step_of ((1 ∷ 0 ∷ 1 ∷ 0 ∷ []) ∷ (0 ∷ 0 ∷ 0 ∷ 0 ∷ []) ∷ (0 ∷ 0 ∷ 1 ∷ 0 ∷ []) ∷ (0 ∷ 0 ∷ 0 ∷ 0 ∷ []) ∷ []) (1 ∷ 1 ∷ 1 ∷ 1 ∷ [])
    ∷ step_of ((0 ∷ 0 ∷ 0 ∷ 0 ∷ []) ∷ (0 ∷ 1 ∷ 1 ∷ 1 ∷ []) ∷ (0 ∷ 0 ∷ 0 ∷ 0 ∷ []) ∷ (0 ∷ 0 ∷ 1 ∷ 1 ∷ []) ∷ []) (1 ∷ 1 ∷ 1 ∷ 1 ∷ [])
    ∷ step_of ((0 ∷ 0 ∷ 0 ∷ 0 ∷ []) ∷ (0 ∷ 0 ∷ 0 ∷ 0 ∷ []) ∷ (0 ∷ 0 ∷ 1 ∷ 1 ∷ []) ∷ (0 ∷ 0 ∷ 0 ∷ 1 ∷ []) ∷ []) (1 ∷ 1 ∷ 1 ∷ 1 ∷ [])
    ∷ step_of ((0 ∷ 0 ∷ 0 ∷ 0 ∷ []) ∷ (0 ∷ 0 ∷ 0 ∷ 0 ∷ []) ∷ (0 ∷ 0 ∷ 0 ∷ 0 ∷ []) ∷ (0 ∷ 0 ∷ 0 ∷ 1 ∷ []) ∷ []) (1 ∷ 1 ∷ 1 ∷ 1 ∷ [])
    ∷ []

abbrev pub triangle : List (List ℕ)
triangle = ((1 ∷ 0 ∷ 1 ∷ 0 ∷ []) ∷ (0 ∷ 1 ∷ 1 ∷ 1 ∷ []) ∷ (0 ∷ 0 ∷ 1 ∷ 1 ∷ []) ∷ (0 ∷ 0 ∷ 0 ∷ 1 ∷ []) ∷ [])

unfoldable pub orthogonal_cases : List Case
orthogonal_cases =
    -- "at first the given numbers in the pattern and zero elsewhere"; no vector, no row of the upper factor; the empty list of steps
    case (shown 3 3 (orthogonal_run three_fields (eqb 0) (orthogonal_start three_fields 0 digits) []))
    (unchanged apart)
    -- the same with another zero, 1: it stands where nothing is given, and a listed 0 stays 0
    ∷ case (shown 3 3 (orthogonal_run three_fields up_to_one (orthogonal_start three_fields 1 (square ((0 ∷ 12 ∷ 13 ∷ []) ∷ (21 ∷ 0 ∷ 0 ∷ []) ∷ (31 ∷ 32 ∷ 33 ∷ []) ∷ []))) []))
    (left 1 ((0 ∷ 1 ∷ 13 ∷ []) ∷ (1 ∷ 0 ∷ 0 ∷ []) ∷ (31 ∷ 1 ∷ 33 ∷ []) ∷ []) ((1 ∷ 1 ∷ 1 ∷ []) ∷ (1 ∷ 1 ∷ 1 ∷ []) ∷ (1 ∷ 1 ∷ 1 ∷ []) ∷ []) ((1 ∷ 1 ∷ 1 ∷ []) ∷ (1 ∷ 1 ∷ 1 ∷ []) ∷ (1 ∷ 1 ∷ 1 ∷ []) ∷ []))
    -- "row k and the rows below it that have a nonzero in column k are replaced (..), all other rows unchanged": rows 1 and 3, in the union of their columns, 1 and 3; what is brought for
    -- row 2 is not looked at. "vectors are kept for those rows only": at rows 1 and 3, though row 3 then has zero in column 1
    ∷ case (run_on three apart (step_of ((5 ∷ 0 ∷ 6 ∷ []) ∷ (7 ∷ 7 ∷ 7 ∷ []) ∷ (0 ∷ 0 ∷ 8 ∷ []) ∷ []) (1 ∷ 2 ∷ 3 ∷ []) ∷ []))
    (left 2 ((5 ∷ 0 ∷ 6 ∷ []) ∷ (0 ∷ 22 ∷ 23 ∷ []) ∷ (0 ∷ 0 ∷ 8 ∷ []) ∷ []) ((1 ∷ 0 ∷ 0 ∷ []) ∷ (0 ∷ 0 ∷ 0 ∷ []) ∷ (3 ∷ 0 ∷ 0 ∷ []) ∷ []) ((5 ∷ 0 ∷ 6 ∷ []) ∷ (0 ∷ 0 ∷ 0 ∷ []) ∷ (0 ∷ 0 ∷ 0 ∷ []) ∷ []))
    -- "whose nonzeros lie in the union of their columns": column 2 is only in row 2, which is not among them; brought for row 1, and for row 3. Refused, nothing changes
    ∷ case (run_on three apart (step_of ((5 ∷ 1 ∷ 6 ∷ []) ∷ (0 ∷ 0 ∷ 0 ∷ []) ∷ (0 ∷ 0 ∷ 8 ∷ []) ∷ []) (1 ∷ 2 ∷ 3 ∷ []) ∷ []))
    (unchanged apart)
    ∷ case (run_on three apart (step_of ((5 ∷ 0 ∷ 6 ∷ []) ∷ (0 ∷ 0 ∷ 0 ∷ []) ∷ (0 ∷ 1 ∷ 8 ∷ []) ∷ []) (1 ∷ 2 ∷ 3 ∷ []) ∷ []))
    (unchanged apart)
    -- "those below k having none in column k": brought for row 3
    ∷ case (run_on three apart (step_of ((5 ∷ 0 ∷ 6 ∷ []) ∷ (0 ∷ 0 ∷ 0 ∷ []) ∷ (1 ∷ 0 ∷ 8 ∷ []) ∷ []) (1 ∷ 2 ∷ 3 ∷ []) ∷ []))
    (unchanged apart)
    -- the union of both rows' columns, in either row; row 3 has zero in column 1 and is not touched
    ∷ case (run_on three crossed (step_of ((1 ∷ 1 ∷ 1 ∷ []) ∷ (0 ∷ 1 ∷ 1 ∷ []) ∷ (9 ∷ 9 ∷ 9 ∷ []) ∷ []) (4 ∷ 5 ∷ 6 ∷ []) ∷ []))
    (left 2 ((1 ∷ 1 ∷ 1 ∷ []) ∷ (0 ∷ 1 ∷ 1 ∷ []) ∷ (0 ∷ 0 ∷ 33 ∷ []) ∷ []) ((4 ∷ 0 ∷ 0 ∷ []) ∷ (5 ∷ 0 ∷ 0 ∷ []) ∷ (0 ∷ 0 ∷ 0 ∷ []) ∷ []) ((1 ∷ 1 ∷ 1 ∷ []) ∷ (0 ∷ 0 ∷ 0 ∷ []) ∷ (0 ∷ 0 ∷ 0 ∷ []) ∷ []))
    -- "any rows": one column fewer in either; and none at all, a vector of zeros too
    ∷ case (run_on three crossed (step_of ((1 ∷ 1 ∷ 0 ∷ []) ∷ (0 ∷ 0 ∷ 1 ∷ []) ∷ (9 ∷ 9 ∷ 9 ∷ []) ∷ []) (4 ∷ 5 ∷ 6 ∷ []) ∷ []))
    (left 2 ((1 ∷ 1 ∷ 0 ∷ []) ∷ (0 ∷ 0 ∷ 1 ∷ []) ∷ (0 ∷ 0 ∷ 33 ∷ []) ∷ []) ((4 ∷ 0 ∷ 0 ∷ []) ∷ (5 ∷ 0 ∷ 0 ∷ []) ∷ (0 ∷ 0 ∷ 0 ∷ []) ∷ []) ((1 ∷ 1 ∷ 0 ∷ []) ∷ (0 ∷ 0 ∷ 0 ∷ []) ∷ (0 ∷ 0 ∷ 0 ∷ []) ∷ []))
    ∷ case (run_on three crossed (step_of ((0 ∷ 0 ∷ 0 ∷ []) ∷ (0 ∷ 0 ∷ 0 ∷ []) ∷ (0 ∷ 0 ∷ 0 ∷ []) ∷ []) (0 ∷ 0 ∷ 0 ∷ []) ∷ []))
    (left 2 ((0 ∷ 0 ∷ 0 ∷ []) ∷ (0 ∷ 0 ∷ 0 ∷ []) ∷ (0 ∷ 0 ∷ 33 ∷ []) ∷ []) nothing nothing)
    -- row k with a zero in column k is replaced all the same, and has column k if another of the rows has it
    ∷ case (run_on three ((0 ∷ 12 ∷ 0 ∷ []) ∷ (21 ∷ 0 ∷ 23 ∷ []) ∷ (0 ∷ 0 ∷ 33 ∷ []) ∷ []) (step_of ((5 ∷ 6 ∷ 7 ∷ []) ∷ (0 ∷ 8 ∷ 9 ∷ []) ∷ (9 ∷ 9 ∷ 9 ∷ []) ∷ []) (3 ∷ 4 ∷ 5 ∷ []) ∷ []))
    (left 2 ((5 ∷ 6 ∷ 7 ∷ []) ∷ (0 ∷ 8 ∷ 9 ∷ []) ∷ (0 ∷ 0 ∷ 33 ∷ []) ∷ []) ((3 ∷ 0 ∷ 0 ∷ []) ∷ (4 ∷ 0 ∷ 0 ∷ []) ∷ (0 ∷ 0 ∷ 0 ∷ []) ∷ []) ((5 ∷ 6 ∷ 7 ∷ []) ∷ (0 ∷ 0 ∷ 0 ∷ []) ∷ (0 ∷ 0 ∷ 0 ∷ []) ∷ []))
    -- no row has a nonzero in column k: row k alone is replaced, in its own columns; with column k the step is refused
    ∷ case (run_on three clear (step_of ((0 ∷ 5 ∷ 0 ∷ []) ∷ (9 ∷ 9 ∷ 9 ∷ []) ∷ (9 ∷ 9 ∷ 9 ∷ []) ∷ []) (7 ∷ 8 ∷ 9 ∷ []) ∷ []))
    (left 2 ((0 ∷ 5 ∷ 0 ∷ []) ∷ (0 ∷ 22 ∷ 23 ∷ []) ∷ (0 ∷ 32 ∷ 33 ∷ []) ∷ []) ((7 ∷ 0 ∷ 0 ∷ []) ∷ (0 ∷ 0 ∷ 0 ∷ []) ∷ (0 ∷ 0 ∷ 0 ∷ []) ∷ []) ((0 ∷ 5 ∷ 0 ∷ []) ∷ (0 ∷ 0 ∷ 0 ∷ []) ∷ (0 ∷ 0 ∷ 0 ∷ []) ∷ []))
    ∷ case (run_on three clear (step_of ((5 ∷ 0 ∷ 0 ∷ []) ∷ (0 ∷ 0 ∷ 0 ∷ []) ∷ (0 ∷ 0 ∷ 0 ∷ []) ∷ []) (7 ∷ 8 ∷ 9 ∷ []) ∷ []))
    (unchanged clear)
    -- a refused step changes nothing, k included: the second of two keeps column 2 below row 2
    ∷ case (run_on three full (take 2 five_steps))
    (left 2 once ((1 ∷ 0 ∷ 0 ∷ []) ∷ (2 ∷ 0 ∷ 0 ∷ []) ∷ (3 ∷ 0 ∷ 0 ∷ []) ∷ []) ((1 ∷ 2 ∷ 3 ∷ []) ∷ (0 ∷ 0 ∷ 0 ∷ []) ∷ (0 ∷ 0 ∷ 0 ∷ []) ∷ []))
    -- that step in the middle: the third goes on from the first, whose rows, vector and row of the upper factor stay; then the last step, at k = n, and one past n, which is refused
    ∷ case (run_on three full five_steps)
    (left 4 ((1 ∷ 2 ∷ 3 ∷ []) ∷ (0 ∷ 8 ∷ 0 ∷ []) ∷ (0 ∷ 0 ∷ 7 ∷ []) ∷ []) ((1 ∷ 0 ∷ 0 ∷ []) ∷ (2 ∷ 5 ∷ 0 ∷ []) ∷ (3 ∷ 6 ∷ 9 ∷ []) ∷ []) ((1 ∷ 2 ∷ 3 ∷ []) ∷ (0 ∷ 8 ∷ 0 ∷ []) ∷ (0 ∷ 0 ∷ 7 ∷ []) ∷ []))
    -- after the first t of these five, refused ones counted, for t from 0 on, and for more than there are
    ∷ row (map (λ t. (orthogonal_after three (eqb 0) 0 (square full) five_steps t).k) (0 ∷ upto 6))
    (1 ∷ 2 ∷ 2 ∷ 3 ∷ 4 ∷ 4 ∷ 4 ∷ [])
    -- column 1 has nothing left from row 2 on, so that step 2 may not bring it
    ∷ case (run_on three full (step_of once (1 ∷ 2 ∷ 3 ∷ []) ∷ step_of ((0 ∷ 0 ∷ 0 ∷ []) ∷ (1 ∷ 8 ∷ 0 ∷ []) ∷ (0 ∷ 0 ∷ 9 ∷ []) ∷ []) (4 ∷ 5 ∷ 6 ∷ []) ∷ []))
    (left 2 once ((1 ∷ 0 ∷ 0 ∷ []) ∷ (2 ∷ 0 ∷ 0 ∷ []) ∷ (3 ∷ 0 ∷ 0 ∷ []) ∷ []) ((1 ∷ 2 ∷ 3 ∷ []) ∷ (0 ∷ 0 ∷ 0 ∷ []) ∷ (0 ∷ 0 ∷ 0 ∷ []) ∷ []))
    -- rows are replaced in columns 1 to n: what is brought in columns 0 and 4 is neither looked at nor written (rows and upper factor, columns 0 to 4)
    ∷ case (places (1 ∷ 2 ∷ []) (0 ∷ upto 4) wide_state.rows ++ places (1 ∷ []) (0 ∷ upto 4) wide_state.factor)
    ((0 ∷ 1 ∷ 2 ∷ 3 ∷ 0 ∷ []) ∷ (0 ∷ 0 ∷ 4 ∷ 5 ∷ 0 ∷ []) ∷ (0 ∷ 1 ∷ 2 ∷ 3 ∷ 0 ∷ []) ∷ [])
    -- three rows on two columns: the last row is one of those replaced, and adds its column 2 to the union
    ∷ case (run_on tall higher (step_of ((1 ∷ 5 ∷ []) ∷ (0 ∷ 0 ∷ []) ∷ (0 ∷ 6 ∷ []) ∷ []) (1 ∷ 2 ∷ 3 ∷ []) ∷ []))
    (left 2 ((1 ∷ 5 ∷ []) ∷ (0 ∷ 22 ∷ []) ∷ (0 ∷ 6 ∷ []) ∷ []) ((1 ∷ 0 ∷ []) ∷ (0 ∷ 0 ∷ []) ∷ (3 ∷ 0 ∷ []) ∷ []) ((1 ∷ 5 ∷ []) ∷ (0 ∷ 0 ∷ []) ∷ []))
    ∷ case (run_on tall higher (step_of ((1 ∷ 5 ∷ []) ∷ (0 ∷ 0 ∷ []) ∷ (7 ∷ 6 ∷ []) ∷ []) (1 ∷ 2 ∷ 3 ∷ []) ∷ []))
    (left 1 higher ((0 ∷ 0 ∷ []) ∷ (0 ∷ 0 ∷ []) ∷ (0 ∷ 0 ∷ []) ∷ []) ((0 ∷ 0 ∷ []) ∷ (0 ∷ 0 ∷ []) ∷ []))
    -- columns go to n, not to the last row's number: what is brought in column 3 is neither looked at nor written
    ∷ case (places (1 ∷ 3 ∷ []) (upto 3) (orthogonal_step tall (eqb 0) (at 1 higher) (step_of ((1 ∷ 5 ∷ 9 ∷ []) ∷ (0 ∷ 0 ∷ 0 ∷ []) ∷ (0 ∷ 6 ∷ 9 ∷ []) ∷ []) (1 ∷ 2 ∷ 3 ∷ []))).rows)
    ((1 ∷ 5 ∷ 0 ∷ []) ∷ (0 ∷ 6 ∷ 0 ∷ []) ∷ [])
    -- its steps stop at n, though there is a row 3
    ∷ case (run_on tall higher (step_of ((1 ∷ 5 ∷ []) ∷ (0 ∷ 0 ∷ []) ∷ (0 ∷ 6 ∷ []) ∷ []) (1 ∷ 2 ∷ 3 ∷ []) ∷ step_of ((0 ∷ 0 ∷ []) ∷ (0 ∷ 8 ∷ []) ∷ (0 ∷ 0 ∷ []) ∷ []) (1 ∷ 2 ∷ 3 ∷ []) ∷ step_of ((0 ∷ 0 ∷ []) ∷ (0 ∷ 0 ∷ []) ∷ (0 ∷ 0 ∷ []) ∷ []) (4 ∷ 4 ∷ 4 ∷ []) ∷ []))
    (left 3 ((1 ∷ 5 ∷ []) ∷ (0 ∷ 8 ∷ []) ∷ (0 ∷ 0 ∷ []) ∷ []) ((1 ∷ 0 ∷ []) ∷ (0 ∷ 2 ∷ []) ∷ (3 ∷ 3 ∷ []) ∷ []) ((1 ∷ 5 ∷ []) ∷ (0 ∷ 8 ∷ []) ∷ []))
    -- an empty last row stays empty
    ∷ case (run_on tall ((11 ∷ 12 ∷ []) ∷ (0 ∷ 22 ∷ []) ∷ (0 ∷ 0 ∷ []) ∷ []) (step_of ((1 ∷ 5 ∷ []) ∷ (9 ∷ 9 ∷ []) ∷ (9 ∷ 9 ∷ []) ∷ []) (1 ∷ 2 ∷ 3 ∷ []) ∷ []))
    (left 2 ((1 ∷ 5 ∷ []) ∷ (0 ∷ 22 ∷ []) ∷ (0 ∷ 0 ∷ []) ∷ []) ((1 ∷ 0 ∷ []) ∷ (0 ∷ 0 ∷ []) ∷ (0 ∷ 0 ∷ []) ∷ []) ((1 ∷ 5 ∷ []) ∷ (0 ∷ 0 ∷ []) ∷ []))
    -- row k, whatever it has in column k, and rows below with a nonzero there: rows 1 to 4 at k = 2, column 2 being 7, 0, 0, 5
    ∷ row (map (λ i. flag (involves (eqb 0) 2 (square ((1 ∷ 7 ∷ 1 ∷ 1 ∷ []) ∷ (1 ∷ 0 ∷ 0 ∷ 0 ∷ []) ∷ (1 ∷ 0 ∷ 9 ∷ 1 ∷ []) ∷ (1 ∷ 5 ∷ 1 ∷ 0 ∷ []) ∷ [])) i)) four)
    (0 ∷ 1 ∷ 0 ∷ 1 ∷ [])
    -- columns 1 to 4 of the union at k = 2: of rows 2 and 4; where there are three rows, of row 2 alone
    ∷ row (union_of 4 ++ union_of 3)
    (0 ∷ 1 ∷ 0 ∷ 1 ∷ 0 ∷ 1 ∷ 0 ∷ 0 ∷ [])
    -- columns before k, in a state that no run comes to: a column of the union is brought and written there too; one that only a row before k has is not of it
    ∷ case (shown 3 3 (orthogonal_step three (eqb 0) (at 2 full) (step_of ((9 ∷ 9 ∷ 9 ∷ []) ∷ (5 ∷ 5 ∷ 5 ∷ []) ∷ (7 ∷ 0 ∷ 9 ∷ []) ∷ []) (1 ∷ 2 ∷ 3 ∷ []))))
    (left 3 ((11 ∷ 12 ∷ 13 ∷ []) ∷ (5 ∷ 5 ∷ 5 ∷ []) ∷ (7 ∷ 0 ∷ 9 ∷ []) ∷ []) ((0 ∷ 0 ∷ 0 ∷ []) ∷ (0 ∷ 2 ∷ 0 ∷ []) ∷ (0 ∷ 3 ∷ 0 ∷ []) ∷ []) ((0 ∷ 0 ∷ 0 ∷ []) ∷ (5 ∷ 5 ∷ 5 ∷ []) ∷ (0 ∷ 0 ∷ 0 ∷ []) ∷ []))
    ∷ case (shown 3 3 (orthogonal_step three (eqb 0) (at 2 ((11 ∷ 12 ∷ 13 ∷ []) ∷ (0 ∷ 22 ∷ 0 ∷ []) ∷ (0 ∷ 32 ∷ 0 ∷ []) ∷ [])) (step_of ((0 ∷ 0 ∷ 0 ∷ []) ∷ (0 ∷ 5 ∷ 5 ∷ []) ∷ (0 ∷ 0 ∷ 0 ∷ []) ∷ []) (1 ∷ 2 ∷ 3 ∷ []))))
    (left 2 ((11 ∷ 12 ∷ 13 ∷ []) ∷ (0 ∷ 22 ∷ 0 ∷ []) ∷ (0 ∷ 32 ∷ 0 ∷ []) ∷ []) nothing nothing)
    -- a row behind the last, in a state that no run comes to: it adds nothing to the union, and what is brought for it is not judged
    ∷ case (places (1 ∷ 4 ∷ []) (upto 3) (orthogonal_step three (eqb 0) (at 1 beyond) (step_of ((5 ∷ 6 ∷ 0 ∷ []) ∷ (0 ∷ 0 ∷ 0 ∷ []) ∷ (0 ∷ 0 ∷ 0 ∷ []) ∷ (0 ∷ 0 ∷ 0 ∷ []) ∷ []) (1 ∷ 2 ∷ 3 ∷ []))).rows)
    ((11 ∷ 0 ∷ 0 ∷ []) ∷ (41 ∷ 42 ∷ 0 ∷ []) ∷ [])
    ∷ case (places (1 ∷ 4 ∷ []) (upto 3) (orthogonal_step three (eqb 0) (at 1 beyond) (step_of ((5 ∷ 0 ∷ 0 ∷ []) ∷ (0 ∷ 0 ∷ 0 ∷ []) ∷ (0 ∷ 0 ∷ 0 ∷ []) ∷ (9 ∷ 9 ∷ 9 ∷ []) ∷ []) (1 ∷ 2 ∷ 3 ∷ []))).rows)
    ((5 ∷ 0 ∷ 0 ∷ []) ∷ (9 ∷ 9 ∷ 9 ∷ []) ∷ [])
    -- another zero, every number up to 1: a row below k with 1 in column k is not touched, and the vector has nothing there; 1 may be brought outside the union
    ∷ case (shown 3 3 (orthogonal_run three up_to_one (orthogonal_start three 0 (square ((11 ∷ 1 ∷ 13 ∷ []) ∷ (1 ∷ 22 ∷ 23 ∷ []) ∷ (31 ∷ 0 ∷ 33 ∷ []) ∷ []))) (step_of ((5 ∷ 1 ∷ 6 ∷ []) ∷ (7 ∷ 7 ∷ 7 ∷ []) ∷ (0 ∷ 1 ∷ 0 ∷ []) ∷ []) (3 ∷ 4 ∷ 5 ∷ []) ∷ [])))
    (left 2 ((5 ∷ 1 ∷ 6 ∷ []) ∷ (1 ∷ 22 ∷ 23 ∷ []) ∷ (0 ∷ 1 ∷ 0 ∷ []) ∷ []) ((3 ∷ 0 ∷ 0 ∷ []) ∷ (0 ∷ 0 ∷ 0 ∷ []) ∷ (5 ∷ 0 ∷ 0 ∷ []) ∷ []) ((5 ∷ 1 ∷ 6 ∷ []) ∷ (0 ∷ 0 ∷ 0 ∷ []) ∷ (0 ∷ 0 ∷ 0 ∷ []) ∷ []))
    -- the four fields, each step with all columns of its union: the upper factor fills U_1 to U_4, the vectors L_1 to L_4
    ∷ case (run_on (pattern_of four_fields) ((2 ∷ 0 ∷ 1 ∷ 0 ∷ []) ∷ (0 ∷ 1 ∷ 0 ∷ 1 ∷ []) ∷ (4 ∷ 0 ∷ 4 ∷ 0 ∷ []) ∷ (0 ∷ 2 ∷ 1 ∷ 4 ∷ []) ∷ []) field_steps)
    (left 5 triangle ((1 ∷ 0 ∷ 0 ∷ 0 ∷ []) ∷ (0 ∷ 1 ∷ 0 ∷ 0 ∷ []) ∷ (1 ∷ 0 ∷ 1 ∷ 0 ∷ []) ∷ (0 ∷ 1 ∷ 1 ∷ 1 ∷ []) ∷ []) triangle)
    ∷ []
