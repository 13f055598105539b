-- The pattern and its judgement, 1 to 5.
use Rattle.std.specs.Prelude.{List, [], ◌∷◌, map, ℕ, replicate}
use Rattle.foundation.specs.Pattern.{Lent, lent_square, Pattern, column, present, pattern_fault, judged}
use Rattle.foundation.specs.Table.{Case, case, told}
use Rattle.foundation.specs.Cases.Show.{flag, places, row, tall}

-- two rows, {1,2} and {2}, with these starts; with these columns
abbrev pub starts_as : ℕ → List ℕ → Lent
starts_as n starts = lent_square n starts (1 ∷ 2 ∷ 2 ∷ [])

abbrev pub columns_as : List ℕ → Lent
columns_as columns = lent_square 2 (0 ∷ 2 ∷ 4 ∷ []) columns

-- so many fields, or entries, and nothing else in order
abbrev pub sized : ℕ → ℕ → Lent
sized n entries = lent_square n [] (replicate entries 1)

-- the number that a pattern is refused with, 0 for none
abbrev pub fault : Lent → ℕ
fault p = pattern_fault 1024 p

-- n, the height, and the rows from 0 to n+2
abbrev pub show_pattern : Pattern → List (List ℕ)
show_pattern p = (p.n ∷ p.height ∷ []) ∷ map p.row (0 ∷ 1 ∷ 2 ∷ 3 ∷ 4 ∷ [])

unfoldable pub pattern_cases : List Case
pattern_cases =
    -- 1: "n is 0 or above 1,024": 1,024 is not 1 (but 2), 1,025 is
    row (map fault (sized 0 0 ∷ sized 1024 0 ∷ sized 1025 0 ∷ [])) (1 ∷ 2 ∷ 1 ∷ [])
    -- "(program: 128)": a caller may take fewer fields, and never more than 1,024
    ∷ row (pattern_fault 128 (sized 128 0) ∷ pattern_fault 128 (sized 129 0) ∷ []) (2 ∷ 1 ∷ [])
    ∷ row (pattern_fault 2000 (sized 1024 0) ∷ pattern_fault 2000 (sized 1025 0) ∷ []) (2 ∷ 1 ∷ [])
    -- "or entries above 16,384"
    ∷ row (map fault (sized 2 16384 ∷ sized 2 16385 ∷ [])) (2 ∷ 1 ∷ [])
    -- 2: "n+1 row starts", no fewer and no more
    ∷ row (map fault (starts_as 2 (0 ∷ 2 ∷ 3 ∷ []) ∷ starts_as 2 (0 ∷ 3 ∷ []) ∷ starts_as 2 (0 ∷ 2 ∷ 3 ∷ 3 ∷ []) ∷ [])) (0 ∷ 2 ∷ 2 ∷ [])
    -- nor one fewer where there are no entries
    ∷ row (map fault (lent_square 2 (0 ∷ 0 ∷ []) [] ∷ [])) (2 ∷ [])
    -- "first 0"
    ∷ row (map fault (starts_as 2 (1 ∷ 2 ∷ 3 ∷ []) ∷ [])) (2 ∷ [])
    -- "not falling": 3 and then 2; 4, past the entries, and then 3
    ∷ row (map fault (starts_as 3 (0 ∷ 3 ∷ 2 ∷ 3 ∷ []) ∷ starts_as 2 (0 ∷ 4 ∷ 3 ∷ []) ∷ [])) (2 ∷ 2 ∷ [])
    -- "last equal to the number of entries": one fewer, one more
    ∷ row (map fault (starts_as 2 (0 ∷ 2 ∷ 2 ∷ []) ∷ starts_as 2 (0 ∷ 2 ∷ 4 ∷ []) ∷ [])) (2 ∷ 2 ∷ [])
    -- equal starts are not falling: a row without columns is 5
    ∷ row (map fault (lent_square 2 (0 ∷ 0 ∷ 1 ∷ []) (2 ∷ []) ∷ [])) (5 ∷ [])
    -- 3: "a column is outside 1 to n": 0 in the first place, 3 in the last; 1 and n are inside
    ∷ row (map fault (columns_as (0 ∷ 1 ∷ 1 ∷ 2 ∷ []) ∷ columns_as (1 ∷ 2 ∷ 2 ∷ 3 ∷ []) ∷ columns_as (1 ∷ 2 ∷ 1 ∷ 2 ∷ []) ∷ [])) (3 ∷ 3 ∷ 0 ∷ [])
    -- 4: "columns do not ascend strictly in a row": equal, falling; from row to row they may fall
    ∷ row (map fault (columns_as (1 ∷ 1 ∷ 1 ∷ 2 ∷ []) ∷ columns_as (1 ∷ 2 ∷ 2 ∷ 1 ∷ []) ∷ [])) (4 ∷ 4 ∷ [])
    -- 5: "a row lacks its diagonal", the first, the last
    ∷ row (map fault (starts_as 2 (0 ∷ 0 ∷ 3 ∷ []) ∷ lent_square 2 (0 ∷ 1 ∷ 2 ∷ []) (2 ∷ 2 ∷ []) ∷ lent_square 2 (0 ∷ 1 ∷ 2 ∷ []) (1 ∷ 1 ∷ []) ∷ [])) (5 ∷ 5 ∷ 5 ∷ [])
    -- "3 before 4 at an entry": 0 after 2; but 4 at an entry before 3 at a later one
    ∷ row (map fault (lent_square 2 (0 ∷ 3 ∷ 4 ∷ []) (1 ∷ 2 ∷ 0 ∷ 2 ∷ []) ∷ lent_square 2 (0 ∷ 3 ∷ 4 ∷ []) (2 ∷ 1 ∷ 3 ∷ 2 ∷ []) ∷ [])) (3 ∷ 4 ∷ [])
    -- "5 at the row's end": after 3, after 4 of the same row
    ∷ row (map fault (lent_square 2 (0 ∷ 1 ∷ 2 ∷ []) (3 ∷ 2 ∷ []) ∷ lent_square 2 (0 ∷ 2 ∷ 3 ∷ []) (2 ∷ 2 ∷ 2 ∷ []) ∷ [])) (3 ∷ 4 ∷ [])
    -- "3, 4 and 5 go row by row": 5, 4 in row 1 before 3 in row 2
    ∷ row (map fault (lent_square 2 (0 ∷ 1 ∷ 2 ∷ []) (2 ∷ 3 ∷ []) ∷ lent_square 2 (0 ∷ 2 ∷ 3 ∷ []) (1 ∷ 1 ∷ 0 ∷ []) ∷ [])) (5 ∷ 4 ∷ [])
    -- "Order is that of the table": 1 before 2, 2 before 3
    ∷ row (map fault (lent_square 0 (1 ∷ []) [] ∷ lent_square 2 (1 ∷ 2 ∷ 3 ∷ []) (0 ∷ 3 ∷ 3 ∷ []) ∷ [])) (1 ∷ 2 ∷ [])
    -- A refusal has step 0. What passes is granted: n rows, each "from its start to the next one's", rows counted from 1.
    ∷ case (told show_pattern (judged 1024 (columns_as (1 ∷ 2 ∷ 2 ∷ 3 ∷ [])))) ((0 ∷ 3 ∷ 0 ∷ []) ∷ [])
    ∷ case (told show_pattern (judged 1 (starts_as 2 (0 ∷ 2 ∷ 3 ∷ [])))) ((0 ∷ 1 ∷ 0 ∷ []) ∷ [])
    ∷ case (told show_pattern (judged 1024 (starts_as 2 (0 ∷ 2 ∷ 3 ∷ []))))
    ((1 ∷ []) ∷ (2 ∷ 2 ∷ []) ∷ [] ∷ (1 ∷ 2 ∷ []) ∷ (2 ∷ []) ∷ [] ∷ [] ∷ [])
    -- "C_k is the set of rows with an entry in column k": rows are 1 to the height
    ∷ case (map (column tall) (0 ∷ 1 ∷ 2 ∷ 3 ∷ [])) ([] ∷ (1 ∷ 2 ∷ 3 ∷ []) ∷ (1 ∷ 2 ∷ 3 ∷ []) ∷ [] ∷ [])
    -- whether a place is in the pattern, rows 0 to 4, columns 0 to 3
    ∷ case (places (0 ∷ 1 ∷ 2 ∷ 3 ∷ 4 ∷ []) (0 ∷ 1 ∷ 2 ∷ 3 ∷ []) (λ i j. flag (present tall i j)))
    ((0 ∷ 0 ∷ 0 ∷ 0 ∷ []) ∷ (0 ∷ 1 ∷ 1 ∷ 0 ∷ []) ∷ (0 ∷ 1 ∷ 1 ∷ 0 ∷ []) ∷ (0 ∷ 1 ∷ 1 ∷ 0 ∷ []) ∷ (0 ∷ 0 ∷ 0 ∷ 0 ∷ []) ∷ [])
    ∷ []
