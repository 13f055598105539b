-- Where the reference stops: 13 and 14 in its steps. Below each sentence stand the rows of the square, each with its right side, as numbers.
use Rattle.std.specs.Prelude.{List, [], ◌∷◌}
use Rattle.foundation.specs.Reference.{largest, listed, whole, cut}
use Rattle.foundation.specs.Table.{Case, case}
use Rattle.foundation.specs.Cases.Reference.{two, solve}
use Rattle.foundation.specs.Cases.Show.{three}

unfoldable pub stop_cases : List Case
stop_cases =
    -- 13: "at step k no row from k on (..) has a nonzero entry" (one that is too faint: Cases/Faint): step 2, though row 1 has one; step 3 of a zero of either sign
    -- 1 1 1 | 1, 1 1 1 | 1, 1 1 2 | 1
    case (solve three largest whole
    ((0x3FF0000000000000 ∷ 0x3FF0000000000000 ∷ 0x3FF0000000000000 ∷ [])
    ∷ (0x3FF0000000000000 ∷ 0x3FF0000000000000 ∷ 0x3FF0000000000000 ∷ [])
    ∷ (0x3FF0000000000000 ∷ 0x3FF0000000000000 ∷ 0x4000000000000000 ∷ [])
    ∷ [])
    (0x3FF0000000000000 ∷ 0x3FF0000000000000 ∷ 0x3FF0000000000000 ∷ []))
    ((0 ∷ 13 ∷ 2 ∷ []) ∷ [])
    -- 1 0 0 | 1, 0 1 0 | 1, 0 0 -0 | 1
    ∷ case (solve three largest whole
    ((0x3FF0000000000000 ∷ 0x0000000000000000 ∷ 0x0000000000000000 ∷ [])
    ∷ (0x0000000000000000 ∷ 0x3FF0000000000000 ∷ 0x0000000000000000 ∷ [])
    ∷ (0x0000000000000000 ∷ 0x0000000000000000 ∷ 0x8000000000000000 ∷ [])
    ∷ [])
    (0x3FF0000000000000 ∷ 0x3FF0000000000000 ∷ 0x3FF0000000000000 ∷ []))
    ((0 ∷ 13 ∷ 3 ∷ []) ∷ [])
    -- "or not the listed row": row 2 is zero at step 1, though row 1 is not
    -- 1 0 | 1, 0 1 | 1
    ∷ case (solve two (listed (2 ∷ 2 ∷ [])) whole
    ((0x3FF0000000000000 ∷ 0x0000000000000000 ∷ [])
    ∷ (0x0000000000000000 ∷ 0x3FF0000000000000 ∷ [])
    ∷ [])
    (0x3FF0000000000000 ∷ 0x3FF0000000000000 ∷ []))
    ((0 ∷ 13 ∷ 1 ∷ []) ∷ [])
    -- a run that is cut before the step of its 13 does not stop
    -- 1 1 | 1, 1 1 | 1 become 1 1 | 1, 1 0 | 0
    ∷ case (solve two largest (cut 1)
    ((0x3FF0000000000000 ∷ 0x3FF0000000000000 ∷ [])
    ∷ (0x3FF0000000000000 ∷ 0x3FF0000000000000 ∷ [])
    ∷ [])
    (0x3FF0000000000000 ∷ 0x3FF0000000000000 ∷ []))
    ((1 ∷ [])
    ∷ (1 ∷ [])
    ∷ (1 ∷ [])
    ∷ (0x3FF0000000000000 ∷ 0x0000000000000000 ∷ [])
    ∷ (0x3FF0000000000000 ∷ 0x3FF0000000000000 ∷ [])
    ∷ (0x3FF0000000000000 ∷ 0x0000000000000000 ∷ [])
    ∷ [])
    -- 14: "a quotient (..) is not finite": the largest over a half, at step 1
    -- 0.5 0 | 0, largest 0 | 0
    ∷ case (solve two (listed (1 ∷ 2 ∷ [])) (cut 1)
    ((0x3FE0000000000000 ∷ 0x0000000000000000 ∷ [])
    ∷ (0x7FEFFFFFFFFFFFFF ∷ 0x0000000000000000 ∷ [])
    ∷ [])
    (0x0000000000000000 ∷ 0x0000000000000000 ∷ []))
    ((0 ∷ 14 ∷ 1 ∷ []) ∷ [])
    -- "product": 2 × the largest, in the first column right of k; in the last; in the last row; at step 2
    -- 1 largest 0 | 0, 2 0 0 | 0, 0 0 1 | 0
    ∷ case (solve three (listed (1 ∷ 2 ∷ 3 ∷ [])) (cut 1)
    ((0x3FF0000000000000 ∷ 0x7FEFFFFFFFFFFFFF ∷ 0x0000000000000000 ∷ [])
    ∷ (0x4000000000000000 ∷ 0x0000000000000000 ∷ 0x0000000000000000 ∷ [])
    ∷ (0x0000000000000000 ∷ 0x0000000000000000 ∷ 0x3FF0000000000000 ∷ [])
    ∷ [])
    (0x0000000000000000 ∷ 0x0000000000000000 ∷ 0x0000000000000000 ∷ []))
    ((0 ∷ 14 ∷ 1 ∷ []) ∷ [])
    -- 1 0 largest | 0, 2 0 0 | 0, 0 0 1 | 0
    ∷ case (solve three (listed (1 ∷ 2 ∷ 3 ∷ [])) (cut 1)
    ((0x3FF0000000000000 ∷ 0x0000000000000000 ∷ 0x7FEFFFFFFFFFFFFF ∷ [])
    ∷ (0x4000000000000000 ∷ 0x0000000000000000 ∷ 0x0000000000000000 ∷ [])
    ∷ (0x0000000000000000 ∷ 0x0000000000000000 ∷ 0x3FF0000000000000 ∷ [])
    ∷ [])
    (0x0000000000000000 ∷ 0x0000000000000000 ∷ 0x0000000000000000 ∷ []))
    ((0 ∷ 14 ∷ 1 ∷ []) ∷ [])
    -- 1 0 largest | 0, 0 1 0 | 0, 2 0 1 | 0
    ∷ case (solve three (listed (1 ∷ 2 ∷ 3 ∷ [])) (cut 1)
    ((0x3FF0000000000000 ∷ 0x0000000000000000 ∷ 0x7FEFFFFFFFFFFFFF ∷ [])
    ∷ (0x0000000000000000 ∷ 0x3FF0000000000000 ∷ 0x0000000000000000 ∷ [])
    ∷ (0x4000000000000000 ∷ 0x0000000000000000 ∷ 0x3FF0000000000000 ∷ [])
    ∷ [])
    (0x0000000000000000 ∷ 0x0000000000000000 ∷ 0x0000000000000000 ∷ []))
    ((0 ∷ 14 ∷ 1 ∷ []) ∷ [])
    -- 1 0 0 | 0, 0 1 largest | 0, 0 2 1 | 0
    ∷ case (solve three (listed (1 ∷ 2 ∷ 3 ∷ [])) (cut 2)
    ((0x3FF0000000000000 ∷ 0x0000000000000000 ∷ 0x0000000000000000 ∷ [])
    ∷ (0x0000000000000000 ∷ 0x3FF0000000000000 ∷ 0x7FEFFFFFFFFFFFFF ∷ [])
    ∷ (0x0000000000000000 ∷ 0x4000000000000000 ∷ 0x3FF0000000000000 ∷ [])
    ∷ [])
    (0x0000000000000000 ∷ 0x0000000000000000 ∷ 0x0000000000000000 ∷ []))
    ((0 ∷ 14 ∷ 2 ∷ []) ∷ [])
    -- "or difference": the largest less its negative, in the matrix
    -- 1 -largest | 0, 1 largest | 0
    ∷ case (solve two (listed (1 ∷ 2 ∷ [])) (cut 1)
    ((0x3FF0000000000000 ∷ 0xFFEFFFFFFFFFFFFF ∷ [])
    ∷ (0x3FF0000000000000 ∷ 0x7FEFFFFFFFFFFFFF ∷ [])
    ∷ [])
    (0x0000000000000000 ∷ 0x0000000000000000 ∷ []))
    ((0 ∷ 14 ∷ 1 ∷ []) ∷ [])
    -- of the right side: the product; the difference
    -- 1 0 | largest, 2 1 | 0
    ∷ case (solve two (listed (1 ∷ 2 ∷ [])) (cut 1)
    ((0x3FF0000000000000 ∷ 0x0000000000000000 ∷ [])
    ∷ (0x4000000000000000 ∷ 0x3FF0000000000000 ∷ [])
    ∷ [])
    (0x7FEFFFFFFFFFFFFF ∷ 0x0000000000000000 ∷ []))
    ((0 ∷ 14 ∷ 1 ∷ []) ∷ [])
    -- 1 0 | -largest, 1 1 | largest
    ∷ case (solve two (listed (1 ∷ 2 ∷ [])) (cut 1)
    ((0x3FF0000000000000 ∷ 0x0000000000000000 ∷ [])
    ∷ (0x3FF0000000000000 ∷ 0x3FF0000000000000 ∷ [])
    ∷ [])
    (0xFFEFFFFFFFFFFFFF ∷ 0x7FEFFFFFFFFFFFFF ∷ []))
    ((0 ∷ 14 ∷ 1 ∷ []) ∷ [])
    -- 14 looks at the rows and the right side as they are exchanged: a half over the largest is finite, 2 × 0 too
    -- 0.5 0 | 0, largest 0 | 0 become largest 0 | 0, 2.78134e-309 0 | 0
    ∷ case (solve two (listed (2 ∷ 2 ∷ [])) (cut 1)
    ((0x3FE0000000000000 ∷ 0x0000000000000000 ∷ [])
    ∷ (0x7FEFFFFFFFFFFFFF ∷ 0x0000000000000000 ∷ [])
    ∷ [])
    (0x0000000000000000 ∷ 0x0000000000000000 ∷ []))
    ((1 ∷ [])
    ∷ (2 ∷ [])
    ∷ (0 ∷ [])
    ∷ (0x0000000000000000 ∷ 0x0000000000000000 ∷ [])
    ∷ (0x7FEFFFFFFFFFFFFF ∷ 0x0000000000000000 ∷ [])
    ∷ (0x0002000000000000 ∷ 0x0000000000000000 ∷ [])
    ∷ [])
    -- 2 0 | largest, 1 1 | 0 become 1 1 | 0, 2 -2 | largest
    ∷ case (solve two (listed (2 ∷ 2 ∷ [])) (cut 1)
    ((0x4000000000000000 ∷ 0x0000000000000000 ∷ [])
    ∷ (0x3FF0000000000000 ∷ 0x3FF0000000000000 ∷ [])
    ∷ [])
    (0x7FEFFFFFFFFFFFFF ∷ 0x0000000000000000 ∷ []))
    ((1 ∷ [])
    ∷ (2 ∷ [])
    ∷ (1 ∷ [])
    ∷ (0x0000000000000000 ∷ 0x7FEFFFFFFFFFFFFF ∷ [])
    ∷ (0x3FF0000000000000 ∷ 0x3FF0000000000000 ∷ [])
    ∷ (0x4000000000000000 ∷ 0xC000000000000000 ∷ [])
    ∷ [])
    -- what is not taken is not looked at: a zero of the pivot row; a row whose entry is zero; a multiplier that is zero
    -- 1 0 | 0, 2 largest | largest become 1 0 | 0, 2 largest | largest
    ∷ case (solve two (listed (1 ∷ 2 ∷ [])) (cut 1)
    ((0x3FF0000000000000 ∷ 0x0000000000000000 ∷ [])
    ∷ (0x4000000000000000 ∷ 0x7FEFFFFFFFFFFFFF ∷ [])
    ∷ [])
    (0x0000000000000000 ∷ 0x7FEFFFFFFFFFFFFF ∷ []))
    ((1 ∷ [])
    ∷ (1 ∷ [])
    ∷ (0 ∷ [])
    ∷ (0x0000000000000000 ∷ 0x7FEFFFFFFFFFFFFF ∷ [])
    ∷ (0x3FF0000000000000 ∷ 0x0000000000000000 ∷ [])
    ∷ (0x4000000000000000 ∷ 0x7FEFFFFFFFFFFFFF ∷ [])
    ∷ [])
    -- 1 largest | largest, 0 largest | largest become 1 largest | largest, 0 largest | largest
    ∷ case (solve two (listed (1 ∷ 2 ∷ [])) (cut 1)
    ((0x3FF0000000000000 ∷ 0x7FEFFFFFFFFFFFFF ∷ [])
    ∷ (0x0000000000000000 ∷ 0x7FEFFFFFFFFFFFFF ∷ [])
    ∷ [])
    (0x7FEFFFFFFFFFFFFF ∷ 0x7FEFFFFFFFFFFFFF ∷ []))
    ((1 ∷ [])
    ∷ (1 ∷ [])
    ∷ (0 ∷ [])
    ∷ (0x7FEFFFFFFFFFFFFF ∷ 0x7FEFFFFFFFFFFFFF ∷ [])
    ∷ (0x3FF0000000000000 ∷ 0x7FEFFFFFFFFFFFFF ∷ [])
    ∷ (0x0000000000000000 ∷ 0x7FEFFFFFFFFFFFFF ∷ [])
    ∷ [])
    -- a quotient and its product with the pivot, which would pass the largest number, is not taken
    -- 1.84743 0 | 0, largest 0 | 0 become 1.84743 0 | 0, 9.73e+307 0 | 0
    ∷ case (solve two (listed (1 ∷ 2 ∷ [])) (cut 1)
    ((0x3FFD8F16AD9AC27C ∷ 0x0000000000000000 ∷ [])
    ∷ (0x7FEFFFFFFFFFFFFF ∷ 0x0000000000000000 ∷ [])
    ∷ [])
    (0x0000000000000000 ∷ 0x0000000000000000 ∷ []))
    ((1 ∷ [])
    ∷ (1 ∷ [])
    ∷ (0 ∷ [])
    ∷ (0x0000000000000000 ∷ 0x0000000000000000 ∷ [])
    ∷ (0x3FFD8F16AD9AC27C ∷ 0x0000000000000000 ∷ [])
    ∷ (0x7FE15242595B22B7 ∷ 0x0000000000000000 ∷ [])
    ∷ [])
    -- "13 and 14 as the run meets them": 14 at step 1 before 13 at step 2; 13 at step 1 where the quotients would not be finite
    -- 0.5 0 | 0, largest 0 | 0
    ∷ case (solve two (listed (1 ∷ 2 ∷ [])) whole
    ((0x3FE0000000000000 ∷ 0x0000000000000000 ∷ [])
    ∷ (0x7FEFFFFFFFFFFFFF ∷ 0x0000000000000000 ∷ [])
    ∷ [])
    (0x0000000000000000 ∷ 0x0000000000000000 ∷ []))
    ((0 ∷ 14 ∷ 1 ∷ []) ∷ [])
    -- 0 1 | 0, largest 1 | 0
    ∷ case (solve two (listed (1 ∷ 2 ∷ [])) whole
    ((0x0000000000000000 ∷ 0x3FF0000000000000 ∷ [])
    ∷ (0x7FEFFFFFFFFFFFFF ∷ 0x3FF0000000000000 ∷ [])
    ∷ [])
    (0x0000000000000000 ∷ 0x0000000000000000 ∷ []))
    ((0 ∷ 13 ∷ 1 ∷ []) ∷ [])
    -- "13 before any step was tried" is not: 13 at step 2 of the list 1, 2, 3
    -- 1 1 0 | 0, 1 1 1 | 0, 0 1 1 | 0
    ∷ case (solve three (listed (1 ∷ 2 ∷ 3 ∷ [])) whole
    ((0x3FF0000000000000 ∷ 0x3FF0000000000000 ∷ 0x0000000000000000 ∷ [])
    ∷ (0x3FF0000000000000 ∷ 0x3FF0000000000000 ∷ 0x3FF0000000000000 ∷ [])
    ∷ (0x0000000000000000 ∷ 0x3FF0000000000000 ∷ 0x3FF0000000000000 ∷ [])
    ∷ [])
    (0x0000000000000000 ∷ 0x0000000000000000 ∷ 0x0000000000000000 ∷ []))
    ((0 ∷ 13 ∷ 2 ∷ []) ∷ [])
    ∷ []
