-- The square as the slots show it, and laid back.
use Rattle.std.specs.Prelude.{List, [], ◌∷◌, ◌+◌, ◌*◌, Float}
use Rattle.foundation.specs.Pattern.{pattern_of}
use Rattle.foundation.specs.Plan.{lower, upper, plan}
use Rattle.foundation.specs.Square.{Square}
use Rattle.foundation.specs.Shown.{at_side, shown, shown_diagonal, laid}
use Rattle.foundation.specs.Table.{Case, case, four_fields}
use Rattle.foundation.specs.Cases.Show.{float, floats, four, pattern, patterns, places, row}

-- a square whose place (i, j) has the bit pattern ij
abbrev pub digits : Square Float
digits i j = float (10 * i + j)

unfoldable pub shown_cases : List Case
shown_cases =
    -- the place of a subscript x in list k: (x, k) in L, (k, x) in U
    row (pattern (at_side lower digits 2 7) ∷ pattern (at_side upper digits 2 7) ∷ []) (72 ∷ 27 ∷ [])
    -- "each slot has its place's bits", of the four fields: L slots (3,1), (4,2), (4,3); U slots (1,3), (2,3), (2,4), (3,4); the diagonal
    ∷ row (patterns (shown (plan (pattern_of four_fields)) lower 4 digits)) (31 ∷ 42 ∷ 43 ∷ [])
    ∷ row (patterns (shown (plan (pattern_of four_fields)) upper 4 digits)) (13 ∷ 23 ∷ 24 ∷ 34 ∷ [])
    ∷ row (patterns (shown_diagonal 4 digits)) (11 ∷ 22 ∷ 33 ∷ 44 ∷ [])
    -- "each place of the square without a slot is +0": L slots 91 to 93, U slots 81 to 84, the diagonal 71 to 74
    ∷ case
    (places four four (λ i j. pattern (laid (plan (pattern_of four_fields)) (floats (91 ∷ 92 ∷ 93 ∷ [])) (floats (81 ∷ 82 ∷ 83 ∷ 84 ∷ [])) (floats (71 ∷ 72 ∷ 73 ∷ 74 ∷ [])) i j)))
    ((71 ∷ 0 ∷ 81 ∷ 0 ∷ []) ∷ (0 ∷ 72 ∷ 82 ∷ 83 ∷ []) ∷ (91 ∷ 0 ∷ 73 ∷ 84 ∷ []) ∷ (0 ∷ 92 ∷ 93 ∷ 74 ∷ []) ∷ [])
    -- past a store's end there is nothing but +0
    ∷ case (places four four (λ i j. pattern (laid (plan (pattern_of four_fields)) [] [] [] i j)))
    ((0 ∷ 0 ∷ 0 ∷ 0 ∷ []) ∷ (0 ∷ 0 ∷ 0 ∷ 0 ∷ []) ∷ (0 ∷ 0 ∷ 0 ∷ 0 ∷ []) ∷ (0 ∷ 0 ∷ 0 ∷ 0 ∷ []) ∷ [])
    ∷ []
