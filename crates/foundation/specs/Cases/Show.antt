-- What the rows of the tables show: truth values, answers, squares and numbers f64, all as lists of numbers.
use Rattle.std.specs.Prelude.{Bool, cond, List, [], ◌∷◌, map, ℕ, Float}
use Rattle.std.specs.Float.{binary64}
use Rattle.std.specs.Float.Ieee.{of_bits, to_bits}
use Rattle.foundation.specs.Answer.{Answer, refused, granted}
use Rattle.foundation.specs.Pattern.{Pattern, lent_square, pattern_of}
use Rattle.foundation.specs.Table.{Case, case}

-- 1 for what holds, 0 for what does not
abbrev pub flag : Bool → ℕ
flag b = cond b 1 0

abbrev pub flags : List Bool → List ℕ
flags bs = map flag bs

-- the number of a bit pattern, and the bit pattern of a number
abbrev pub float : ℕ → Float
float pattern = of_bits binary64 pattern

abbrev pub floats : List ℕ → List Float
floats patterns = map float patterns

abbrev pub pattern : Float → ℕ
pattern x = to_bits binary64 x

abbrev pub patterns : List Float → List ℕ
patterns xs = map pattern xs

-- what a function yields at each row and column that is named
abbrev pub places : {A : Type 0} → List ℕ → List ℕ → (ℕ → ℕ → A) → List (List A)
places rows columns square = map (λ i. map (square i) columns) rows

-- one list beside one list
abbrev pub row : List ℕ → List ℕ → Case
row found expected = case (found ∷ []) (expected ∷ [])

-- the number that an answer refuses with, 0 where it grants
abbrev pub refusal_number : {A : Type 0} → Answer A → ℕ
refusal_number (refused number step) = number
refusal_number (granted a) = 0

-- the rows or columns of four fields
abbrev pub four : List ℕ
four = 1 ∷ 2 ∷ 3 ∷ 4 ∷ []

-- every place of three rows and columns
abbrev pub three : Pattern
three = record { n = 3; height = 3; row = λ i. 1 ∷ 2 ∷ 3 ∷ [] }

-- a pattern of three rows on two columns, each row {1,2}, as rows before the first and after the last would be too
abbrev pub tall : Pattern
tall = record { n = 2; height = 3; row = λ i. 1 ∷ 2 ∷ [] }

-- three rows on two columns: {1,2}, {2}, {1,2}
abbrev pub three_on_two : Pattern
three_on_two = record { n = 2; height = 3; row = (pattern_of (lent_square 3 (0 ∷ 2 ∷ 3 ∷ 5 ∷ []) (1 ∷ 2 ∷ 2 ∷ 1 ∷ 2 ∷ []))).row }
