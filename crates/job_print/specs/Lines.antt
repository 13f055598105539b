-- The lines of an answer, by what the code has in hand, and when that is a finished run.
use Rattle.std.specs.Prelude.{List, [], ◌∷◌, ◌++◌, map, ◌≡◌, ℕ, suc, Float}
use Rattle.lists.specs.Functions.{chain}
use Rattle.lists.specs.Sets.{upto}
use Rattle.foundation.specs.Numbers.{bits_of}
use Rattle.foundation.specs.Pattern.{Lent}
use Rattle.foundation.specs.PlanCall.{counts_of}
use Rattle.foundation.specs.RunCall.{Ran}
use Rattle.foundation.specs.Printing.{spaced, hex_bits, line_numbers}
use Rattle.foundation.specs.Text.{ascii}

-- A word and numbers: the form of `plan_line`, `rows_line`, `updates_line` and `refused_line` (document 01, "Fields worked through").
unfoldable pub numbers_line : List ℕ → List ℕ → List ℕ
numbers_line word numbers = word ++ chain spaced numbers ++ ascii "\n"

-- Document 01, "Fields worked through": "x: row, bits in hexadecimal": `solution_line` by the number itself.
unfoldable pub value_line : ℕ → Float → List ℕ
value_line row x = ascii "x" ++ spaced row ++ ascii " " ++ hex_bits (bits_of x) ++ ascii "\n"

-- the lines of the solution, rows from `row` on
unfoldable pub value_lines : ℕ → List Float → List ℕ
value_lines row [] = []
value_lines row (x ∷ xs) = value_line row x ++ value_lines (suc row) xs

-- what is to be reported is this finished run of p
pub record Finished (p : Lent) (ran : Ran) (counts pivots : List ℕ) (solution : List Float) (updates : ℕ) : Type 0 where
  pub counted : counts ≡ line_numbers (counts_of p ran.plan)
  pub chosen : pivots ≡ ran.end.pivots
  pub solved : solution ≡ map ran.end.right (upto p.n)
  pub summed : updates ≡ ran.end.updates
