-- The pattern of a field's equations, as it is lent and as the steps read it, and the judgement 1 to 5.
use Rattle.std.specs.Prelude.{Bool, true, cond, ◌&&◌, ◌||◌, List, [], ◌∷◌, ℕ, zero, suc, min, eqb, ltb, leb, length, get_or}
use Rattle.std.proofs.Math.Seq.{slice}
use Rattle.lists.specs.Functions.{keep}
use Rattle.lists.specs.Sets.{member, upto}
use Rattle.foundation.specs.Answer.{Answer, refused, granted}

-- Document 01, "Pattern": "A pattern is n+1 row starts (..) and the column numbers"; document 02, ticket 9: "a row count of n to 2,048 beside n", by
-- which the row starts go: `height` here and wherever rows are counted. This is the pattern as lent, not yet judged.
pub record Lent : Type 0 where
  pub n : ℕ
  pub height : ℕ
  pub starts : List ℕ
  pub columns : List ℕ

unfoldable pub lent : (n height : ℕ) (starts columns : List ℕ) → Lent
lent n height starts columns = record { n = n; height = height; starts = starts; columns = columns }

-- document 01's patterns: as many rows as columns
abbrev pub lent_square : (n : ℕ) (starts columns : List ℕ) → Lent
lent_square n starts columns = lent n n starts columns

-- Document 01, "Plan": "R_i the set of columns of row i", rows counted from 1. `height` is the number of rows.
pub record Pattern : Type 0 where
  pub n : ℕ
  pub height : ℕ
  pub row : ℕ → List ℕ

-- Document 01, "Plan": "C_k is the set of rows with an entry in column k".
unfoldable pub column : Pattern → ℕ → List ℕ
column p k = keep (λ i. member k (p.row i)) (upto p.height)

-- whether place (i, j) is in the pattern
unfoldable pub present : Pattern → ℕ → ℕ → Bool
present p i j = (leb 1 i && leb i p.height) && member j (p.row i)

-- Document 01, "Pattern": "Rows and columns count from 1, places in stores from 0". Row i lies from its start to the next one's.
unfoldable pub row_of : Lent → ℕ → List ℕ
row_of p zero = []
row_of p (suc i) = slice (get_or p.starts i 0) (get_or p.starts (suc i) 0) p.columns

-- the pattern that a lent one stands for: its rows, and n columns
unfoldable pub pattern_of : Lent → Pattern
pattern_of p = record { n = p.n; height = p.height; row = row_of p }

-- ---- the judgement

-- Document 01, "Pattern": "n is 1 to 1,024, entries at most 16,384"; table, 1: "(program: 128)".
unfoldable pub max_n : ℕ
max_n = 1024

unfoldable pub max_entries : ℕ
max_entries = 16384

-- Document 02, ticket 9: "a row count of n to 2,048".
unfoldable pub max_height : ℕ
max_height = 2048

-- Table, 1: "n is 0 or above 1,024 (program: 128), or entries above 16,384". The largest n of a caller is a parameter, and 1,024 whatever
-- the caller takes.
unfoldable pub too_large : ℕ → Lent → Bool
unfolding max_entries max_n
too_large most p = eqb p.n 0 || (ltb (min most max_n) p.n || ltb max_entries (length p.columns))

-- Document 02, ticket 9: "Fewer rows than n, or above 2,048, is 25".
unfoldable pub height_fits : Lent → Bool
unfolding max_height
height_fits p = leb p.n p.height && leb p.height max_height

-- each number of the list is at least the one before it, the first at least `low`
unfoldable pub not_falling : ℕ → List ℕ → Bool
not_falling low [] = true
not_falling low (x ∷ xs) = leb low x && not_falling x xs

-- Document 01, "Pattern": "n+1 row starts (first 0, not falling, last equal to the number of entries)"; ticket 9: "Row starts (..) go by the row count".
unfoldable pub starts_fit : Lent → Bool
starts_fit p =
    eqb (length p.starts) (suc p.height)
    && (eqb (get_or p.starts 0 0) 0 && (not_falling 0 p.starts && eqb (get_or p.starts p.height 0) (length p.columns)))

-- Table, 3: "a column is outside 1 to n"; 4: "columns do not ascend strictly in a row"; "3 before 4 at an entry".
-- The first fault among the columns of a row, 0 where there is none. `before` is the column before, 0 at the row's first.
unfoldable pub entries_fault : ℕ → ℕ → List ℕ → ℕ
entries_fault n before [] = 0
entries_fault n before (c ∷ cs) = cond (leb 1 c && leb c n) (cond (ltb before c) (entries_fault n c cs) 4) 3

-- a fault found earlier goes before a later one
unfoldable pub first_fault : ℕ → ℕ → ℕ
first_fault zero later = later
first_fault (suc fault) later = suc fault

-- Table, 5: "a row lacks its diagonal", "5 at the row's end"; ticket 9: "Rows above n need no diagonal and may be empty".
unfoldable pub row_fault : Lent → ℕ → ℕ
row_fault p i = first_fault (entries_fault p.n 0 (row_of p i)) (cond (ltb p.n i || member i (row_of p i)) 0 5)

-- "3, 4 and 5 go row by row": the first fault from row i on, over `left` rows.
unfoldable pub rows_fault : Lent → ℕ → ℕ → ℕ
rows_fault p i zero = 0
rows_fault p i (suc left) = first_fault (row_fault p i) (rows_fault p (suc i) left)

-- Refusals 1 to 5 in the table's order, with "25, after 1": the number of the first that is given, 0 where the pattern passes 1 to 5, which is document 01's
-- "a pattern that can be planned"; "what passes 1 to 5 has passed 25".
unfoldable pub pattern_fault : ℕ → Lent → ℕ
pattern_fault most p = cond (too_large most p) 1 (cond (height_fits p) (cond (starts_fit p) (rows_fault p 1 p.height) 2) 25)

-- the first refusal, or the rows
unfoldable pub judged : ℕ → Lent → Answer Pattern
judged most p = cond (eqb (pattern_fault most p) 0) (granted (pattern_of p)) (refused (pattern_fault most p) 0)
