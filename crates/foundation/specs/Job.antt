-- The job: its grammar, byte by byte (document 01, "Job").
use Rattle.std.specs.Prelude.{Bool, true, false, cond, not, ◌&&◌, ◌||◌, List, [], ◌∷◌, ◌++◌, ℕ, zero, suc, ◌+◌, ◌*◌, eqb, ltb, leb, Float, length, take, drop}
use Rattle.foundation.specs.Answer.{Answer, refused, granted, refuse_if}
use Rattle.foundation.specs.Pattern.{Lent, lent_square}
use Rattle.foundation.specs.Numbers.{of_pattern}
use Rattle.foundation.specs.Reference.{Choice, largest, listed}

-- "The program takes at most 16,384 bytes, n at most 128".
abbrev pub max_job_bytes : ℕ
max_job_bytes = 16384

abbrev pub max_job_n : ℕ
max_job_n = 128

-- "Little-endian operands."
unfoldable pub little_endian : List ℕ → ℕ
little_endian [] = 0
little_endian (b ∷ bs) = b + 256 * little_endian bs

-- What has been read so far. n is 0 before N. A row is open from its R to its B; `starts`, `columns`, `values` and `right` hold what
-- the closed rows and the open one have brought, `rows` the rows that P has named.
pub record Reading : Type 0 where
  pub n : ℕ
  pub open_row : Bool
  pub starts : List ℕ
  pub columns : List ℕ
  pub values : List Float
  pub right : List Float
  pub rows : List ℕ

unfoldable pub nothing_read : Reading
nothing_read = record { n = 0; open_row = false; starts = 0 ∷ []; columns = []; values = []; right = []; rows = [] }

-- a job that was read to its Z
pub record Job : Type 0 where
  pub pattern : Lent
  pub values : List Float
  pub right : List Float
  pub choice : Choice

-- "P (..): after all rows, none or n of them": without P the largest entry chooses, with them the list does
unfoldable pub choice_of : List ℕ → Choice
choice_of [] = largest
choice_of (p ∷ ps) = listed (p ∷ ps)

unfoldable pub job_of : Reading → Job
job_of r =
    record { pattern = lent_square r.n r.starts r.columns; values = r.values; right = r.right; choice = choice_of r.rows }

-- reading goes on with what is left of the bytes, or is over
pub data Next : Type 0 where
  more : Reading → List ℕ → Next
  over : Answer Job → Next

-- Table, 16: "the bytes end inside or before a command"; 15: "a command byte is unknown or stands where it may not".
unfoldable pub cut_short : Next
cut_short = over (refused 16 0)

unfoldable pub misplaced : Next
misplaced = over (refused 15 0)

-- an operand of `size` bytes, and how reading goes on with it
unfoldable pub operand : ℕ → List ℕ → (ℕ → List ℕ → Next) → Next
operand size bytes then = cond (leb size (length bytes)) (then (little_endian (take size bytes)) (drop size bytes)) cut_short

-- ---- the commands

-- "N (hex 4E), u16 n, first." Table, 1: "n is 0 or above (..) (program: 128)", "1 for n at N".
unfoldable pub read_n : Reading → List ℕ → Next
read_n r bytes =
    operand 2 bytes (λ n rest.
    cond (eqb n 0 || ltb max_job_n n) (over (refused 1 0))
    (more
    (record { n = n; open_row = false; starts = r.starts; columns = r.columns; values = r.values; right = r.right; rows = r.rows })
    rest))

-- "R (52), u16 row: rows 1 to n in order." Table, 15: "R names another row than the next".
unfoldable pub read_r : Reading → List ℕ → Next
read_r r bytes =
    operand 2 bytes (λ row rest.
    cond (eqb row (suc (length r.right)))
    (more
    (record { n = r.n; open_row = true; starts = r.starts; columns = r.columns; values = r.values; right = r.right; rows = r.rows })
    rest)
    misplaced)

-- "E (45), u16 column and f64, in the row."
unfoldable pub read_e : Reading → List ℕ → Next
read_e r bytes =
    operand 2 bytes (λ column rest.
    operand 8 rest (λ bits rest.
    more
    (record {
      n = r.n;
      open_row = true;
      starts = r.starts;
      columns = r.columns ++ (column ∷ []);
      values = r.values ++ (of_pattern bits ∷ []);
      right = r.right;
      rows = r.rows;
    })
    rest))

-- "B (42), f64 right side, once at the end of each row."
unfoldable pub read_b : Reading → List ℕ → Next
read_b r bytes =
    operand 8 bytes (λ bits rest.
    more
    (record {
      n = r.n;
      open_row = false;
      starts = r.starts ++ (length r.columns ∷ []);
      columns = r.columns;
      values = r.values;
      right = r.right ++ (of_pattern bits ∷ []);
      rows = r.rows;
    })
    rest)

-- "P (50), u16 row: after all rows, none or n of them (else 15)."
unfoldable pub read_p : Reading → List ℕ → Next
read_p r bytes =
    operand 2 bytes (λ row rest.
    more
    (record {
      n = r.n;
      open_row = false;
      starts = r.starts;
      columns = r.columns;
      values = r.values;
      right = r.right;
      rows = r.rows ++ (row ∷ []);
    })
    rest)

-- "Z (5A): end." Table, 17: "bytes follow Z".
unfoldable pub read_z : Reading → List ℕ → Next
read_z r [] = over (granted (job_of r))
read_z r (b ∷ bytes) = over (refused 17 0)

-- Where each command may stand: N first; R between rows while one is left; E and B in a row; P and Z after all rows.
unfoldable pub command : Reading → ℕ → List ℕ → Next
command r byte bytes =
    let begun = ltb 0 r.n in
    let between-rows = begun && not r.open_row in
    let all_rows_lem = between-rows && eqb (length r.right) r.n in
    cond (eqb byte 0x4E && not begun) (read_n r bytes)
    (cond (eqb byte 0x52 && (between-rows && not all_rows_lem)) (read_r r bytes)
    (cond (eqb byte 0x45 && r.open_row) (read_e r bytes)
    (cond (eqb byte 0x42 && r.open_row) (read_b r bytes)
    (cond (eqb byte 0x50 && (all_rows_lem && ltb (length r.rows) r.n)) (read_p r bytes)
    (cond (eqb byte 0x5A && (all_rows_lem && (eqb (length r.rows) 0 || eqb (length r.rows) r.n))) (read_z r bytes) misplaced)))))

unfoldable pub next : Reading → List ℕ → Next
next r [] = cut_short
next r (byte ∷ bytes) = command r byte bytes

-- command after command; each takes a byte at least, so as many turns as there are bytes, and one, are enough
unfoldable pub reading : ℕ → Reading → List ℕ → Answer Job
reading zero r bytes = refused 16 0
reading (suc turns) r bytes = elim (next r bytes) [ more r' rest ↦ reading turns r' rest | over answer ↦ answer ]

-- "A job is first checked for 18, then byte by byte (1 for n at N; 15 to 17)". Table, 18: "the job is over 16,384 bytes".
unfoldable pub read_job : List ℕ → Answer Job
read_job bytes = refuse_if (ltb max_job_bytes (length bytes)) 18 (reading (suc (length bytes)) nothing_read bytes)
