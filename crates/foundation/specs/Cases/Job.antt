-- The job: where each command may stand, its operands, 1 at N and 15 to 18.
use Rattle.std.specs.Prelude.{true, List, [], ◌∷◌, ◌++◌, map, ℕ, take, replicate}
use Rattle.foundation.specs.Reference.{Choice, largest, listed}
use Rattle.foundation.specs.Job.{max_job_bytes, max_job_n, little_endian, Reading, nothing_read, Job, Next, more, over, read_n, read_r, read_e, read_b, read_p, read_z, reading, read_job}
use Rattle.foundation.specs.Table.{Case, case, told}
use Rattle.foundation.specs.Cases.Show.{flag, floats, patterns, refusal_number, row}

-- ---- jobs

-- 1.5 in bytes, its last the sign's
abbrev pub one_and_half : List ℕ
one_and_half = 0 ∷ 0 ∷ 0 ∷ 0 ∷ 0 ∷ 0 ∷ 0xF8 ∷ 0x3F ∷ []

-- `N` and n, `R` and a row, `E` with a column and 1.5, `B` with 1.5, `P` and a row, `Z`: operands below 256
abbrev pub begin : ℕ → List ℕ
begin n = 0x4E ∷ n ∷ 0 ∷ []

abbrev pub opened_row : ℕ → List ℕ
opened_row i = 0x52 ∷ i ∷ 0 ∷ []

abbrev pub entry : ℕ → List ℕ
entry j = 0x45 ∷ j ∷ 0 ∷ one_and_half

abbrev pub close : List ℕ
close = 0x42 ∷ one_and_half

abbrev pub pick : ℕ → List ℕ
pick p = 0x50 ∷ p ∷ 0 ∷ []

abbrev pub end : List ℕ
end = 0x5A ∷ []

-- a job of two fields, as far as it has come
abbrev pub in_row_one : List ℕ
in_row_one = begin 2 ++ opened_row 1

abbrev pub between_rows : List ℕ
between_rows = in_row_one ++ entry 1 ++ close

abbrev pub in_row_two : List ℕ
in_row_two = between_rows ++ opened_row 2

abbrev pub all_rows : List ℕ
all_rows = in_row_two ++ entry 2 ++ close

-- ---- what a row shows

-- the number that a job is refused with, 0 for none; 16 where it was read to its end without Z
abbrev pub number : List ℕ → ℕ
number bytes = refusal_number (read_job bytes)

-- what comes of each command behind a job that has come so far: N, R 1, R 2, R 3, E, B, P, Z, and a byte that is none
abbrev pub follow : List ℕ → List ℕ
follow bytes =
    map (λ next. number (bytes ++ next)) (begin 2 ∷ opened_row 1 ∷ opened_row 2 ∷ opened_row 3 ∷ entry 1 ∷ close ∷ pick 2 ∷ end ∷ (0x00 ∷ []) ∷ [])

abbrev pub choice_shown : Choice → List ℕ
choice_shown largest = 0 ∷ []
choice_shown (listed rows) = 1 ∷ rows

-- n, row starts, columns, values, right side, the choice of rows
abbrev pub job_shown : Job → List (List ℕ)
job_shown job =
    (job.pattern.n ∷ [])
    ∷ job.pattern.starts
    ∷ job.pattern.columns
    ∷ patterns job.values
    ∷ patterns job.right
    ∷ choice_shown job.choice
    ∷ []

-- a job half read, each part of it another
abbrev pub some_read : Reading
some_read =
    record {
      n = 7;
      open_row = true;
      starts = 0 ∷ 2 ∷ [];
      columns = 1 ∷ 3 ∷ [];
      values = floats (4 ∷ 5 ∷ []);
      right = floats (6 ∷ []);
      rows = 8 ∷ [];
    }

-- what has been read after a command, and the bytes that are left; or the refusal's number
abbrev pub reading_shown : Reading → List ℕ → List (List ℕ)
reading_shown r rest =
    (r.n ∷ flag r.open_row ∷ []) ∷ r.starts ∷ r.columns ∷ patterns r.values ∷ patterns r.right ∷ r.rows ∷ rest ∷ []

abbrev pub next_shown : Next → List (List ℕ)
next_shown (more r rest) = reading_shown r rest
next_shown (over answer) = (refusal_number answer ∷ []) ∷ []

-- ---- the table

unfoldable pub position_cases : List Case
position_cases =
    -- "N (hex 4E), u16 n, first": behind nothing N alone may stand
    row (follow []) (16 ∷ 15 ∷ 15 ∷ 15 ∷ 15 ∷ 15 ∷ 15 ∷ 15 ∷ 15 ∷ [])
    -- "R (52), u16 row: rows 1 to n in order": behind N, R 1
    ∷ row (follow (begin 2)) (15 ∷ 16 ∷ 15 ∷ 15 ∷ 15 ∷ 15 ∷ 15 ∷ 15 ∷ 15 ∷ [])
    -- "E (45), u16 column and f64, in the row. B (42), f64 right side, once at the end of each row": in a row E and B, also without an E
    ∷ row (follow in_row_one) (15 ∷ 15 ∷ 15 ∷ 15 ∷ 16 ∷ 16 ∷ 15 ∷ 15 ∷ 15 ∷ [])
    ∷ row (follow (in_row_one ++ entry 1)) (15 ∷ 15 ∷ 15 ∷ 15 ∷ 16 ∷ 16 ∷ 15 ∷ 15 ∷ 15 ∷ [])
    -- behind row 1, R 2; then a row again
    ∷ row (follow between_rows) (15 ∷ 15 ∷ 16 ∷ 15 ∷ 15 ∷ 15 ∷ 15 ∷ 15 ∷ 15 ∷ [])
    ∷ row (follow in_row_two) (15 ∷ 15 ∷ 15 ∷ 15 ∷ 16 ∷ 16 ∷ 15 ∷ 15 ∷ 15 ∷ [])
    -- "P (50), u16 row: after all rows, none or n of them (else 15). Z (5A): end": behind all rows P and Z, and no R
    ∷ row (follow all_rows) (15 ∷ 15 ∷ 15 ∷ 15 ∷ 15 ∷ 15 ∷ 16 ∷ 0 ∷ 15 ∷ [])
    -- behind one P of two another P alone; behind two Z alone
    ∷ row (follow (all_rows ++ pick 1)) (15 ∷ 15 ∷ 15 ∷ 15 ∷ 15 ∷ 15 ∷ 16 ∷ 15 ∷ 15 ∷ [])
    ∷ row (follow (all_rows ++ pick 1 ++ pick 2)) (15 ∷ 15 ∷ 15 ∷ 15 ∷ 15 ∷ 15 ∷ 15 ∷ 0 ∷ 15 ∷ [])
    -- 15: "R names another row than the next": 0, 257, in whose low byte is 1
    ∷ row (number (begin 2 ++ opened_row 0) ∷ number (begin 2 ++ (0x52 ∷ 1 ∷ 1 ∷ [])) ∷ []) (15 ∷ 15 ∷ [])
    -- "a command byte is unknown": those next to the six
    ∷ row (map (λ byte. number (all_rows ++ (byte ∷ []))) (0x41 ∷ 0x43 ∷ 0x44 ∷ 0x46 ∷ 0x4D ∷ 0x4F ∷ 0x51 ∷ 0x53 ∷ 0x59 ∷ 0x5B ∷ 0x7A ∷ 0xFF ∷ []))
    (15 ∷ 15 ∷ 15 ∷ 15 ∷ 15 ∷ 15 ∷ 15 ∷ 15 ∷ 15 ∷ 15 ∷ 15 ∷ 15 ∷ [])
    -- 1: "n is 0 or above (..) (program: 128)", "1 for n at N": 128 is not, 256 is, whatever follows
    ∷ row (map (λ n. number (begin n)) (0 ∷ 1 ∷ 128 ∷ 129 ∷ [])) (1 ∷ 16 ∷ 16 ∷ 1 ∷ [])
    ∷ row (number (0x4E ∷ 0 ∷ 1 ∷ []) ∷ number (begin 0 ++ (0x00 ∷ [])) ∷ []) (1 ∷ 1 ∷ [])
    -- 16: "the bytes end inside or before a command": a job of 30 bytes cut to 0 to 29 of them, and whole
    ∷ row (map (λ count. number (take count (begin 1 ++ opened_row 1 ++ entry 1 ++ close ++ pick 1 ++ end))) (0 ∷ 1 ∷ 2 ∷ 3 ∷ 4 ∷ 5 ∷ 6 ∷ 7 ∷ 8 ∷ 9 ∷ 10 ∷ []))
    (16 ∷ 16 ∷ 16 ∷ 16 ∷ 16 ∷ 16 ∷ 16 ∷ 16 ∷ 16 ∷ 16 ∷ 16 ∷ [])
    ∷ row (map (λ count. number (take count (begin 1 ++ opened_row 1 ++ entry 1 ++ close ++ pick 1 ++ end))) (15 ∷ 16 ∷ 17 ∷ 18 ∷ 24 ∷ 25 ∷ 26 ∷ 27 ∷ 28 ∷ 29 ∷ 30 ∷ []))
    (16 ∷ 16 ∷ 16 ∷ 16 ∷ 16 ∷ 16 ∷ 16 ∷ 16 ∷ 16 ∷ 16 ∷ 0 ∷ [])
    -- 15 before 16: a command that may not stand there is refused whatever follows it; an R cut short is 16
    ∷ row (number (0x52 ∷ []) ∷ number (begin 2 ++ (0x45 ∷ [])) ∷ number (begin 2 ++ (0x52 ∷ 9 ∷ [])) ∷ []) (15 ∷ 15 ∷ 16 ∷ [])
    -- 17: "bytes follow Z": another Z, anything
    ∷ row (number (all_rows ++ end ++ end) ∷ number (all_rows ++ end ++ (0x00 ∷ [])) ∷ []) (17 ∷ 17 ∷ [])
    -- 18: "the job is over 16,384 bytes", before all else
    ∷ row (number (replicate 16384 0x00) ∷ number (replicate 16385 0x00) ∷ []) (15 ∷ 18 ∷ [])
    ∷ row (max_job_bytes ∷ max_job_n ∷ []) (16384 ∷ 128 ∷ [])
    -- each with step 0
    ∷ case (told job_shown (read_job [])) ((0 ∷ 16 ∷ 0 ∷ []) ∷ [])
    ∷ case (told job_shown (read_job (0x00 ∷ []))) ((0 ∷ 15 ∷ 0 ∷ []) ∷ [])
    ∷ case (told job_shown (read_job (begin 0))) ((0 ∷ 1 ∷ 0 ∷ []) ∷ [])
    ∷ case (told job_shown (read_job (all_rows ++ end ++ end))) ((0 ∷ 17 ∷ 0 ∷ []) ∷ [])
    ∷ case (told job_shown (read_job (replicate 16385 0x00))) ((0 ∷ 18 ∷ 0 ∷ []) ∷ [])
    -- no turn left: 16
    ∷ case (told job_shown (reading 0 nothing_read (begin 2))) ((0 ∷ 16 ∷ 0 ∷ []) ∷ [])
    ∷ []

unfoldable pub job_cases : List Case
job_cases =
    -- "Little-endian operands": n, rows, columns, values and right side of two rows; without P the largest entry chooses
    case
    (told job_shown
    (read_job
    (begin 2
    ++ opened_row 1
    ++ (0x45 ∷ 0x01 ∷ 0x00 ∷ 0x9A ∷ 0x99 ∷ 0x99 ∷ 0x99 ∷ 0x99 ∷ 0x99 ∷ 0xB9 ∷ 0x3F ∷ [])
    ++ (0x45 ∷ 0x02 ∷ 0x01 ∷ 0x01 ∷ 0x00 ∷ 0x00 ∷ 0x00 ∷ 0x00 ∷ 0x00 ∷ 0x00 ∷ 0x80 ∷ [])
    ++ (0x42 ∷ 0x00 ∷ 0x00 ∷ 0x00 ∷ 0x00 ∷ 0x00 ∷ 0x00 ∷ 0xF0 ∷ 0x7F ∷ [])
    ++ opened_row 2
    ++ entry 2
    ++ (0x42 ∷ 0x02 ∷ 0x00 ∷ 0x00 ∷ 0x00 ∷ 0x00 ∷ 0x00 ∷ 0x00 ∷ 0x40 ∷ [])
    ++ end)))
    ((1 ∷ [])
    ∷ (2 ∷ [])
    ∷ (0 ∷ 2 ∷ 3 ∷ [])
    ∷ (1 ∷ 258 ∷ 2 ∷ [])
    ∷ (0x3FB999999999999A ∷ 0x8000000000000001 ∷ 0x3FF8000000000000 ∷ [])
    ∷ (0x7FF0000000000000 ∷ 0x4000000000000002 ∷ [])
    ∷ (0 ∷ [])
    ∷ [])
    -- with n of them P's rows are the list, in their order, whatever they are
    ∷ case (told job_shown (read_job (all_rows ++ pick 9 ++ (0x50 ∷ 0x03 ∷ 0x01 ∷ []) ++ end)))
    ((1 ∷ [])
    ∷ (2 ∷ [])
    ∷ (0 ∷ 1 ∷ 2 ∷ [])
    ∷ (1 ∷ 2 ∷ [])
    ∷ (0x3FF8000000000000 ∷ 0x3FF8000000000000 ∷ [])
    ∷ (0x3FF8000000000000 ∷ 0x3FF8000000000000 ∷ [])
    ∷ (1 ∷ 9 ∷ 259 ∷ [])
    ∷ [])
    -- the low byte first
    ∷ row (little_endian (1 ∷ 2 ∷ 3 ∷ []) ∷ little_endian [] ∷ []) (197121 ∷ 0 ∷ [])
    -- each command takes its own bytes, adds its own part to what was read, and leaves the rest: N
    ∷ case (next_shown (read_n some_read (0x10 ∷ 0x00 ∷ 0x77 ∷ []))) ((16 ∷ 0 ∷ []) ∷ (0 ∷ 2 ∷ []) ∷ (1 ∷ 3 ∷ []) ∷ (4 ∷ 5 ∷ []) ∷ (6 ∷ []) ∷ (8 ∷ []) ∷ (0x77 ∷ []) ∷ [])
    -- R, whose row is one more than there are right sides
    ∷ case (next_shown (read_r some_read (0x02 ∷ 0x00 ∷ 0x77 ∷ []))) ((7 ∷ 1 ∷ []) ∷ (0 ∷ 2 ∷ []) ∷ (1 ∷ 3 ∷ []) ∷ (4 ∷ 5 ∷ []) ∷ (6 ∷ []) ∷ (8 ∷ []) ∷ (0x77 ∷ []) ∷ [])
    ∷ case (next_shown (read_r some_read (0x01 ∷ 0x00 ∷ 0x77 ∷ []))) ((15 ∷ []) ∷ [])
    -- E
    ∷ case (next_shown (read_e some_read (0x09 ∷ 0x00 ∷ one_and_half ++ (0x77 ∷ []))))
    ((7 ∷ 1 ∷ []) ∷ (0 ∷ 2 ∷ []) ∷ (1 ∷ 3 ∷ 9 ∷ []) ∷ (4 ∷ 5 ∷ 0x3FF8000000000000 ∷ []) ∷ (6 ∷ []) ∷ (8 ∷ []) ∷ (0x77 ∷ []) ∷ [])
    -- B, which closes the row: its end is the next one's start
    ∷ case (next_shown (read_b some_read (one_and_half ++ (0x77 ∷ []))))
    ((7 ∷ 0 ∷ []) ∷ (0 ∷ 2 ∷ 2 ∷ []) ∷ (1 ∷ 3 ∷ []) ∷ (4 ∷ 5 ∷ []) ∷ (6 ∷ 0x3FF8000000000000 ∷ []) ∷ (8 ∷ []) ∷ (0x77 ∷ []) ∷ [])
    -- P
    ∷ case (next_shown (read_p some_read (0x09 ∷ 0x00 ∷ 0x77 ∷ []))) ((7 ∷ 0 ∷ []) ∷ (0 ∷ 2 ∷ []) ∷ (1 ∷ 3 ∷ []) ∷ (4 ∷ 5 ∷ []) ∷ (6 ∷ []) ∷ (8 ∷ 9 ∷ []) ∷ (0x77 ∷ []) ∷ [])
    -- Z, with nothing behind it
    ∷ case (next_shown (read_z some_read []) ++ next_shown (read_z some_read (0x77 ∷ []))) ((0 ∷ []) ∷ (17 ∷ []) ∷ [])
    -- before the first byte nothing is read, and row 1 starts at 0
    ∷ case (reading_shown nothing_read []) ((0 ∷ 0 ∷ []) ∷ (0 ∷ []) ∷ [] ∷ [] ∷ [] ∷ [] ∷ [] ∷ [])
    ∷ []
