-- What the job program prints, and what it lends.
use Rattle.std.specs.Prelude.{List, [], ◌∷◌, ◌++◌, map, ℕ, length, replicate}
use Rattle.foundation.specs.Answer.{refused}
use Rattle.foundation.specs.Pattern.{lent_square}
use Rattle.foundation.specs.Reference.{largest, Going}
use Rattle.foundation.specs.RunCall.{Lending}
use Rattle.foundation.specs.Text.{ascii}
use Rattle.foundation.specs.Job.{Job}
use Rattle.foundation.specs.Printing.{job_room, fitting_work, blank_stores, job_lending, job_stores, job_run, digits, decimal, hex_digit, hex_bits, plan_line, rows_line, solution_line, updates_line, refused_line, job_text, printed}
use Rattle.foundation.specs.Table.{Case, case, told}
use Rattle.foundation.specs.Marked.{bytes, show_pivots}
use Rattle.foundation.specs.Cases.Show.{floats, float, patterns, row}
use Rattle.foundation.specs.Cases.PlanCall.{stores_shown}
use Rattle.foundation.specs.Cases.LentPlan.{counts_from}

-- `E`, column, bits; `B`, bits; `P`, row
abbrev pub entry : ℕ → ℕ → List ℕ
entry column bits = 0x45 ∷ (bytes 2 column ++ bytes 8 bits)

abbrev pub close : ℕ → List ℕ
close bits = 0x42 ∷ bytes 8 bits

abbrev pub picks : List ℕ → List ℕ
picks [] = []
picks (p ∷ ps) = (0x50 ∷ bytes 2 p) ++ picks ps

-- a job of one row; of one field, its value and right side; of two fields with every place, and its P's
abbrev pub job_of_row : List ℕ → List ℕ
job_of_row row = (0x4E ∷ 1 ∷ 0 ∷ 0x52 ∷ 1 ∷ 0 ∷ []) ++ row ++ close 0x3FF0000000000000 ++ (0x5A ∷ [])

abbrev pub one_field : ℕ → ℕ → List ℕ
one_field value right = (0x4E ∷ 1 ∷ 0 ∷ 0x52 ∷ 1 ∷ 0 ∷ []) ++ entry 1 value ++ close right ++ (0x5A ∷ [])

abbrev pub two_fields : ℕ → ℕ → ℕ → ℕ → ℕ → ℕ → List ℕ → List ℕ
two_fields a b right c d right' rows =
    (0x4E ∷ 2 ∷ 0 ∷ 0x52 ∷ 1 ∷ 0 ∷ [])
    ++ entry 1 a ++ entry 2 b ++ close right
    ++ (0x52 ∷ 2 ∷ 0 ∷ [])
    ++ entry 1 c ++ entry 2 d ++ close right'
    ++ picks rows
    ++ (0x5A ∷ [])

-- a job of n fields and nothing else in order
abbrev pub empty_job : ℕ → Job
empty_job n = record { pattern = lent_square n [] []; values = floats (1 ∷ []); right = floats (2 ∷ 3 ∷ []); choice = largest }

-- a run that ended with a right side of 1/3 in every row
abbrev pub thirds : Going
thirds = record { square = λ i j. float 0; right = λ i. float 0x3FD5555555555555; pivots = []; updates = 0 }

-- the lengths that a job lends: values, right side, solution, pivot rows, diagonal, L slots, U slots
abbrev pub lengths_shown : Lending → List ℕ
lengths_shown w = length w.values ∷ length w.right ∷ w.solution ∷ w.pivots ∷ w.diagonal ∷ w.lower_slots ∷ w.upper_slots ∷ []

unfoldable pub print_cases : List Case
print_cases =
    -- a number in decimal digits
    row (decimal 0) (ascii "0")
    ∷ row (decimal 9 ++ decimal 10 ++ decimal 105 ++ decimal 4294967295) (ascii "9101054294967295")
    -- as many turns as there are digits are enough, and none writes none
    ∷ row (digits 3 105 (7 ∷ [])) (0x31 ∷ 0x30 ∷ 0x35 ∷ 7 ∷ [])
    ∷ row (digits 0 105 (7 ∷ [])) (7 ∷ [])
    -- "bits in hexadecimal": digits 0 to 9 and A to F, 16 of them
    ∷ row (map hex_digit (0 ∷ 1 ∷ 8 ∷ 9 ∷ 10 ∷ 11 ∷ 14 ∷ 15 ∷ [])) (0x30 ∷ 0x31 ∷ 0x38 ∷ 0x39 ∷ 0x41 ∷ 0x42 ∷ 0x45 ∷ 0x46 ∷ [])
    ∷ row (hex_bits 0x0123456789ABCDEF) (ascii "0123456789ABCDEF")
    ∷ row (hex_bits 0) (ascii "0000000000000000")
    -- "Plan: n, entries, L and U subscripts, L and U slots, reads."
    ∷ row (plan_line (counts_from (1 ∷ 9 ∷ 2 ∷ 3 ∷ 4 ∷ 5 ∷ 6 ∷ 7 ∷ []))) (ascii "plan 1 2 3 4 5 6 7\n")
    -- "Rows: pivot row of each step."
    ∷ row (rows_line (3 ∷ 4 ∷ 12 ∷ [])) (ascii "rows 3 4 12\n")
    -- "x: row, bits in hexadecimal."
    ∷ row (solution_line thirds 12) (ascii "x 12 3FD5555555555555\n")
    -- "Updates: the count."
    ∷ row (updates_line 17) (ascii "updates 17\n")
    -- "A refusal prints only `refused`, number, step."
    ∷ row (refused_line 14 3) (ascii "refused 14 3\n")
    ∷ row (job_text (refused 14 3)) (ascii "refused 14 3\n")
    -- 1, 15, 16, 17 of a job's bytes; 18 of 16,385 of them
    ∷ row (printed (0x4E ∷ 0 ∷ 0 ∷ [])) (ascii "refused 1 0\n")
    ∷ row (printed (0x00 ∷ [])) (ascii "refused 15 0\n")
    ∷ row (printed []) (ascii "refused 16 0\n")
    ∷ row (printed (one_field 0x3FF0000000000000 0x3FF0000000000000 ++ (0x5A ∷ []))) (ascii "refused 17 0\n")
    ∷ row (printed (replicate 16385 0x4E)) (ascii "refused 18 0\n")
    -- "then as the rest": 3, 4, 5
    ∷ row (printed (job_of_row (entry 2 0x3FF0000000000000))) (ascii "refused 3 0\n")
    ∷ row (printed (job_of_row (entry 1 0x3FF0000000000000 ++ entry 1 0x3FF0000000000000))) (ascii "refused 4 0\n")
    ∷ row (printed (job_of_row [])) (ascii "refused 5 0\n")
    -- 11 of a value, of a right side; 12 of P's rows
    ∷ row (printed (one_field 0x7FF0000000000000 0x3FF0000000000000)) (ascii "refused 11 0\n")
    ∷ row (printed (one_field 0x3FF0000000000000 0x7FF8000000000000)) (ascii "refused 11 0\n")
    ∷ row (printed (two_fields 0x3FF0000000000000 0x3FF0000000000000 0x3FF0000000000000 0x3FF0000000000000 0x4000000000000000 0x3FF0000000000000 (2 ∷ 1 ∷ [])))
    (ascii "refused 12 0\n")
    -- 13 with its step; 14 with its step, and in back substitution with its row
    ∷ row (printed (one_field 0x8000000000000000 0x3FF0000000000000)) (ascii "refused 13 1\n")
    ∷ row (printed (two_fields 0x3FF0000000000000 0x3FF0000000000000 0x3FF0000000000000 0x3FF0000000000000 0x3FF0000000000000 0x3FF0000000000000 []))
    (ascii "refused 13 2\n")
    ∷ row (printed (two_fields 0x3FE0000000000000 0x3FF0000000000000 0x3FF0000000000000 0x7FEFFFFFFFFFFFFF 0x3FF0000000000000 0x3FF0000000000000 (1 ∷ 2 ∷ [])))
    (ascii "refused 14 1\n")
    ∷ row (printed (one_field 0x3FE0000000000000 0x7FEFFFFFFFFFFFFF)) (ascii "refused 14 1\n")
    -- 1 over -10
    ∷ row (printed (one_field 0xC024000000000000 0x3FF0000000000000)) (ascii "plan 1 1 0 0 0 0 2\nrows 1\nx 1 BFB999999999999A\nupdates 0\n")
    -- rows (1,3) and (10,1), right side 1, 2: by the largest entry, and by the list 1, 2, whose x 1 differs in its last digit
    ∷ row (printed (two_fields 0x3FF0000000000000 0x4008000000000000 0x3FF0000000000000 0x4024000000000000 0x3FF0000000000000 0x4000000000000000 []))
    (ascii "plan 2 4 1 1 1 1 12\nrows 2 2\nx 1 3FC611A7B9611A7B\nx 2 3FD1A7B9611A7B96\nupdates 1\n")
    ∷ row (printed (two_fields 0x3FF0000000000000 0x4008000000000000 0x3FF0000000000000 0x4024000000000000 0x3FF0000000000000 0x4000000000000000 (1 ∷ 2 ∷ [])))
    (ascii "plan 2 4 1 1 1 1 12\nrows 1 2\nx 1 3FC611A7B9611A7C\nx 2 3FD1A7B9611A7B96\nupdates 1\n")
    ∷ []

unfoldable pub job_run_cases : List Case
job_run_cases =
    -- "lends 2,048 subscripts and 2,048 slots a side": the slots, and five stores by the job's own sizes
    row (lengths_shown (job_lending (empty_job 5))) (1 ∷ 2 ∷ 5 ∷ 5 ∷ 5 ∷ 2048 ∷ 2048 ∷ [])
    ∷ case (patterns (job_lending (empty_job 5)).values ∷ patterns (job_lending (empty_job 5)).right ∷ []) ((1 ∷ []) ∷ (2 ∷ 3 ∷ []) ∷ [])
    ∷ row (job_room ∷ []) (2048 ∷ [])
    -- the subscripts, starts, and starts of slots of L, then of U
    ∷ row (map length (stores_shown (job_stores (empty_job 5)))) (2048 ∷ 5 ∷ 6 ∷ 2048 ∷ 5 ∷ 6 ∷ [])
    ∷ case (stores_shown (blank_stores 2 3 4)) ((0 ∷ 0 ∷ 0 ∷ []) ∷ (0 ∷ 0 ∷ []) ∷ (0 ∷ 0 ∷ 0 ∷ []) ∷ (0 ∷ 0 ∷ 0 ∷ 0 ∷ []) ∷ (0 ∷ 0 ∷ []) ∷ (0 ∷ 0 ∷ 0 ∷ []) ∷ [])
    -- work stores that fit whatever the pattern: none is lent
    ∷ case (fitting_work.of_height ∷ fitting_work.of_height_plus_one ∷ fitting_work.of_entries ∷ []) ([] ∷ [] ∷ [] ∷ [])
    -- "n at most 128": 128 fields, without row starts, are 2, and 129 are 1
    ∷ case (told show_pivots (job_run (empty_job 128)) ++ told show_pivots (job_run (empty_job 129))) ((0 ∷ 2 ∷ 0 ∷ []) ∷ (0 ∷ 1 ∷ 0 ∷ []) ∷ [])
    ∷ []
