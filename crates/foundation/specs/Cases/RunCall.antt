-- The run's call: 10 to 14, its answer, and its stores afterwards.
use Rattle.std.specs.Prelude.{List, [], ◌∷◌, ◌++◌, map, ℕ, replicate}
use Rattle.foundation.specs.Answer.{Answer}
use Rattle.foundation.specs.Pattern.{Lent, lent_square}
use Rattle.foundation.specs.Reference.{Choice, largest, listed, Extent, whole, cut}
use Rattle.foundation.specs.PlanCall.{LentPlan}
use Rattle.foundation.specs.RunCall.{Lending, Ran, ran, run_answer, run_leaves, legal, rows_in_range, choice_fits, extent_fits, value_at, right_at}
use Rattle.foundation.specs.Table.{Case, case, told}
use Rattle.foundation.specs.Cases.Show.{flag, flags, floats, pattern, patterns, refusal_number, row, tall}
use Rattle.foundation.specs.Cases.PlanCall.{work}
use Rattle.foundation.specs.Cases.LentPlan.{counts_from, side}

-- rows {1,3}, {2,3}, {1,3}; its plan: one slot in L, two in U
abbrev pub three_fields : Lent
three_fields = lent_square 3 (0 ∷ 2 ∷ 4 ∷ 6 ∷ []) (1 ∷ 3 ∷ 2 ∷ 3 ∷ 1 ∷ 3 ∷ [])

abbrev pub plan_with : List ℕ → LentPlan
plan_with counts =
    record {
      counts = counts_from counts;
      stores =
          record {
            lower_side = side (3 ∷ []) (0 ∷ 1 ∷ 1 ∷ []) (0 ∷ 1 ∷ 1 ∷ 1 ∷ []);
            upper_side = side (3 ∷ []) (0 ∷ 0 ∷ 1 ∷ []) (0 ∷ 1 ∷ 2 ∷ 2 ∷ []);
          };
    }

abbrev pub three_plan : LentPlan
three_plan = plan_with (3 ∷ 3 ∷ 6 ∷ 1 ∷ 1 ∷ 1 ∷ 2 ∷ 16 ∷ [])

-- values (2,1), (1,1), (4,4); right side 3, 2, 8
abbrev pub values : List ℕ
values = 0x4000000000000000 ∷ 0x3FF0000000000000 ∷ 0x3FF0000000000000 ∷ 0x3FF0000000000000 ∷ 0x4010000000000000 ∷ 0x4010000000000000 ∷ []

abbrev pub right : List ℕ
right = 0x4008000000000000 ∷ 0x4000000000000000 ∷ 0x4020000000000000 ∷ []

-- values and right side, and the lengths of solution, pivot rows, diagonal, L slots and U slots
abbrev pub lend : List ℕ → List ℕ → ℕ → ℕ → ℕ → ℕ → ℕ → Lending
lend values right solution pivots diagonal lower_slots upper_slots =
    record {
      values = floats values;
      right = floats right;
      solution = solution;
      pivots = pivots;
      diagonal = diagonal;
      lower_slots = lower_slots;
      upper_slots = upper_slots;
    }

-- more slots than are planned, everything else as it must be
abbrev pub fits : Lending
fits = lend values right 3 3 3 2 4

-- values (1,0), (1,0), (0,x), x being the negative of the largest number below the least pivot
abbrev pub faint_at_three : Lending
faint_at_three = lend (0x3FF0000000000000 ∷ 0 ∷ 0x3FF0000000000000 ∷ 0 ∷ 0 ∷ 0x800FFFFFFFFFFFFF ∷ []) right 3 3 3 2 4

abbrev pub run : Choice → Extent → Lending → Answer Ran
run choice extent w = ran 1024 three_fields three_plan (work (3 ∷ []) (4 ∷ []) (6 ∷ [])) choice extent w

abbrev pub refused_by : Choice → Extent → Lending → ℕ
refused_by choice extent w = refusal_number (run choice extent w)

-- the answer
abbrev pub says : Answer Ran → List (List ℕ)
says answer = told (λ updates. (updates ∷ []) ∷ []) (run_answer answer)

-- the five stores afterwards: L slots, U slots, diagonal, solution, pivot rows
abbrev pub leaves : Lending → Answer Ran → List (List ℕ)
leaves w answer =
    let r = run_leaves three_fields w answer in
    patterns r.lower_slots ∷ patterns r.upper_slots ∷ patterns r.diagonal ∷ patterns r.solution ∷ r.pivots ∷ []

unfoldable pub run_cases : List Case
run_cases =
    -- "finished with its updates"; "each slot has its place's bits", "the solution store has (..) (whole: the solution)", "pivot rows are p_k"; stores "longer than needed are zero beyond"
    case (says (run largest whole fits)) ((1 ∷ []) ∷ (1 ∷ []) ∷ [])
    ∷ case (leaves fits (run largest whole fits))
    ((0x3FE0000000000000 ∷ 0x0000000000000000 ∷ [])
    ∷ (0x4010000000000000 ∷ 0x3FF0000000000000 ∷ 0x0000000000000000 ∷ 0x0000000000000000 ∷ [])
    ∷ (0x4010000000000000 ∷ 0x3FF0000000000000 ∷ 0xBFF0000000000000 ∷ [])
    ∷ (0x3FF0000000000000 ∷ 0x3FF0000000000000 ∷ 0x3FF0000000000000 ∷ [])
    ∷ (3 ∷ 2 ∷ 3 ∷ [])
    ∷ [])
    -- cut to 1 step: "the solution store has the right side", "pivot rows are p_k up to the last step done and 0 after it"
    ∷ case (leaves fits (run largest (cut 1) fits))
    ((0x3FE0000000000000 ∷ 0x0000000000000000 ∷ [])
    ∷ (0x4010000000000000 ∷ 0x3FF0000000000000 ∷ 0x0000000000000000 ∷ 0x0000000000000000 ∷ [])
    ∷ (0x4010000000000000 ∷ 0x3FF0000000000000 ∷ 0xBFF0000000000000 ∷ [])
    ∷ (0x4020000000000000 ∷ 0x4000000000000000 ∷ 0xBFF0000000000000 ∷ [])
    ∷ (3 ∷ 0 ∷ 0 ∷ [])
    ∷ [])
    -- by the list 1, 2, 3, cut to all its steps: "without back substitution"
    ∷ case (leaves fits (run (listed (1 ∷ 2 ∷ 3 ∷ [])) (cut 3) fits))
    ((0x4000000000000000 ∷ 0x0000000000000000 ∷ [])
    ∷ (0x3FF0000000000000 ∷ 0x3FF0000000000000 ∷ 0x0000000000000000 ∷ 0x0000000000000000 ∷ [])
    ∷ (0x4000000000000000 ∷ 0x3FF0000000000000 ∷ 0x4000000000000000 ∷ [])
    ∷ (0x4008000000000000 ∷ 0x4000000000000000 ∷ 0x4000000000000000 ∷ [])
    ∷ (1 ∷ 2 ∷ 3 ∷ [])
    ∷ [])
    -- "or stopped with its number and step": the list 3, 3, 3 has a zero at step 2; "Result stores are then zero throughout"
    ∷ case (says (run (listed (3 ∷ 3 ∷ 3 ∷ [])) whole fits)) ((0 ∷ 13 ∷ 2 ∷ []) ∷ [])
    ∷ case (leaves fits (run (listed (3 ∷ 3 ∷ 3 ∷ [])) whole fits))
    (replicate 2 0 ∷ replicate 4 0 ∷ replicate 3 0 ∷ replicate 3 0 ∷ replicate 3 0 ∷ [])
    -- Ticket 14: "13 is given where none is left": row 3 just below the limit at step 3
    ∷ case (says (run largest whole faint_at_three)) ((0 ∷ 13 ∷ 3 ∷ []) ∷ [])
    ∷ case (leaves faint_at_three (run largest whole faint_at_three)) (replicate 2 0 ∷ replicate 4 0 ∷ replicate 3 0 ∷ replicate 3 0 ∷ replicate 3 0 ∷ [])
    -- a refusal leaves stores of whatever length zero: 10 by stores of five lengths
    ∷ case (leaves (lend values right 1 2 4 5 6) (run largest whole (lend values right 1 2 4 5 6)))
    (replicate 5 0 ∷ replicate 6 0 ∷ replicate 4 0 ∷ replicate 1 0 ∷ replicate 2 0 ∷ [])
    -- 14, with its step: the largest number over 0.5, right side 0
    ∷ case
    (says (run (listed (1 ∷ 2 ∷ 3 ∷ [])) whole (lend (0x3FE0000000000000 ∷ 0 ∷ 0x3FF0000000000000 ∷ 0 ∷ 0x7FEFFFFFFFFFFFFF ∷ 0 ∷ []) (0 ∷ 0 ∷ 0 ∷ []) 3 3 3 1 2)))
    ((0 ∷ 14 ∷ 1 ∷ []) ∷ [])
    -- 10: "values are not as many as entries", fewer, more; "right side", fewer, more
    ∷ row
    (refused_by largest whole (lend (replicate 5 0x3FF0000000000000) right 3 3 3 1 2)
    ∷ refused_by largest whole (lend (replicate 7 0x3FF0000000000000) right 3 3 3 1 2)
    ∷ refused_by largest whole (lend values (replicate 2 0) 3 3 3 1 2)
    ∷ refused_by largest whole (lend values (replicate 4 0) 3 3 3 1 2)
    ∷ [])
    (10 ∷ 10 ∷ 10 ∷ 10 ∷ [])
    -- "solution, pivot rows or diagonal not n"
    ∷ row
    (refused_by largest whole (lend values right 2 3 3 1 2)
    ∷ refused_by largest whole (lend values right 4 3 3 1 2)
    ∷ refused_by largest whole (lend values right 3 2 3 1 2)
    ∷ refused_by largest whole (lend values right 3 4 3 1 2)
    ∷ refused_by largest whole (lend values right 3 3 2 1 2)
    ∷ refused_by largest whole (lend values right 3 3 4 1 2)
    ∷ [])
    (10 ∷ 10 ∷ 10 ∷ 10 ∷ 10 ∷ 10 ∷ [])
    -- "or slots fewer than planned": as many as planned, one fewer in L, one fewer in U
    ∷ row
    (refused_by largest whole (lend values right 3 3 3 1 2)
    ∷ refused_by largest whole (lend values right 3 3 3 0 2)
    ∷ refused_by largest whole (lend values right 3 3 3 1 1)
    ∷ [])
    (0 ∷ 10 ∷ 10 ∷ [])
    -- 11: "a value or right side is not finite": the first value not a number, the last an infinity; the first right side, the last
    ∷ row
    (refused_by largest whole (lend (0x7FF8000000000000 ∷ replicate 5 0x3FF0000000000000) right 3 3 3 1 2)
    ∷ refused_by largest whole (lend (replicate 5 0x3FF0000000000000 ++ (0x7FF0000000000000 ∷ [])) right 3 3 3 1 2)
    ∷ refused_by largest whole (lend values (0xFFF0000000000000 ∷ 0 ∷ 0 ∷ []) 3 3 3 1 2)
    ∷ refused_by largest whole (lend values (0 ∷ 0 ∷ 0x7FF8000000000000 ∷ []) 3 3 3 1 2)
    ∷ [])
    (11 ∷ 11 ∷ 11 ∷ 11 ∷ [])
    -- 12: "the row list is not n long": shorter, longer; "p_k is below k or above n"; the least and the largest rows that may be named
    ∷ row
    (map (λ rows. refused_by (listed rows) (cut 0) fits)
    ((1 ∷ 2 ∷ []) ∷ (1 ∷ 2 ∷ 3 ∷ 3 ∷ []) ∷ (0 ∷ 2 ∷ 3 ∷ []) ∷ (1 ∷ 1 ∷ 3 ∷ []) ∷ (1 ∷ 2 ∷ 2 ∷ []) ∷ (4 ∷ 2 ∷ 3 ∷ []) ∷ (1 ∷ 2 ∷ 4 ∷ []) ∷ (1 ∷ 2 ∷ 3 ∷ []) ∷ (3 ∷ 3 ∷ 3 ∷ []) ∷ []))
    (12 ∷ 12 ∷ 12 ∷ 12 ∷ 12 ∷ 12 ∷ 12 ∷ 0 ∷ 0 ∷ [])
    -- "or s is above n": of a list, and of the largest entry
    ∷ row
    (refused_by (listed (1 ∷ 2 ∷ 3 ∷ [])) (cut 3) fits
    ∷ refused_by (listed (1 ∷ 2 ∷ 3 ∷ [])) (cut 4) fits
    ∷ refused_by largest (cut 3) fits
    ∷ refused_by largest (cut 4) fits
    ∷ [])
    (0 ∷ 12 ∷ 0 ∷ 12 ∷ [])
    -- "Order is that of the table": 5 before 9, 6 before 9, 9 before 10, 10 before 11, 11 before 12, 12 before 13
    ∷ row
    (refusal_number (ran 1024 (lent_square 3 (0 ∷ 1 ∷ 2 ∷ 3 ∷ []) (1 ∷ 2 ∷ 1 ∷ [])) (plan_with []) (work [] [] []) largest whole (lend [] [] 0 0 0 0 0))
    ∷ refusal_number (ran 1024 three_fields (plan_with []) (work (4 ∷ []) [] []) largest whole (lend [] [] 0 0 0 0 0))
    ∷ refusal_number (ran 1024 three_fields (plan_with []) (work [] [] []) largest whole (lend [] [] 0 0 0 0 0))
    ∷ refused_by largest whole (lend (0x7FF8000000000000 ∷ []) right 3 3 3 1 2)
    ∷ refused_by (listed []) (cut 9) (lend (replicate 6 0x7FF8000000000000) right 3 3 3 1 2)
    ∷ refused_by (listed (2 ∷ 2 ∷ 4 ∷ [])) whole fits
    ∷ refused_by (listed (2 ∷ 2 ∷ 3 ∷ [])) whole fits
    ∷ [])
    (5 ∷ 6 ∷ 9 ∷ 10 ∷ 11 ∷ 12 ∷ 13 ∷ [])
    -- a caller's largest n
    ∷ row (map (λ most. refusal_number (ran most three_fields three_plan (work [] [] []) largest whole fits)) (2 ∷ 3 ∷ [])) (1 ∷ 0 ∷ [])
    -- "0 outside steps 7, 8, 13 and 14"
    ∷ case (says (run largest whole (lend values right 3 3 3 0 2))) ((0 ∷ 10 ∷ 0 ∷ []) ∷ [])
    ∷ case (says (run largest whole (lend (replicate 6 0x7FF8000000000000) right 3 3 3 1 2))) ((0 ∷ 11 ∷ 0 ∷ []) ∷ [])
    ∷ case (says (run largest (cut 4) fits)) ((0 ∷ 12 ∷ 0 ∷ []) ∷ [])
    ∷ []

unfoldable pub order_cases : List Case
order_cases =
    -- "A list that 12 lets pass is legal unless the reference with it stops with 13": 13 at the last step is not, 14 is; nor a list of 12, though the reference could go by it
    row
    (flags
    (map (legal three_fields fits) ((1 ∷ 2 ∷ 3 ∷ []) ∷ (3 ∷ 2 ∷ 3 ∷ []) ∷ (2 ∷ 2 ∷ 3 ∷ []) ∷ (3 ∷ 3 ∷ 3 ∷ []) ∷ (1 ∷ 2 ∷ []) ∷ (1 ∷ 2 ∷ 4 ∷ []) ∷ (1 ∷ 2 ∷ 1 ∷ []) ∷ [])))
    (1 ∷ 1 ∷ 0 ∷ 0 ∷ 0 ∷ 0 ∷ 0 ∷ [])
    ∷ row (flag (legal three_fields (lend (replicate 6 0x3FF0000000000000) right 3 3 3 1 2) (1 ∷ 2 ∷ 3 ∷ [])) ∷ []) (0 ∷ [])
    ∷ row
    (flag (legal three_fields (lend (0x3FE0000000000000 ∷ 0 ∷ 0x3FF0000000000000 ∷ 0 ∷ 0x7FEFFFFFFFFFFFFF ∷ 0x3FF0000000000000 ∷ []) right 3 3 3 1 2) (1 ∷ 2 ∷ 3 ∷ [])) ∷ [])
    (1 ∷ [])
    -- Ticket 14: "Legal row lists are those whose pivots meet this limit": row 1 just below it at step 1, and row 3 with 1 for it; row 1 at the limit; row 3 just below it
    -- and at it at step 3
    ∷ row (flags (map (legal three_fields (lend (0x000FFFFFFFFFFFFF ∷ replicate 5 0x3FF0000000000000) right 3 3 3 1 2)) ((1 ∷ 2 ∷ 3 ∷ []) ∷ (3 ∷ 2 ∷ 3 ∷ []) ∷ []))) (0 ∷ 1 ∷ [])
    ∷ row (flag (legal three_fields (lend (0x0010000000000000 ∷ replicate 5 0x3FF0000000000000) right 3 3 3 1 2) (1 ∷ 2 ∷ 3 ∷ [])) ∷ []) (1 ∷ [])
    ∷ row (flag (legal three_fields faint_at_three (1 ∷ 2 ∷ 3 ∷ [])) ∷ []) (0 ∷ [])
    ∷ row (flag (legal three_fields (lend (0x3FF0000000000000 ∷ 0 ∷ 0x3FF0000000000000 ∷ 0 ∷ 0 ∷ 0x8010000000000000 ∷ []) right 3 3 3 1 2) (1 ∷ 2 ∷ 3 ∷ [])) ∷ []) (1 ∷ [])
    -- "p_k is below k or above n": rows go to the last, of which there may be more than steps; the list is as long as there are steps
    ∷ row (flags (rows_in_range 3 2 (2 ∷ 3 ∷ []) ∷ rows_in_range 3 2 (3 ∷ 2 ∷ []) ∷ rows_in_range 3 2 (2 ∷ 4 ∷ []) ∷ rows_in_range 3 2 [] ∷ [])) (1 ∷ 0 ∷ 0 ∷ 1 ∷ [])
    ∷ row
    (flags (choice_fits tall largest ∷ choice_fits tall (listed (3 ∷ 3 ∷ [])) ∷ choice_fits tall (listed (4 ∷ 3 ∷ [])) ∷ choice_fits tall (listed (3 ∷ 3 ∷ 3 ∷ [])) ∷ []))
    (1 ∷ 1 ∷ 0 ∷ 0 ∷ [])
    ∷ row (flags (extent_fits tall whole ∷ extent_fits tall (cut 0) ∷ extent_fits tall (cut 2) ∷ extent_fits tall (cut 3) ∷ [])) (1 ∷ 1 ∷ 1 ∷ 0 ∷ [])
    -- values lie as the columns do, row after row; rows count from 1
    ∷ row (map (λ j. pattern (value_at three_fields (floats values) 1 j)) (1 ∷ 3 ∷ [])) (0x4000000000000000 ∷ 0x3FF0000000000000 ∷ [])
    ∷ row (map (λ j. pattern (value_at three_fields (floats values) 3 j)) (1 ∷ 3 ∷ [])) (0x4010000000000000 ∷ 0x4010000000000000 ∷ [])
    ∷ row (map (λ j. pattern (value_at three_fields (floats (1 ∷ 2 ∷ 3 ∷ 4 ∷ 5 ∷ 6 ∷ [])) 2 j)) (2 ∷ 3 ∷ [])) (3 ∷ 4 ∷ [])
    ∷ row (map (λ j. pattern (value_at three_fields (floats values) 0 j)) (1 ∷ 3 ∷ [])) (0 ∷ 0 ∷ [])
    ∷ row (map (λ i. pattern (right_at (floats right) i)) (0 ∷ 1 ∷ 2 ∷ 3 ∷ 4 ∷ [])) (0 ∷ 0x4008000000000000 ∷ 0x4000000000000000 ∷ 0x4020000000000000 ∷ 0 ∷ [])
    ∷ []
