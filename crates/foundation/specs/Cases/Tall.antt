-- More rows than columns (document 02, ticket 9): 25, the diagonals of rows above n, lists, lengths, 26 and 12, cut runs.
use Rattle.std.specs.Prelude.{List, [], ◌∷◌, ◌++◌, map, ℕ}
use Rattle.foundation.specs.Answer.{Answer}
use Rattle.foundation.specs.Pattern.{Lent, lent, pattern_of, pattern_fault}
use Rattle.foundation.specs.Plan.{lower, upper, list, plan}
use Rattle.foundation.specs.Reference.{Choice, largest, listed, Extent, whole, cut, Course, going, stopped, number_of, reference}
use Rattle.foundation.specs.PlanCall.{WorkSizes, LentPlan, planned, plan_answer, plan_leaves}
use Rattle.foundation.specs.RunCall.{Lending, Ran, value_at, right_at, ran, run_leaves}
use Rattle.foundation.specs.Slots.{has_slot}
use Rattle.foundation.specs.Table.{Case, case, told}
use Rattle.foundation.specs.Cases.Show.{flag, floats, patterns, places, refusal_number, row}
use Rattle.foundation.specs.Cases.PlanCall.{work, nines_in, stores, counts_shown, stores_shown}
use Rattle.foundation.specs.Cases.LentPlan.{counts_from, side}
use Rattle.foundation.specs.Cases.RunCall.{lend, says}
use Rattle.lists.specs.Sets.{upto}

-- all L, all U, the reads
abbrev pub tall_lists : Lent → List (List ℕ)
tall_lists p =
    map (list (plan (pattern_of p)) lower) (upto p.n) ++ (map (list (plan (pattern_of p)) upper) (upto p.n) ++ (((plan (pattern_of p)).reads ∷ []) ∷ []))

-- updates, pivot rows, the rectangle's rows and the right side, or the refusal
abbrev pub course_shown : Lent → Course → List (List ℕ)
course_shown p (going g) =
    (1 ∷ [])
    ∷ (g.updates ∷ [])
    ∷ g.pivots
    ∷ (map (λ i. patterns (map (g.square i) (upto p.n))) (upto p.height) ++ (patterns (map g.right (upto p.height)) ∷ []))
course_shown p (stopped reason k) = (0 ∷ number_of reason ∷ k ∷ []) ∷ []

abbrev pub tall_run : Lent → Choice → ℕ → List ℕ → List ℕ → List (List ℕ)
tall_run p choice s values right = course_shown p (reference choice (cut s) (pattern_of p) (value_at p (floats values)) (right_at (floats right)))

-- rows {1,2}, {2}, {1}, {} on two columns
abbrev pub four_on_two : Lent
four_on_two = lent 2 4 (0 ∷ 2 ∷ 3 ∷ 4 ∷ 4 ∷ []) (1 ∷ 2 ∷ 2 ∷ 1 ∷ [])

-- three rows on two columns, all places present
abbrev pub full_three : Lent
full_three = lent 2 3 (0 ∷ 2 ∷ 4 ∷ 6 ∷ []) (1 ∷ 2 ∷ 1 ∷ 2 ∷ 1 ∷ 2 ∷ [])

-- what is found wrong with two columns and so many rows, starts and columns
abbrev pub judged_as : ℕ → List ℕ → List ℕ → ℕ
judged_as rows starts columns = pattern_fault 1024 (lent 2 rows starts columns)

-- of `four_on_two`: the work stores' lengths, and its plan as it is lent, counts, L's stores, U's stores
abbrev pub fitting : WorkSizes
fitting = work (4 ∷ []) (5 ∷ []) (4 ∷ [])

abbrev pub tall_plan : List ℕ → LentPlan
tall_plan counts =
    record {
      counts = counts_from counts;
      stores = stores (side (3 ∷ []) (0 ∷ 0 ∷ []) (0 ∷ 1 ∷ 2 ∷ [])) (side (2 ∷ []) (0 ∷ 1 ∷ []) (0 ∷ 1 ∷ 1 ∷ []));
    }

abbrev pub tall_counts : List ℕ
tall_counts = 2 ∷ 4 ∷ 4 ∷ 1 ∷ 1 ∷ 2 ∷ 1 ∷ 12 ∷ []

-- values (3,1), (5), (6); right side 1, 2, 3, 4; solution of 4, pivot rows and diagonal of 2
abbrev pub tall_values : List ℕ
tall_values = 0x4008000000000000 ∷ 0x3FF0000000000000 ∷ 0x4014000000000000 ∷ 0x4018000000000000 ∷ []

abbrev pub tall_right : List ℕ
tall_right = 0x3FF0000000000000 ∷ 0x4000000000000000 ∷ 0x4008000000000000 ∷ 0x4010000000000000 ∷ []

abbrev pub tall_fits : Lending
tall_fits = lend tall_values tall_right 4 2 2 2 1

abbrev pub run : Choice → Extent → Lending → Answer Ran
run choice extent w = ran 1024 four_on_two (tall_plan tall_counts) fitting choice extent w

abbrev pub refused_by : Choice → Extent → Lending → ℕ
refused_by choice extent w = refusal_number (run choice extent w)

abbrev pub leaves : Lending → Answer Ran → List (List ℕ)
leaves w answer =
    let r = run_leaves four_on_two w answer in
    patterns r.lower_slots ∷ patterns r.upper_slots ∷ patterns r.diagonal ∷ patterns r.solution ∷ r.pivots ∷ []

unfoldable pub tall_cases : List Case
tall_cases =
    -- "Fewer rows than n, or above 2,048, is 25, after 1": 1 row and 2,049 are, 2 and 2,048 are not (but 2); 1 before 25, 25 before 2
    row (map (λ rows. judged_as rows [] []) (1 ∷ 2 ∷ 2048 ∷ 2049 ∷ [])) (25 ∷ 2 ∷ 2 ∷ 25 ∷ [])
    ∷ row (pattern_fault 1024 (lent 0 0 (0 ∷ []) []) ∷ pattern_fault 1024 (lent 1025 1024 [] []) ∷ pattern_fault 1 (lent 2 3000 [] []) ∷ []) (1 ∷ 1 ∷ 1 ∷ [])
    -- "Row starts (..) go by the row count": one fewer, one more; the last is that of the last row
    ∷ row
    (map (λ starts. judged_as 4 starts (1 ∷ 2 ∷ 2 ∷ 1 ∷ []))
    ((0 ∷ 2 ∷ 3 ∷ 4 ∷ 4 ∷ []) ∷ (0 ∷ 2 ∷ 4 ∷ []) ∷ (0 ∷ 2 ∷ 3 ∷ 4 ∷ []) ∷ (0 ∷ 2 ∷ 3 ∷ 4 ∷ 4 ∷ 4 ∷ []) ∷ (0 ∷ 2 ∷ 4 ∷ 4 ∷ 3 ∷ []) ∷ (0 ∷ 2 ∷ 3 ∷ 3 ∷ 3 ∷ []) ∷ []))
    (0 ∷ 2 ∷ 2 ∷ 2 ∷ 2 ∷ 2 ∷ [])
    -- "Rows above n need no diagonal and may be empty"; row n needs it; 3 and 4 in a row above n
    ∷ row
    (judged_as 3 (0 ∷ 1 ∷ 2 ∷ 2 ∷ []) (1 ∷ 2 ∷ [])
    ∷ judged_as 3 (0 ∷ 1 ∷ 2 ∷ 3 ∷ []) (1 ∷ 1 ∷ 2 ∷ [])
    ∷ judged_as 3 (0 ∷ 1 ∷ 2 ∷ 3 ∷ []) (1 ∷ 2 ∷ 3 ∷ [])
    ∷ judged_as 3 (0 ∷ 1 ∷ 2 ∷ 4 ∷ []) (1 ∷ 2 ∷ 2 ∷ 1 ∷ [])
    ∷ [])
    (0 ∷ 5 ∷ 3 ∷ 4 ∷ [])
    -- "document 01's steps stop at n": L, U, reads; "step k joins no S if U_k has no further member"
    ∷ case (tall_lists four_on_two) ((1 ∷ 3 ∷ []) ∷ (2 ∷ 3 ∷ []) ∷ (1 ∷ 2 ∷ []) ∷ (2 ∷ []) ∷ (12 ∷ []) ∷ [])
    ∷ case (map (plan (pattern_of four_on_two)).S (0 ∷ 1 ∷ 2 ∷ 3 ∷ [])) ([] ∷ [] ∷ (1 ∷ []) ∷ [] ∷ [])
    -- the rectangle's places that have a slot
    ∷ case (places (1 ∷ 2 ∷ 3 ∷ 4 ∷ []) (1 ∷ 2 ∷ []) (λ i j. flag (has_slot (plan (pattern_of four_on_two)) i j)))
    ((1 ∷ 1 ∷ []) ∷ (0 ∷ 1 ∷ []) ∷ (1 ∷ 1 ∷ []) ∷ (0 ∷ 0 ∷ []) ∷ [])
    -- "Let the plan record hold a row count": n, rows, entries, L and U subscripts, L and U slots, reads; the stores, with n starts and n+1 starts of slots
    ∷ case (told counts_shown (plan_answer four_on_two (planned 1024 four_on_two (stores (nines_in 1 2 3) (nines_in 2 2 3)) fitting))) ((1 ∷ []) ∷ tall_counts ∷ [])
    ∷ case (stores_shown (plan_leaves four_on_two (planned 1024 four_on_two (stores (nines_in 1 2 3) (nines_in 2 2 3)) fitting) (stores (nines_in 1 2 3) (nines_in 2 2 3))))
    ((3 ∷ []) ∷ (0 ∷ 0 ∷ []) ∷ (0 ∷ 1 ∷ 2 ∷ []) ∷ (2 ∷ 0 ∷ []) ∷ (0 ∷ 1 ∷ []) ∷ (0 ∷ 1 ∷ 1 ∷ []) ∷ [])
    -- 6: "work stores (..) go by the row count", n and n+1 are none of their lengths; starts stores are as before
    ∷ row
    (map (λ sizes. refusal_number (planned 1024 four_on_two (stores (nines_in 1 2 3) (nines_in 2 2 3)) sizes))
    (fitting
    ∷ work (2 ∷ []) [] []
    ∷ work (3 ∷ []) [] []
    ∷ work (5 ∷ []) [] []
    ∷ work [] (3 ∷ []) []
    ∷ work [] (4 ∷ []) []
    ∷ work [] (6 ∷ []) []
    ∷ work [] [] (5 ∷ [])
    ∷ []))
    (0 ∷ 6 ∷ 6 ∷ 6 ∷ 6 ∷ 6 ∷ 6 ∷ 6 ∷ [])
    ∷ row (refusal_number (planned 1024 four_on_two (stores (nines_in 1 4 5) (nines_in 2 4 5)) fitting) ∷ []) (6 ∷ [])
    -- "solving with more rows than n is 26, before 9", after 6; a cut to n is no solving
    ∷ row
    (refused_by largest whole tall_fits
    ∷ refused_by largest (cut 2) tall_fits
    ∷ refusal_number (ran 1024 four_on_two (tall_plan []) fitting largest whole (lend [] [] 0 0 0 0 0))
    ∷ refusal_number (ran 1024 four_on_two (tall_plan []) fitting largest (cut 2) (lend [] [] 0 0 0 0 0))
    ∷ refusal_number (ran 1024 four_on_two (tall_plan []) (work (2 ∷ []) [] []) largest whole (lend [] [] 0 0 0 0 0))
    ∷ refusal_number (ran 1024 (lent 2 1 [] []) (tall_plan []) fitting largest whole (lend [] [] 0 0 0 0 0))
    ∷ [])
    (26 ∷ 0 ∷ 26 ∷ 9 ∷ 6 ∷ 25 ∷ [])
    ∷ case (says (run largest whole tall_fits)) ((0 ∷ 26 ∷ 0 ∷ []) ∷ [])
    -- 9: a plan with another row count differs
    ∷ row (refusal_number (ran 1024 four_on_two (tall_plan (2 ∷ 3 ∷ 4 ∷ 1 ∷ 1 ∷ 2 ∷ 1 ∷ 12 ∷ [])) fitting largest (cut 2) tall_fits) ∷ []) (9 ∷ [])
    -- 10: "right side, solution store (..) go by the row count"; pivot rows and diagonal are n
    ∷ row
    (map (refused_by largest (cut 2))
    (lend tall_values (0 ∷ 0 ∷ []) 4 2 2 2 1
    ∷ lend tall_values (0 ∷ 0 ∷ 0 ∷ []) 4 2 2 2 1
    ∷ lend tall_values (0 ∷ tall_right) 4 2 2 2 1
    ∷ lend tall_values tall_right 2 2 2 2 1
    ∷ lend tall_values tall_right 3 2 2 2 1
    ∷ lend tall_values tall_right 5 2 2 2 1
    ∷ lend tall_values tall_right 4 4 2 2 1
    ∷ lend tall_values tall_right 4 2 4 2 1
    ∷ lend tall_values tall_right 4 2 2 1 1
    ∷ []))
    (10 ∷ 10 ∷ 10 ∷ 10 ∷ 10 ∷ 10 ∷ 10 ∷ 10 ∷ 10 ∷ [])
    -- "12 taking the row count as the upper bound of p_k and keeping n for the list's length and for s"
    ∷ row
    (map (λ rows. refused_by (listed rows) (cut 0) tall_fits) ((4 ∷ 4 ∷ []) ∷ (5 ∷ 2 ∷ []) ∷ (1 ∷ 5 ∷ []) ∷ (1 ∷ 1 ∷ []) ∷ (1 ∷ 2 ∷ 3 ∷ 4 ∷ []) ∷ (1 ∷ []) ∷ []))
    (0 ∷ 12 ∷ 12 ∷ 12 ∷ 12 ∷ 12 ∷ [])
    ∷ row (map (λ s. refused_by largest (cut s) tall_fits) (0 ∷ 2 ∷ 3 ∷ [])) (0 ∷ 0 ∷ 12 ∷ [])
    -- 13: the listed row 4 is empty
    ∷ case (says (run (listed (4 ∷ 2 ∷ [])) (cut 1) tall_fits)) ((0 ∷ 13 ∷ 1 ∷ []) ∷ [])
    -- "Listed interchanges (..) may reach every row (..) and stay within these slots": rows 3 and 3. L slots (3,1), (3,2); U slot (1,2); the diagonal; the right
    -- side in a solution store of 4; pivot rows
    ∷ case (says (run (listed (3 ∷ 3 ∷ [])) (cut 2) tall_fits)) ((1 ∷ []) ∷ (0 ∷ []) ∷ [])
    ∷ case (leaves tall_fits (run (listed (3 ∷ 3 ∷ [])) (cut 2) tall_fits))
    ((0x3FE0000000000000 ∷ 0x4014000000000000 ∷ [])
    ∷ (0 ∷ [])
    ∷ (0x4018000000000000 ∷ 0x3FF0000000000000 ∷ [])
    ∷ (0x4008000000000000 ∷ 0xBFE0000000000000 ∷ 0x4012000000000000 ∷ 0x4010000000000000 ∷ [])
    ∷ (3 ∷ 3 ∷ [])
    ∷ [])
    -- "pivot choice go by the row count": row 3 has the largest entry of column 1, row 2 then that of column 2; cut to one step, pivot rows are 0 behind it
    ∷ case (leaves tall_fits (run largest (cut 1) tall_fits))
    ((0x3FE0000000000000 ∷ 0x3FF0000000000000 ∷ [])
    ∷ (0 ∷ [])
    ∷ (0x4018000000000000 ∷ 0x4014000000000000 ∷ [])
    ∷ (0x4008000000000000 ∷ 0x4000000000000000 ∷ 0xBFE0000000000000 ∷ 0x4010000000000000 ∷ [])
    ∷ (3 ∷ 0 ∷ [])
    ∷ [])
    ∷ case (leaves tall_fits (run largest (cut 2) tall_fits))
    ((0x3FE0000000000000 ∷ 0x3FC999999999999A ∷ [])
    ∷ (0 ∷ [])
    ∷ (0x4018000000000000 ∷ 0x4014000000000000 ∷ [])
    ∷ (0x4008000000000000 ∷ 0x4000000000000000 ∷ 0xBFECCCCCCCCCCCCD ∷ 0x4010000000000000 ∷ [])
    ∷ (3 ∷ 2 ∷ [])
    ∷ [])
    -- (2, -0), (1, 1), (4, 3) with right side 1, -0, 2: row 3 is exchanged with row 1 and then with row 2; multipliers stay where they were written
    ∷ case
    (tall_run full_three largest 2
    (0x4000000000000000 ∷ 0x8000000000000000 ∷ 0x3FF0000000000000 ∷ 0x3FF0000000000000 ∷ 0x4010000000000000 ∷ 0x4008000000000000 ∷ [])
    (0x3FF0000000000000 ∷ 0x8000000000000000 ∷ 0x4000000000000000 ∷ []))
    ((1 ∷ [])
    ∷ (2 ∷ [])
    ∷ (3 ∷ 3 ∷ [])
    ∷ (0x4010000000000000 ∷ 0x4008000000000000 ∷ [])
    ∷ (0x3FD0000000000000 ∷ 0xBFF8000000000000 ∷ [])
    ∷ (0x3FE0000000000000 ∷ 0xBFC5555555555555 ∷ [])
    ∷ (0x4000000000000000 ∷ 0 ∷ 0xBFE0000000000000 ∷ [])
    ∷ [])
    -- the listed run of four rows on the whole rectangle
    ∷ case (tall_run four_on_two (listed (3 ∷ 3 ∷ [])) 2 tall_values tall_right)
    ((1 ∷ [])
    ∷ (0 ∷ [])
    ∷ (3 ∷ 3 ∷ [])
    ∷ (0x4018000000000000 ∷ 0 ∷ [])
    ∷ (0 ∷ 0x3FF0000000000000 ∷ [])
    ∷ (0x3FE0000000000000 ∷ 0x4014000000000000 ∷ [])
    ∷ (0 ∷ 0 ∷ [])
    ∷ (0x4008000000000000 ∷ 0xBFE0000000000000 ∷ 0x4012000000000000 ∷ 0x4010000000000000 ∷ [])
    ∷ [])
    ∷ []
