-- Planning after each of the report's parts 2.1 to 2.5 (document 02, ticket 4), and each part by itself.
use Rattle.std.specs.Prelude.{List, [], ◌∷◌, ◌++◌, map, cond, ℕ, ◌+◌, eqb, ltb}
use Rattle.lists.specs.Functions.{keep}
use Rattle.foundation.specs.Pattern.{Pattern, pattern_of}
use Rattle.foundation.specs.Plan.{Planning, lower, upper, reads_of_rows, reads_of_steps, InStep, so_far, initialized, rows_obtained, influenced, steps_collected, sets_updated, collected_if_influenced, after, after_initialization, after_rows, after_test, after_steps}
use Rattle.foundation.specs.Table.{Case, case}
use Rattle.foundation.specs.Cases.Show.{flags, row}
use Rattle.foundation.specs.Cases.Plan.{seven_fields}

-- the seven fields: rows {1,3,4,5,6}, {2,5}, {3,6}, {2,4,6}, {5,7}, {3,6}, {2,6,7}
abbrev pub seven : Pattern
seven = pattern_of seven_fields

-- the steps of seven fields, and those with a number before and after them
abbrev pub steps : List ℕ
steps = 1 ∷ 2 ∷ 3 ∷ 4 ∷ 5 ∷ 6 ∷ 7 ∷ []

abbrev pub around : List ℕ
around = 0 ∷ 1 ∷ 2 ∷ 3 ∷ 4 ∷ 5 ∷ 6 ∷ 7 ∷ 8 ∷ []

-- L_k and U_k so far, the met rows, the reads
abbrev pub inside_shown : InStep → List (List ℕ)
inside_shown t = so_far t lower ∷ so_far t upper ∷ keep t.known.met around ∷ (t.known.reads ∷ []) ∷ []

-- step k of the seven fields after 2.1, 2.2, 2.3 and 2.4
abbrev pub parts_shown : ℕ → List (List ℕ)
parts_shown k =
    inside_shown (after_initialization seven k) ++ inside_shown (after_rows seven k) ++ inside_shown (after_test seven k) ++ inside_shown (after_steps seven k)

-- the rows first met at each step, the sets S, the lists L, the lists U
abbrev pub known_shown : Planning → List (List ℕ)
known_shown s = map s.first_met steps ++ map s.S around ++ map s.L steps ++ map s.U steps

-- what is known of the seven fields after 2.2, 2.3 and 2.4 of step k, beside the same list of lists
abbrev pub same_inside : ℕ → List (List ℕ) → List Case
same_inside k expected = map (λ t. case (known_shown t.known) expected) (after_rows seven k ∷ after_test seven k ∷ after_steps seven k ∷ [])

-- No planning comes to this: rows up to 2 are met, S_6 is {5,3}, S_7 empty, each list of another size and each field of another kind, L_k and U_k are not empty.
abbrev pub any_known : Planning
any_known =
    record {
      met = λ i. ltb i 3;
      first_met = λ k. (10 + k) ∷ [];
      S = λ k. cond (eqb k 6) (5 ∷ 3 ∷ []) (cond (eqb k 7) [] ((20 + k) ∷ []));
      L = λ l. l ∷ (30 + l) ∷ 50 ∷ [];
      U = λ l. l ∷ (40 + l) ∷ [];
      reads = 100;
    }

abbrev pub any_step : List ℕ → List ℕ → InStep
any_step lk uk = record { known = any_known; Lk = lk; Uk = uk }

-- all that is known inside a step, at steps 5 to 9
abbrev pub all_shown : Planning → List (List ℕ)
all_shown s =
    keep s.met around
    ∷ (s.reads ∷ [])
    ∷ map s.first_met (5 ∷ 6 ∷ 7 ∷ [])
    ++ map s.S (5 ∷ 6 ∷ 7 ∷ 8 ∷ 9 ∷ [])
    ++ map s.L (5 ∷ 6 ∷ 7 ∷ [])
    ++ map s.U (5 ∷ 6 ∷ 7 ∷ [])

abbrev pub all_inside : InStep → List (List ℕ)
all_inside t = t.Lk ∷ t.Uk ∷ all_shown t.known

-- S, L and U of it as the parts before 2.5 leave them
abbrev pub as_before : List (List ℕ)
as_before =
    (25 ∷ []) ∷ (5 ∷ 3 ∷ []) ∷ [] ∷ (28 ∷ []) ∷ (29 ∷ [])
    ∷ (5 ∷ 35 ∷ 50 ∷ []) ∷ (6 ∷ 36 ∷ 50 ∷ []) ∷ (7 ∷ 37 ∷ 50 ∷ [])
    ∷ (5 ∷ 45 ∷ []) ∷ (6 ∷ 46 ∷ []) ∷ (7 ∷ 47 ∷ [])
    ∷ []

unfoldable pub plan_part_cases : List Case
plan_part_cases =
    -- 2.1: "Set L_k = ∅ and U_k = ∅"; 2.2: "For i ∈ C_k, if mask(i) = 0, then set L_k = L_k ∪ {i} and U_k = U_k ∪ R_i, and set mask(i) = 1"; S_1 is empty, 2.4 passed over. Step 1 meets row 1, and reads C_1 and R_1
    case (parts_shown 1)
    ([] ∷ [] ∷ [] ∷ (0 ∷ [])
    ∷ (1 ∷ []) ∷ (1 ∷ 3 ∷ 4 ∷ 5 ∷ 6 ∷ []) ∷ (1 ∷ []) ∷ (6 ∷ [])
    ∷ (1 ∷ []) ∷ (1 ∷ 3 ∷ 4 ∷ 5 ∷ 6 ∷ []) ∷ (1 ∷ []) ∷ (6 ∷ [])
    ∷ (1 ∷ []) ∷ (1 ∷ 3 ∷ 4 ∷ 5 ∷ 6 ∷ []) ∷ (1 ∷ []) ∷ (6 ∷ [])
    ∷ [])
    -- step 2 meets rows 2, 4 and 7, "U_k = U_k ∪ R_i" for each of them; S_2 is empty
    ∷ case (parts_shown 2)
    ([] ∷ [] ∷ (1 ∷ []) ∷ (6 ∷ [])
    ∷ (2 ∷ 4 ∷ 7 ∷ []) ∷ (2 ∷ 4 ∷ 5 ∷ 6 ∷ 7 ∷ []) ∷ (1 ∷ 2 ∷ 4 ∷ 7 ∷ []) ∷ (17 ∷ [])
    ∷ (2 ∷ 4 ∷ 7 ∷ []) ∷ (2 ∷ 4 ∷ 5 ∷ 6 ∷ 7 ∷ []) ∷ (1 ∷ 2 ∷ 4 ∷ 7 ∷ []) ∷ (17 ∷ [])
    ∷ (2 ∷ 4 ∷ 7 ∷ []) ∷ (2 ∷ 4 ∷ 5 ∷ 6 ∷ 7 ∷ []) ∷ (1 ∷ 2 ∷ 4 ∷ 7 ∷ []) ∷ (17 ∷ [])
    ∷ [])
    -- step 3 meets rows 3 and 6, not row 1, whose mask is 1; S_3 is empty
    ∷ case (parts_shown 3)
    ([] ∷ [] ∷ (1 ∷ 2 ∷ 4 ∷ 7 ∷ []) ∷ (17 ∷ [])
    ∷ (3 ∷ 6 ∷ []) ∷ (3 ∷ 6 ∷ []) ∷ (1 ∷ 2 ∷ 3 ∷ 4 ∷ 6 ∷ 7 ∷ []) ∷ (24 ∷ [])
    ∷ (3 ∷ 6 ∷ []) ∷ (3 ∷ 6 ∷ []) ∷ (1 ∷ 2 ∷ 3 ∷ 4 ∷ 6 ∷ 7 ∷ []) ∷ (24 ∷ [])
    ∷ (3 ∷ 6 ∷ []) ∷ (3 ∷ 6 ∷ []) ∷ (1 ∷ 2 ∷ 3 ∷ 4 ∷ 6 ∷ 7 ∷ []) ∷ (24 ∷ [])
    ∷ [])
    -- step 4 meets no row, since 1 and 4 are met; 2.4: "for i ∈ S_k, collect influence caused by step i", here step 2, without members below 4
    ∷ case (parts_shown 4)
    ([] ∷ [] ∷ (1 ∷ 2 ∷ 3 ∷ 4 ∷ 6 ∷ 7 ∷ []) ∷ (24 ∷ [])
    ∷ [] ∷ [] ∷ (1 ∷ 2 ∷ 3 ∷ 4 ∷ 6 ∷ 7 ∷ []) ∷ (26 ∷ [])
    ∷ [] ∷ [] ∷ (1 ∷ 2 ∷ 3 ∷ 4 ∷ 6 ∷ 7 ∷ []) ∷ (26 ∷ [])
    ∷ (4 ∷ 7 ∷ []) ∷ (4 ∷ 5 ∷ 6 ∷ 7 ∷ []) ∷ (1 ∷ 2 ∷ 3 ∷ 4 ∷ 6 ∷ 7 ∷ []) ∷ (34 ∷ [])
    ∷ [])
    -- step 5 meets row 5, and 2.4 adds the lists of step 4 to it
    ∷ case (parts_shown 5)
    ([] ∷ [] ∷ (1 ∷ 2 ∷ 3 ∷ 4 ∷ 6 ∷ 7 ∷ []) ∷ (34 ∷ [])
    ∷ (5 ∷ []) ∷ (5 ∷ 7 ∷ []) ∷ (1 ∷ 2 ∷ 3 ∷ 4 ∷ 5 ∷ 6 ∷ 7 ∷ []) ∷ (39 ∷ [])
    ∷ (5 ∷ []) ∷ (5 ∷ 7 ∷ []) ∷ (1 ∷ 2 ∷ 3 ∷ 4 ∷ 5 ∷ 6 ∷ 7 ∷ []) ∷ (39 ∷ [])
    ∷ (5 ∷ 7 ∷ []) ∷ (5 ∷ 6 ∷ 7 ∷ []) ∷ (1 ∷ 2 ∷ 3 ∷ 4 ∷ 5 ∷ 6 ∷ 7 ∷ []) ∷ (45 ∷ [])
    ∷ [])
    -- step 6 meets no row; S_6 has the steps 5 and 3, and both are collected
    ∷ case (parts_shown 6)
    ([] ∷ [] ∷ (1 ∷ 2 ∷ 3 ∷ 4 ∷ 5 ∷ 6 ∷ 7 ∷ []) ∷ (45 ∷ [])
    ∷ [] ∷ [] ∷ (1 ∷ 2 ∷ 3 ∷ 4 ∷ 5 ∷ 6 ∷ 7 ∷ []) ∷ (50 ∷ [])
    ∷ [] ∷ [] ∷ (1 ∷ 2 ∷ 3 ∷ 4 ∷ 5 ∷ 6 ∷ 7 ∷ []) ∷ (50 ∷ [])
    ∷ (6 ∷ 7 ∷ []) ∷ (6 ∷ 7 ∷ []) ∷ (1 ∷ 2 ∷ 3 ∷ 4 ∷ 5 ∷ 6 ∷ 7 ∷ []) ∷ (59 ∷ [])
    ∷ [])
    -- step 7 collects step 6
    ∷ case (parts_shown 7)
    ([] ∷ [] ∷ (1 ∷ 2 ∷ 3 ∷ 4 ∷ 5 ∷ 6 ∷ 7 ∷ []) ∷ (59 ∷ [])
    ∷ [] ∷ [] ∷ (1 ∷ 2 ∷ 3 ∷ 4 ∷ 5 ∷ 6 ∷ 7 ∷ []) ∷ (61 ∷ [])
    ∷ [] ∷ [] ∷ (1 ∷ 2 ∷ 3 ∷ 4 ∷ 5 ∷ 6 ∷ 7 ∷ []) ∷ (61 ∷ [])
    ∷ (7 ∷ []) ∷ (7 ∷ []) ∷ (1 ∷ 2 ∷ 3 ∷ 4 ∷ 5 ∷ 6 ∷ 7 ∷ []) ∷ (65 ∷ [])
    ∷ [])
    -- 2.3: "If S_k = ∅, then go to Step (2.5)": at steps 1 to 3
    ∷ row (flags (map (λ k. influenced k (after_test seven k)) steps)) (0 ∷ 0 ∷ 0 ∷ 1 ∷ 1 ∷ 1 ∷ 1 ∷ [])
    ∷ []

-- the rows first met, the sets and the lists of the steps done
unfoldable pub known_cases : List Case
known_cases =
    -- step 2: after 2.1 all is as after step 1
    case (known_shown (after_initialization seven 2).known)
    ((1 ∷ []) ∷ [] ∷ [] ∷ [] ∷ [] ∷ [] ∷ []
    ∷ [] ∷ [] ∷ [] ∷ [] ∷ [] ∷ [] ∷ [] ∷ [] ∷ []
    ∷ (1 ∷ []) ∷ [] ∷ [] ∷ [] ∷ [] ∷ [] ∷ []
    ∷ (1 ∷ 3 ∷ 4 ∷ 5 ∷ 6 ∷ []) ∷ [] ∷ [] ∷ [] ∷ [] ∷ [] ∷ []
    ∷ [])
    -- after 2.2 to 2.4 its rows are among those first met, sets and lists are as they were
    ∷ same_inside 2
    ((1 ∷ []) ∷ (2 ∷ 4 ∷ 7 ∷ []) ∷ [] ∷ [] ∷ [] ∷ [] ∷ []
    ∷ [] ∷ [] ∷ [] ∷ [] ∷ [] ∷ [] ∷ [] ∷ [] ∷ []
    ∷ (1 ∷ []) ∷ [] ∷ [] ∷ [] ∷ [] ∷ [] ∷ []
    ∷ (1 ∷ 3 ∷ 4 ∷ 5 ∷ 6 ∷ []) ∷ [] ∷ [] ∷ [] ∷ [] ∷ [] ∷ []
    ∷ [])
    -- after 2.5 "S_ρ = S_ρ ∪ {k}", ρ being 4, and its lists stand with that of step 1
    ++ case (known_shown (after seven 2))
    ((1 ∷ []) ∷ (2 ∷ 4 ∷ 7 ∷ []) ∷ [] ∷ [] ∷ [] ∷ [] ∷ []
    ∷ [] ∷ [] ∷ [] ∷ [] ∷ (2 ∷ []) ∷ [] ∷ [] ∷ [] ∷ []
    ∷ (1 ∷ []) ∷ (2 ∷ 4 ∷ 7 ∷ []) ∷ [] ∷ [] ∷ [] ∷ [] ∷ []
    ∷ (1 ∷ 3 ∷ 4 ∷ 5 ∷ 6 ∷ []) ∷ (2 ∷ 4 ∷ 5 ∷ 6 ∷ 7 ∷ []) ∷ [] ∷ [] ∷ [] ∷ [] ∷ []
    ∷ [])
    -- step 5 likewise: S_6, which has step 3, gets step 5
    ∷ case (known_shown (after_initialization seven 5).known)
    ((1 ∷ []) ∷ (2 ∷ 4 ∷ 7 ∷ []) ∷ (3 ∷ 6 ∷ []) ∷ [] ∷ [] ∷ [] ∷ []
    ∷ [] ∷ [] ∷ [] ∷ [] ∷ (2 ∷ []) ∷ (4 ∷ []) ∷ (3 ∷ []) ∷ [] ∷ []
    ∷ (1 ∷ []) ∷ (2 ∷ 4 ∷ 7 ∷ []) ∷ (3 ∷ 6 ∷ []) ∷ (4 ∷ 7 ∷ []) ∷ [] ∷ [] ∷ []
    ∷ (1 ∷ 3 ∷ 4 ∷ 5 ∷ 6 ∷ []) ∷ (2 ∷ 4 ∷ 5 ∷ 6 ∷ 7 ∷ []) ∷ (3 ∷ 6 ∷ []) ∷ (4 ∷ 5 ∷ 6 ∷ 7 ∷ []) ∷ [] ∷ [] ∷ []
    ∷ [])
    ∷ same_inside 5
    ((1 ∷ []) ∷ (2 ∷ 4 ∷ 7 ∷ []) ∷ (3 ∷ 6 ∷ []) ∷ [] ∷ (5 ∷ []) ∷ [] ∷ []
    ∷ [] ∷ [] ∷ [] ∷ [] ∷ (2 ∷ []) ∷ (4 ∷ []) ∷ (3 ∷ []) ∷ [] ∷ []
    ∷ (1 ∷ []) ∷ (2 ∷ 4 ∷ 7 ∷ []) ∷ (3 ∷ 6 ∷ []) ∷ (4 ∷ 7 ∷ []) ∷ [] ∷ [] ∷ []
    ∷ (1 ∷ 3 ∷ 4 ∷ 5 ∷ 6 ∷ []) ∷ (2 ∷ 4 ∷ 5 ∷ 6 ∷ 7 ∷ []) ∷ (3 ∷ 6 ∷ []) ∷ (4 ∷ 5 ∷ 6 ∷ 7 ∷ []) ∷ [] ∷ [] ∷ []
    ∷ [])
    ++ case (known_shown (after seven 5))
    ((1 ∷ []) ∷ (2 ∷ 4 ∷ 7 ∷ []) ∷ (3 ∷ 6 ∷ []) ∷ [] ∷ (5 ∷ []) ∷ [] ∷ []
    ∷ [] ∷ [] ∷ [] ∷ [] ∷ (2 ∷ []) ∷ (4 ∷ []) ∷ (5 ∷ 3 ∷ []) ∷ [] ∷ []
    ∷ (1 ∷ []) ∷ (2 ∷ 4 ∷ 7 ∷ []) ∷ (3 ∷ 6 ∷ []) ∷ (4 ∷ 7 ∷ []) ∷ (5 ∷ 7 ∷ []) ∷ [] ∷ []
    ∷ (1 ∷ 3 ∷ 4 ∷ 5 ∷ 6 ∷ []) ∷ (2 ∷ 4 ∷ 5 ∷ 6 ∷ 7 ∷ []) ∷ (3 ∷ 6 ∷ []) ∷ (4 ∷ 5 ∷ 6 ∷ 7 ∷ []) ∷ (5 ∷ 6 ∷ 7 ∷ []) ∷ [] ∷ []
    ∷ [])
    ∷ []

-- each part by itself, on what no planning comes to: nothing is left out because it happens to be empty or the same
unfoldable pub single_part_cases : List Case
single_part_cases =
    -- 2.1 empties L_k and U_k and changes nothing else
    case (all_inside (initialized any_known))
    ([] ∷ [] ∷ (0 ∷ 1 ∷ 2 ∷ []) ∷ (100 ∷ []) ∷ (15 ∷ []) ∷ (16 ∷ []) ∷ (17 ∷ []) ∷ as_before)
    -- 2.2 at step 6: C_6 is {1,3,4,6,7}, row 1 is met; the others join L_k, their columns U_k, and both keep what they had
    ∷ case (all_inside (rows_obtained seven 6 (any_step (8 ∷ []) (7 ∷ 9 ∷ []))))
    ((3 ∷ 4 ∷ 6 ∷ 7 ∷ 8 ∷ []) ∷ (2 ∷ 3 ∷ 4 ∷ 6 ∷ 7 ∷ 9 ∷ []) ∷ (0 ∷ 1 ∷ 2 ∷ 3 ∷ 4 ∷ 6 ∷ 7 ∷ []) ∷ (115 ∷ []) ∷ (15 ∷ []) ∷ (3 ∷ 4 ∷ 6 ∷ 7 ∷ []) ∷ (17 ∷ []) ∷ as_before)
    -- 2.3: S_6 is not empty, S_7 is
    ∷ row (flags (influenced 6 (any_step [] []) ∷ influenced 7 (any_step [] []) ∷ [])) (1 ∷ 0 ∷ [])
    -- 2.4 at step 6: the lists of steps 5 and 3, from 6 on, join what L_k and U_k had
    ∷ case (all_inside (steps_collected 6 (any_step (8 ∷ []) (7 ∷ 9 ∷ []))))
    ((8 ∷ 33 ∷ 35 ∷ 50 ∷ []) ∷ (7 ∷ 9 ∷ 43 ∷ 45 ∷ []) ∷ (0 ∷ 1 ∷ 2 ∷ []) ∷ (110 ∷ []) ∷ (15 ∷ []) ∷ (16 ∷ []) ∷ (17 ∷ []) ∷ as_before)
    -- and so where 2.3 goes on to it; at step 7 it is passed over
    ∷ case (all_inside (collected_if_influenced 6 (any_step (8 ∷ []) (7 ∷ 9 ∷ []))))
    ((8 ∷ 33 ∷ 35 ∷ 50 ∷ []) ∷ (7 ∷ 9 ∷ 43 ∷ 45 ∷ []) ∷ (0 ∷ 1 ∷ 2 ∷ []) ∷ (110 ∷ []) ∷ (15 ∷ []) ∷ (16 ∷ []) ∷ (17 ∷ []) ∷ as_before)
    ∷ case (all_inside (collected_if_influenced 7 (any_step (8 ∷ []) (7 ∷ 9 ∷ []))))
    ((8 ∷ []) ∷ (7 ∷ 9 ∷ []) ∷ (0 ∷ 1 ∷ 2 ∷ []) ∷ (100 ∷ []) ∷ (15 ∷ []) ∷ (16 ∷ []) ∷ (17 ∷ []) ∷ as_before)
    -- 2.5 at step 6: "set S_ρ = S_ρ ∪ {k} if |L_k| > 1", ρ being 9, the least of U_k but 6; the lists stand with the others
    ∷ case (all_shown (sets_updated 6 (any_step (6 ∷ 8 ∷ []) (6 ∷ 9 ∷ []))))
    ((0 ∷ 1 ∷ 2 ∷ []) ∷ (100 ∷ []) ∷ (15 ∷ []) ∷ (16 ∷ []) ∷ (17 ∷ [])
    ∷ (25 ∷ []) ∷ (5 ∷ 3 ∷ []) ∷ [] ∷ (28 ∷ []) ∷ (6 ∷ 29 ∷ [])
    ∷ (5 ∷ 35 ∷ 50 ∷ []) ∷ (6 ∷ 8 ∷ []) ∷ (7 ∷ 37 ∷ 50 ∷ [])
    ∷ (5 ∷ 45 ∷ []) ∷ (6 ∷ 9 ∷ []) ∷ (7 ∷ 47 ∷ [])
    ∷ [])
    -- where L_k has one member no set changes
    ∷ case (all_shown (sets_updated 6 (any_step (6 ∷ []) (6 ∷ 9 ∷ []))))
    ((0 ∷ 1 ∷ 2 ∷ []) ∷ (100 ∷ []) ∷ (15 ∷ []) ∷ (16 ∷ []) ∷ (17 ∷ [])
    ∷ (25 ∷ []) ∷ (5 ∷ 3 ∷ []) ∷ [] ∷ (28 ∷ []) ∷ (29 ∷ [])
    ∷ (5 ∷ 35 ∷ 50 ∷ []) ∷ (6 ∷ []) ∷ (7 ∷ 37 ∷ 50 ∷ [])
    ∷ (5 ∷ 45 ∷ []) ∷ (6 ∷ 9 ∷ []) ∷ (7 ∷ 47 ∷ [])
    ∷ [])
    -- L_k and U_k so far
    ∷ case (so_far (any_step (8 ∷ []) (7 ∷ 9 ∷ [])) lower ∷ so_far (any_step (8 ∷ []) (7 ∷ 9 ∷ [])) upper ∷ []) ((8 ∷ []) ∷ (7 ∷ 9 ∷ []) ∷ [])
    -- "each C_k once, each R_i once, and L_l and U_l once for each l taken from an S": 2.2 and 2.4 at step 6, 2.4 at step 7
    ∷ row (reads_of_rows seven any_known 6 ∷ reads_of_steps any_known 6 ∷ reads_of_steps any_known 7 ∷ []) (15 ∷ 10 ∷ 0 ∷ [])
    ∷ []
