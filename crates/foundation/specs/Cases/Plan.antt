-- Plan, shared subscripts and slots.
use Rattle.std.specs.Prelude.{false, cond, List, [], ◌∷◌, ◌++◌, map, ℕ, ◌+◌, eqb}
use Rattle.foundation.specs.Pattern.{Lent, lent_square, Pattern, pattern_of}
use Rattle.foundation.specs.Plan.{Planning, Side, lower, upper, list, after, plan}
use Rattle.foundation.specs.Subscripts.{kept, only, sole_step, Shared, shared_end, shared, opened, starts_store, room_fault}
use Rattle.foundation.specs.Slots.{Slot, none, on_diagonal, in_side, slot_in, has_slot, slots_of, slot_starts, slot_at}
use Rattle.foundation.specs.PlanCall.{subscripts}
use Rattle.foundation.specs.Table.{Case, case, told, four_fields}
use Rattle.foundation.specs.Cases.Show.{flag, flags, four, places, row, three_on_two}

-- rows {1,3,4,5,6}, {2,5}, {3,6}, {2,4,6}, {5,7}, {3,6}, {2,6,7}
abbrev pub seven_fields : Lent
seven_fields =
    lent_square 7 (0 ∷ 5 ∷ 7 ∷ 9 ∷ 12 ∷ 14 ∷ 16 ∷ 19 ∷ [])
    (1 ∷ 3 ∷ 4 ∷ 5 ∷ 6 ∷ 2 ∷ 5 ∷ 3 ∷ 6 ∷ 2 ∷ 4 ∷ 6 ∷ 5 ∷ 7 ∷ 3 ∷ 6 ∷ 2 ∷ 6 ∷ 7 ∷ [])

-- rows {1,5}, {1,2}, {3}, {1,2,4,5}, {3,5}, {2,5,6}
abbrev pub six_fields : Lent
six_fields = lent_square 6 (0 ∷ 2 ∷ 4 ∷ 5 ∷ 9 ∷ 11 ∷ 14 ∷ []) (1 ∷ 5 ∷ 1 ∷ 2 ∷ 3 ∷ 1 ∷ 2 ∷ 4 ∷ 5 ∷ 3 ∷ 5 ∷ 2 ∷ 5 ∷ 6 ∷ [])

-- rows {1,4}, {2,3}, {2,3}, {1,4}
abbrev pub two_pairs : Lent
two_pairs = lent_square 4 (0 ∷ 2 ∷ 4 ∷ 6 ∷ 8 ∷ []) (1 ∷ 4 ∷ 2 ∷ 3 ∷ 2 ∷ 3 ∷ 1 ∷ 4 ∷ [])

-- three rows on two columns, whose row i names column i, and row 1 a column past n
abbrev pub past_n : Pattern
past_n = record { n = 2; height = 3; row = λ i. cond (eqb i 1) (1 ∷ 3 ∷ []) (i ∷ []) }

-- the subscripts of a side, their starts, the starts of its slots
abbrev pub show_side : Lent → Side → List (List ℕ)
show_side p side = subscripts (plan (pattern_of p)) side p.n ∷ starts_store (plan (pattern_of p)) side p.n ∷ slot_starts (plan (pattern_of p)) side p.n ∷ []

-- planning of the seven fields, with so much room for L and for U
abbrev pub room_for : ℕ → ℕ → List (List ℕ)
room_for room_l room_u = told (λ s. (s.reads ∷ []) ∷ []) (room_fault (plan (pattern_of seven_fields)) room_l room_u 1 7)

-- rows {1,4}, {2}, {1,3}, {1,4}, {2,4,5}, {4,6}
abbrev pub middle_list : Lent
middle_list = lent_square 6 (0 ∷ 2 ∷ 3 ∷ 5 ∷ 7 ∷ 10 ∷ 12 ∷ []) (1 ∷ 4 ∷ 2 ∷ 1 ∷ 3 ∷ 1 ∷ 4 ∷ 2 ∷ 4 ∷ 5 ∷ 4 ∷ 6 ∷ [])

-- rows {1}, {2}, {3}, {1,3,4}
abbrev pub whole_at_end : Lent
whole_at_end = lent_square 4 (0 ∷ 1 ∷ 2 ∷ 3 ∷ 6 ∷ []) (1 ∷ 2 ∷ 3 ∷ 1 ∷ 3 ∷ 4 ∷ [])

-- rows {1,5}, {2}, {2,3}, {1,4}, {2,5}
abbrev pub sole_first : Lent
sole_first = lent_square 5 (0 ∷ 2 ∷ 3 ∷ 5 ∷ 7 ∷ 9 ∷ []) (1 ∷ 5 ∷ 2 ∷ 2 ∷ 3 ∷ 1 ∷ 4 ∷ 2 ∷ 5 ∷ [])

-- rows {1,4,5}, {2,4}, {1,3}, {4}, {5}
abbrev pub sole_part : Lent
sole_part = lent_square 5 (0 ∷ 3 ∷ 5 ∷ 7 ∷ 8 ∷ 9 ∷ []) (1 ∷ 4 ∷ 5 ∷ 2 ∷ 4 ∷ 1 ∷ 3 ∷ 4 ∷ 5 ∷ [])

-- a store, whatever lists put it there
abbrev pub store_alone : List ℕ → Shared
store_alone store = record { store = store; start = λ k. 0 }

-- a plan with given lists, whatever they are
abbrev pub with_lists : (L U : ℕ → List ℕ) → Planning
with_lists L U = record { met = λ i. false; first_met = λ k. []; S = λ k. []; L = L; U = U; reads = 0 }

-- no slot 0, the diagonal's 100 and its place, L's 200 and its place, U's 300 and its place
abbrev pub slot_number : Slot → ℕ
slot_number none = 0
slot_number (on_diagonal q) = 100 + q
slot_number (in_side lower q) = 200 + q
slot_number (in_side upper q) = 300 + q

abbrev pub odd_lower : ℕ → List ℕ
odd_lower k = cond (eqb k 2) (1 ∷ 2 ∷ 4 ∷ []) []

abbrev pub odd_upper : ℕ → List ℕ
odd_upper k = cond (eqb k 2) (1 ∷ 2 ∷ 3 ∷ []) []

unfoldable pub plan_cases : List Case
plan_cases =
    -- "Each unmet row i of C_k joins L_k, its R_i joins U_k, and it is met": the rows first met at each step, once, at their least column
    case (map (plan (pattern_of seven_fields)).first_met (1 ∷ 2 ∷ 3 ∷ 4 ∷ 5 ∷ 6 ∷ 7 ∷ []))
    ((1 ∷ []) ∷ (2 ∷ 4 ∷ 7 ∷ []) ∷ (3 ∷ 6 ∷ []) ∷ [] ∷ (5 ∷ []) ∷ [] ∷ [] ∷ [])
    -- "No row is met at first"; after step 2 rows 1, 2, 4 and 7 are, after all steps every row
    ∷ case
    (flags (map (after (pattern_of seven_fields) 0).met (1 ∷ 2 ∷ 3 ∷ 4 ∷ 5 ∷ 6 ∷ 7 ∷ []))
    ∷ flags (map (after (pattern_of seven_fields) 2).met (1 ∷ 2 ∷ 3 ∷ 4 ∷ 5 ∷ 6 ∷ 7 ∷ []))
    ∷ flags (map (plan (pattern_of seven_fields)).met (0 ∷ 1 ∷ 2 ∷ 3 ∷ 4 ∷ 5 ∷ 6 ∷ 7 ∷ 8 ∷ []))
    ∷ [])
    ((0 ∷ 0 ∷ 0 ∷ 0 ∷ 0 ∷ 0 ∷ 0 ∷ []) ∷ (1 ∷ 1 ∷ 0 ∷ 1 ∷ 0 ∷ 0 ∷ 1 ∷ []) ∷ (0 ∷ 1 ∷ 1 ∷ 1 ∷ 1 ∷ 1 ∷ 1 ∷ 1 ∷ 0 ∷ []) ∷ [])
    -- "If L_k has more than one member, k joins S_r, r being the least member of U_k above k": not step 1, whose L has one; a set of two has its newest first
    ∷ case (map (plan (pattern_of seven_fields)).S (0 ∷ 1 ∷ 2 ∷ 3 ∷ 4 ∷ 5 ∷ 6 ∷ 7 ∷ 8 ∷ []))
    ([] ∷ [] ∷ [] ∷ [] ∷ (2 ∷ []) ∷ (4 ∷ []) ∷ (5 ∷ 3 ∷ []) ∷ (6 ∷ []) ∷ [] ∷ [])
    -- "the members of L_l and U_l that are k or more join L_k and U_k": all L, then all U
    ∷ case (map (list (plan (pattern_of seven_fields)) lower) (1 ∷ 2 ∷ 3 ∷ 4 ∷ 5 ∷ 6 ∷ 7 ∷ []))
    ((1 ∷ []) ∷ (2 ∷ 4 ∷ 7 ∷ []) ∷ (3 ∷ 6 ∷ []) ∷ (4 ∷ 7 ∷ []) ∷ (5 ∷ 7 ∷ []) ∷ (6 ∷ 7 ∷ []) ∷ (7 ∷ []) ∷ [])
    ∷ case (map (list (plan (pattern_of seven_fields)) upper) (1 ∷ 2 ∷ 3 ∷ 4 ∷ 5 ∷ 6 ∷ 7 ∷ []))
    ((1 ∷ 3 ∷ 4 ∷ 5 ∷ 6 ∷ []) ∷ (2 ∷ 4 ∷ 5 ∷ 6 ∷ 7 ∷ []) ∷ (3 ∷ 6 ∷ []) ∷ (4 ∷ 5 ∷ 6 ∷ 7 ∷ []) ∷ (5 ∷ 6 ∷ 7 ∷ []) ∷ (6 ∷ 7 ∷ []) ∷ (7 ∷ []) ∷ [])
    -- the same of six fields: all L, all U
    ∷ case (map (list (plan (pattern_of six_fields)) lower) (1 ∷ 2 ∷ 3 ∷ 4 ∷ 5 ∷ 6 ∷ []))
    ((1 ∷ 2 ∷ 4 ∷ []) ∷ (2 ∷ 4 ∷ 6 ∷ []) ∷ (3 ∷ 5 ∷ []) ∷ (4 ∷ 6 ∷ []) ∷ (5 ∷ 6 ∷ []) ∷ (6 ∷ []) ∷ [])
    ∷ case (map (list (plan (pattern_of six_fields)) upper) (1 ∷ 2 ∷ 3 ∷ 4 ∷ 5 ∷ 6 ∷ []))
    ((1 ∷ 2 ∷ 4 ∷ 5 ∷ []) ∷ (2 ∷ 4 ∷ 5 ∷ 6 ∷ []) ∷ (3 ∷ 5 ∷ []) ∷ (4 ∷ 5 ∷ 6 ∷ []) ∷ (5 ∷ 6 ∷ []) ∷ (6 ∷ []) ∷ [])
    -- no list before step 1 or after step n
    ∷ case (list (plan (pattern_of seven_fields)) lower 0 ∷ list (plan (pattern_of seven_fields)) upper 0 ∷ list (plan (pattern_of seven_fields)) lower 8 ∷ list (plan (pattern_of seven_fields)) upper 8 ∷ [])
    ([] ∷ [] ∷ [] ∷ [] ∷ [])
    -- "each C_k once, each R_i once, and L_l and U_l once for each l taken from an S"; none before the first step
    ∷ row ((plan (pattern_of seven_fields)).reads ∷ (plan (pattern_of six_fields)).reads ∷ (after (pattern_of six_fields) 0).reads ∷ []) (65 ∷ 55 ∷ 0 ∷ [])
    -- three rows on two columns: rows are counted by the height, steps by n; step 2 has no r, and joins no S (ticket 9)
    ∷ case (map (list (plan three_on_two) lower) (1 ∷ 2 ∷ 3 ∷ [])) ((1 ∷ 3 ∷ []) ∷ (2 ∷ 3 ∷ []) ∷ [] ∷ [])
    ∷ case (map (list (plan three_on_two) upper) (1 ∷ 2 ∷ 3 ∷ [])) ((1 ∷ 2 ∷ []) ∷ (2 ∷ []) ∷ [] ∷ [])
    ∷ case (map (plan three_on_two).S (0 ∷ 1 ∷ 2 ∷ 3 ∷ []) ++ (((plan three_on_two).reads ∷ []) ∷ []))
    ([] ∷ [] ∷ (1 ∷ []) ∷ [] ∷ (14 ∷ []) ∷ [])
    -- "For k = 1 to n": no list is made past n, whatever rows there are
    ∷ case (map (list (plan past_n) lower) (1 ∷ 2 ∷ 3 ∷ [])) ((1 ∷ []) ∷ (2 ∷ []) ∷ [] ∷ [])
    ∷ []

unfoldable pub subscript_cases : List Case
subscript_cases =
    -- "The kept list of L_k or U_k omits k and ascends"
    case (map (kept (plan (pattern_of six_fields)) lower) (1 ∷ 2 ∷ 3 ∷ 4 ∷ 5 ∷ 6 ∷ [])) ((2 ∷ 4 ∷ []) ∷ (4 ∷ 6 ∷ []) ∷ (5 ∷ []) ∷ (6 ∷ []) ∷ (6 ∷ []) ∷ [] ∷ [])
    ∷ case (map (kept (plan (pattern_of six_fields)) upper) (1 ∷ 2 ∷ 3 ∷ 4 ∷ 5 ∷ 6 ∷ []))
    ((2 ∷ 4 ∷ 5 ∷ []) ∷ (4 ∷ 5 ∷ 6 ∷ []) ∷ (5 ∷ []) ∷ (5 ∷ 6 ∷ []) ∷ (6 ∷ []) ∷ [] ∷ [])
    -- "if S_k is one step l and no row was first met at k": at steps 4 and 7; at 5 a row is first met, at 6 there are two steps
    ∷ row (map (sole_step (plan (pattern_of seven_fields))) (1 ∷ 2 ∷ 3 ∷ 4 ∷ 5 ∷ 6 ∷ 7 ∷ [])) (0 ∷ 0 ∷ 0 ∷ 2 ∷ 0 ∷ 0 ∷ 6 ∷ [])
    -- the one member of a list with one
    ∷ row (only [] ∷ only (4 ∷ []) ∷ only (4 ∷ 2 ∷ []) ∷ []) (0 ∷ 4 ∷ 0 ∷ [])
    -- L's and U's subscripts, starts, and starts of slots. U: step 2 shares three with the end of step 1's list, step 4 has 2's start plus 1, step 5 shares one with the list of step 3, which ends the store
    ∷ case (show_side seven_fields lower) ((4 ∷ 7 ∷ 6 ∷ 7 ∷ []) ∷ (0 ∷ 0 ∷ 2 ∷ 1 ∷ 3 ∷ 3 ∷ 4 ∷ []) ∷ (0 ∷ 0 ∷ 2 ∷ 3 ∷ 4 ∷ 5 ∷ 6 ∷ 6 ∷ []) ∷ [])
    ∷ case (show_side seven_fields upper)
    ((3 ∷ 4 ∷ 5 ∷ 6 ∷ 7 ∷ 6 ∷ 7 ∷ []) ∷ (0 ∷ 1 ∷ 5 ∷ 2 ∷ 5 ∷ 6 ∷ 7 ∷ []) ∷ (0 ∷ 4 ∷ 8 ∷ 9 ∷ 12 ∷ 14 ∷ 15 ∷ 15 ∷ []) ∷ [])
    -- L: step 2 shares one, step 4 has 2's start plus 1, step 5 shares with no list in the middle
    ∷ case (show_side six_fields lower) ((2 ∷ 4 ∷ 6 ∷ 5 ∷ 6 ∷ []) ∷ (0 ∷ 1 ∷ 3 ∷ 2 ∷ 4 ∷ 5 ∷ []) ∷ (0 ∷ 2 ∷ 4 ∷ 5 ∷ 6 ∷ 7 ∷ 7 ∷ []) ∷ [])
    ∷ case (show_side six_fields upper) ((2 ∷ 4 ∷ 5 ∷ 6 ∷ 5 ∷ 6 ∷ []) ∷ (0 ∷ 1 ∷ 4 ∷ 2 ∷ 5 ∷ 6 ∷ []) ∷ (0 ∷ 3 ∷ 6 ∷ 7 ∷ 9 ∷ 10 ∷ 10 ∷ []) ∷ [])
    -- document 02, ticket 5: "the last t subscripts of the whole store equal the first t of the new list": none; one; all of the list; two of a longer list; none
    -- where only the first stands there; of the empty list none
    ∷ row (map (λ new. shared_end (store_alone (3 ∷ 4 ∷ 5 ∷ 4 ∷ 5 ∷ [])) new) ((3 ∷ 4 ∷ []) ∷ (5 ∷ 6 ∷ []) ∷ (4 ∷ 5 ∷ []) ∷ (4 ∷ 5 ∷ 7 ∷ []) ∷ (4 ∷ 6 ∷ []) ∷ [] ∷ [])) (0 ∷ 1 ∷ 2 ∷ 2 ∷ 0 ∷ 0 ∷ [])
    -- all of the store; of an empty store none; the longer of two
    ∷ row (shared_end (store_alone (4 ∷ 5 ∷ [])) (4 ∷ 5 ∷ 6 ∷ []) ∷ shared_end (store_alone []) (4 ∷ []) ∷ shared_end (store_alone (7 ∷ 7 ∷ [])) (7 ∷ 7 ∷ 8 ∷ []) ∷ []) (2 ∷ 0 ∷ 2 ∷ [])
    -- "whichever list put them there": at step 4 of L the list of step 3 lies in the middle and that of step 2, which ends the store, is shared
    ∷ case (show_side middle_list lower) ((3 ∷ 4 ∷ 5 ∷ 6 ∷ []) ∷ (0 ∷ 2 ∷ 1 ∷ 2 ∷ 3 ∷ 4 ∷ []) ∷ (0 ∷ 2 ∷ 3 ∷ 4 ∷ 6 ∷ 7 ∷ 7 ∷ []) ∷ [])
    -- the whole list of step 3 stands at the end, put there by step 1, though the list of step 2 is empty: nothing is added, and 7 and 8 cannot come there
    ∷ case (show_side whole_at_end lower) ((4 ∷ []) ∷ (0 ∷ 1 ∷ 0 ∷ 1 ∷ []) ∷ (0 ∷ 1 ∷ 1 ∷ 2 ∷ 2 ∷ []) ∷ [])
    ∷ case (show_side whole_at_end upper) ((3 ∷ 4 ∷ []) ∷ (0 ∷ 2 ∷ 1 ∷ 2 ∷ []) ∷ (0 ∷ 2 ∷ 2 ∷ 3 ∷ 3 ∷ []) ∷ [])
    ∷ case (told (λ s. (s.reads ∷ []) ∷ []) (room_fault (plan (pattern_of whole_at_end)) 1 2 1 4)) ((1 ∷ []) ∷ (21 ∷ []) ∷ [])
    -- "The two earlier cases of document 01 still come first": the list of step 4 of U stands at the end, and starts at 1's start plus 1
    ∷ case (show_side sole_first upper) ((4 ∷ 5 ∷ 3 ∷ 5 ∷ []) ∷ (0 ∷ 2 ∷ 3 ∷ 1 ∷ 4 ∷ []) ∷ (0 ∷ 2 ∷ 4 ∷ 5 ∷ 6 ∷ 6 ∷ []) ∷ [])
    -- and "nothing is added" where only a part of the list stands there, as at step 3
    ∷ case (show_side sole_part upper) ((3 ∷ 4 ∷ 5 ∷ 4 ∷ []) ∷ (0 ∷ 3 ∷ 1 ∷ 4 ∷ 4 ∷ []) ∷ (0 ∷ 3 ∷ 4 ∷ 6 ∷ 6 ∷ 6 ∷ []) ∷ [])
    -- "Empty list: its start is the store's end", though S_4 is step 1 alone, whose start plus 1 is 1
    ∷ case (show_side two_pairs lower) ((4 ∷ 3 ∷ []) ∷ (0 ∷ 1 ∷ 2 ∷ 2 ∷ []) ∷ (0 ∷ 1 ∷ 2 ∷ 2 ∷ 2 ∷ []) ∷ [])
    ∷ case (show_side two_pairs upper) ((4 ∷ 3 ∷ []) ∷ (0 ∷ 1 ∷ 2 ∷ 2 ∷ []) ∷ (0 ∷ 1 ∷ 2 ∷ 2 ∷ 2 ∷ []) ∷ [])
    -- before the first step a side's store is empty, and no list has a start
    ∷ case ((shared (plan (pattern_of six_fields)) lower 0).store ∷ map (shared (plan (pattern_of six_fields)) lower 0).start (0 ∷ 1 ∷ 2 ∷ []) ∷ []) ([] ∷ (0 ∷ 0 ∷ 0 ∷ []) ∷ [])
    -- a start and a length open to a list
    ∷ row (opened (5 ∷ 6 ∷ 7 ∷ 8 ∷ []) 1 2) (6 ∷ 7 ∷ [])
    ∷ []

unfoldable pub room_cases : List Case
room_cases =
    -- 7: "an L subscript does not fit"; 8: "a U subscript does not fit": 4 and 7 are enough, more is no fault
    case (room_for 4 7) ((1 ∷ []) ∷ (65 ∷ []) ∷ [])
    ∷ case (room_for 9 9) ((1 ∷ []) ∷ (65 ∷ []) ∷ [])
    -- one too few for L, for U
    ∷ case (room_for 3 7) ((0 ∷ 7 ∷ 5 ∷ []) ∷ [])
    ∷ case (room_for 4 6) ((0 ∷ 8 ∷ 5 ∷ []) ∷ [])
    -- "7 and 8 go step by step, L first": both at step 5; 8 at step 3 before 7 at step 5; 7 at step 2 before 8 at step 5
    ∷ case (room_for 3 6) ((0 ∷ 7 ∷ 5 ∷ []) ∷ [])
    ∷ case (room_for 3 5) ((0 ∷ 8 ∷ 3 ∷ []) ∷ [])
    ∷ case (room_for 0 6) ((0 ∷ 7 ∷ 2 ∷ []) ∷ [])
    -- 8 at the first step
    ∷ case (room_for 4 3) ((0 ∷ 8 ∷ 1 ∷ []) ∷ [])
    -- no step left, none asked
    ∷ case (told (λ s. (s.reads ∷ []) ∷ []) (room_fault (plan (pattern_of seven_fields)) 0 0 1 0)) ((1 ∷ []) ∷ (65 ∷ []) ∷ [])
    ∷ []

unfoldable pub slot_cases : List Case
slot_cases =
    -- "The plan has a slot for place (i, j) if i = j, if j is larger than i and in U_i, or if i is larger than j and in L_j": the four fields
    case (places four four (λ i j. flag (has_slot (plan (pattern_of four_fields)) i j)))
    ((1 ∷ 0 ∷ 1 ∷ 0 ∷ []) ∷ (0 ∷ 1 ∷ 1 ∷ 1 ∷ []) ∷ (1 ∷ 0 ∷ 1 ∷ 1 ∷ []) ∷ (0 ∷ 1 ∷ 1 ∷ 1 ∷ []) ∷ [])
    -- "Value slots run list after list without sharing; the diagonal has n slots of its own"
    ∷ case (places four four (λ i j. slot_number (slot_at (plan (pattern_of four_fields)) i j)))
    ((100 ∷ 0 ∷ 300 ∷ 0 ∷ []) ∷ (0 ∷ 101 ∷ 301 ∷ 302 ∷ []) ∷ (200 ∷ 0 ∷ 102 ∷ 303 ∷ []) ∷ (0 ∷ 201 ∷ 202 ∷ 103 ∷ []) ∷ [])
    -- whatever the lists: L_2 = {1,2,4} and U_2 = {1,2,3} give slots to (4,2) and (2,3) alone beside the diagonal
    ∷ case (places four four (λ i j. flag (slot_in odd_lower odd_upper i j)))
    ((1 ∷ 0 ∷ 0 ∷ 0 ∷ []) ∷ (0 ∷ 1 ∷ 1 ∷ 0 ∷ []) ∷ (0 ∷ 0 ∷ 1 ∷ 0 ∷ []) ∷ (0 ∷ 1 ∷ 0 ∷ 1 ∷ []) ∷ [])
    ∷ case (places four four (λ i j. flag (has_slot (with_lists odd_lower odd_upper) i j)))
    ((1 ∷ 0 ∷ 0 ∷ 0 ∷ []) ∷ (0 ∷ 1 ∷ 1 ∷ 0 ∷ []) ∷ (0 ∷ 0 ∷ 1 ∷ 0 ∷ []) ∷ (0 ∷ 1 ∷ 0 ∷ 1 ∷ []) ∷ [])
    ∷ case (places four four (λ i j. slot_number (slot_at (with_lists odd_lower odd_upper) i j)))
    ((100 ∷ 0 ∷ 0 ∷ 0 ∷ []) ∷ (0 ∷ 101 ∷ 301 ∷ 0 ∷ []) ∷ (0 ∷ 0 ∷ 102 ∷ 0 ∷ []) ∷ (0 ∷ 201 ∷ 0 ∷ 103 ∷ []) ∷ [])
    -- how many slots the first k lists have
    ∷ row (map (slots_of (plan (pattern_of seven_fields)) upper) (0 ∷ 1 ∷ 2 ∷ 3 ∷ 7 ∷ [])) (0 ∷ 4 ∷ 8 ∷ 9 ∷ 15 ∷ [])
    ∷ []
