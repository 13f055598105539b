-- Planning's call: 6, 7 and 8, the counts, and the stores afterwards.
use Rattle.std.specs.Prelude.{List, [], ◌∷◌, ℕ, replicate}
use Rattle.foundation.specs.Pattern.{Lent, lent_square}
use Rattle.foundation.specs.PlanCall.{Counts, SideStores, PlanStores, WorkSizes, planned, plan_answer, plan_leaves}
use Rattle.foundation.specs.Table.{Case, case, told}
use Rattle.foundation.specs.Cases.Show.{refusal_number, row}

-- rows {1}, {2,3}, {1,3}, {1,3,4,5}, {2,5}: each of the counts but the row count is another number, and L's store is one that sharing with the list of k-1 alone would
-- make longer
abbrev pub five_fields : Lent
five_fields = lent_square 5 (0 ∷ 1 ∷ 3 ∷ 5 ∷ 9 ∷ 11 ∷ []) (1 ∷ 2 ∷ 3 ∷ 1 ∷ 3 ∷ 1 ∷ 3 ∷ 4 ∷ 5 ∷ 2 ∷ 5 ∷ [])

-- lent stores of these lengths, nines throughout: subscripts, starts and starts of slots
abbrev pub nines_in : ℕ → ℕ → ℕ → SideStores
nines_in subs starts slot_starts = record { subs = replicate subs 9; starts = replicate starts 9; slot_starts = replicate slot_starts 9 }

abbrev pub stores : SideStores → SideStores → PlanStores
stores l u = record { lower_side = l; upper_side = u }

abbrev pub work : List ℕ → List ℕ → List ℕ → WorkSizes
work of_height of_height_plus_one of_entries = record { of_height = of_height; of_height_plus_one = of_height_plus_one; of_entries = of_entries }

-- stores and work stores that fit, with more room for subscripts than is needed
abbrev pub fitting : PlanStores
fitting = stores (nines_in 4 5 6) (nines_in 8 5 6)

abbrev pub fitting_sizes : WorkSizes
fitting_sizes = work (5 ∷ 5 ∷ []) (6 ∷ 6 ∷ []) (11 ∷ 11 ∷ [])

abbrev pub counts_shown : Counts → List (List ℕ)
counts_shown c = (c.n ∷ c.height ∷ c.entries ∷ c.lower_subscripts ∷ c.upper_subscripts ∷ c.lower_slots ∷ c.upper_slots ∷ c.reads ∷ []) ∷ []

abbrev pub stores_shown : PlanStores → List (List ℕ)
stores_shown q =
    q.lower_side.subs
    ∷ q.lower_side.starts
    ∷ q.lower_side.slot_starts
    ∷ q.upper_side.subs
    ∷ q.upper_side.starts
    ∷ q.upper_side.slot_starts
    ∷ []

-- planning's call: its answer, and all its stores afterwards
abbrev pub answered : Lent → PlanStores → WorkSizes → List (List ℕ)
answered p lentStores sizes = told counts_shown (plan_answer p (planned 1024 p lentStores sizes))

abbrev pub leaves : Lent → PlanStores → List (List ℕ)
leaves p lentStores = stores_shown (plan_leaves p (planned 1024 p lentStores fitting_sizes) lentStores)

-- the number of planning's refusal, by its stores, by its work stores, by its pattern
abbrev pub by_stores : SideStores → SideStores → ℕ
by_stores l u = refusal_number (planned 1024 five_fields (stores l u) fitting_sizes)

abbrev pub by_work : WorkSizes → ℕ
by_work sizes = refusal_number (planned 1024 five_fields fitting sizes)

abbrev pub by_pattern : Lent → ℕ
by_pattern p = refusal_number (planned 1024 p (stores (nines_in 0 0 0) (nines_in 0 0 0)) fitting_sizes)

unfoldable pub plan_call_cases : List Case
plan_call_cases =
    -- "Plan: n, entries, L and U subscripts, L and U slots, reads."
    case (answered five_fields fitting fitting_sizes) ((1 ∷ []) ∷ (5 ∷ 5 ∷ 11 ∷ 3 ∷ 7 ∷ 6 ∷ 8 ∷ 44 ∷ []) ∷ [])
    -- "result stores longer than needed are zero beyond": L's three stores, then U's
    ∷ case (leaves five_fields fitting)
    ((3 ∷ 4 ∷ 5 ∷ 0 ∷ [])
    ∷ (0 ∷ 2 ∷ 1 ∷ 2 ∷ 3 ∷ [])
    ∷ (0 ∷ 2 ∷ 3 ∷ 5 ∷ 6 ∷ 6 ∷ [])
    ∷ (3 ∷ 4 ∷ 5 ∷ 3 ∷ 5 ∷ 4 ∷ 5 ∷ 0 ∷ [])
    ∷ (0 ∷ 3 ∷ 5 ∷ 6 ∷ 7 ∷ [])
    ∷ (0 ∷ 3 ∷ 5 ∷ 7 ∷ 8 ∷ 8 ∷ [])
    ∷ [])
    -- 7 and 8 with their steps; "Result stores are then zero throughout"
    ∷ case (answered five_fields (stores (nines_in 2 5 6) (nines_in 7 5 6)) fitting_sizes) ((0 ∷ 7 ∷ 2 ∷ []) ∷ [])
    ∷ case (answered five_fields (stores (nines_in 3 5 6) (nines_in 6 5 6)) fitting_sizes) ((0 ∷ 8 ∷ 3 ∷ []) ∷ [])
    ∷ case (leaves five_fields (stores (nines_in 3 5 6) (nines_in 6 5 6)))
    ((0 ∷ 0 ∷ 0 ∷ [])
    ∷ (0 ∷ 0 ∷ 0 ∷ 0 ∷ 0 ∷ [])
    ∷ (0 ∷ 0 ∷ 0 ∷ 0 ∷ 0 ∷ 0 ∷ [])
    ∷ (0 ∷ 0 ∷ 0 ∷ 0 ∷ 0 ∷ 0 ∷ [])
    ∷ (0 ∷ 0 ∷ 0 ∷ 0 ∷ 0 ∷ [])
    ∷ (0 ∷ 0 ∷ 0 ∷ 0 ∷ 0 ∷ 0 ∷ [])
    ∷ [])
    -- document 02, ticket 5: "7, 8 and 9 are judged by this rule for all plans": three L subscripts are enough, where sharing with the list of k-1 alone
    -- would be 7 at step 3
    ∷ case (answered five_fields (stores (nines_in 3 5 6) (nines_in 7 5 6)) fitting_sizes) ((1 ∷ []) ∷ (5 ∷ 5 ∷ 11 ∷ 3 ∷ 7 ∷ 6 ∷ 8 ∷ 44 ∷ []) ∷ [])
    -- a refusal leaves stores of whatever length zero: 6 by stores of six lengths
    ∷ case (leaves five_fields (stores (nines_in 1 2 3) (nines_in 4 6 0)))
    ((0 ∷ []) ∷ (0 ∷ 0 ∷ []) ∷ (0 ∷ 0 ∷ 0 ∷ []) ∷ (0 ∷ 0 ∷ 0 ∷ 0 ∷ []) ∷ (0 ∷ 0 ∷ 0 ∷ 0 ∷ 0 ∷ 0 ∷ []) ∷ [] ∷ [])
    -- 6: "a starts store of the plan (..) has another length than its n, n+1": starts, and starts of slots, one shorter and one longer, of L
    ∷ row
    (by_stores (nines_in 3 4 6) (nines_in 8 5 6)
    ∷ by_stores (nines_in 3 6 6) (nines_in 8 5 6)
    ∷ by_stores (nines_in 3 5 5) (nines_in 8 5 6)
    ∷ by_stores (nines_in 3 5 7) (nines_in 8 5 6)
    ∷ [])
    (6 ∷ 6 ∷ 6 ∷ 6 ∷ [])
    -- and of U
    ∷ row
    (by_stores (nines_in 3 5 6) (nines_in 8 4 6)
    ∷ by_stores (nines_in 3 5 6) (nines_in 8 6 6)
    ∷ by_stores (nines_in 3 5 6) (nines_in 8 5 5)
    ∷ by_stores (nines_in 3 5 6) (nines_in 8 5 7)
    ∷ [])
    (6 ∷ 6 ∷ 6 ∷ 6 ∷ [])
    -- "or a work store in any call, has another length than its n, n+1 or entries": none lent is no fault; the second of n, of n+1, of entries
    ∷ row
    (by_work (work [] [] [])
    ∷ by_work (work (5 ∷ 4 ∷ []) (6 ∷ []) (11 ∷ []))
    ∷ by_work (work (5 ∷ 6 ∷ []) (6 ∷ []) (11 ∷ []))
    ∷ by_work (work (5 ∷ []) (6 ∷ 5 ∷ []) (11 ∷ []))
    ∷ by_work (work (5 ∷ []) (6 ∷ 7 ∷ []) (11 ∷ []))
    ∷ by_work (work (5 ∷ []) (6 ∷ []) (11 ∷ 10 ∷ []))
    ∷ by_work (work (5 ∷ []) (6 ∷ []) (11 ∷ 12 ∷ []))
    ∷ [])
    (0 ∷ 6 ∷ 6 ∷ 6 ∷ 6 ∷ 6 ∷ 6 ∷ [])
    -- 6 has no step, and goes before 7 and 8
    ∷ case (answered five_fields (stores (nines_in 0 5 6) (nines_in 0 5 7)) fitting_sizes) ((0 ∷ 6 ∷ 0 ∷ []) ∷ [])
    -- "Order is that of the table": 1 to 5 before 6
    ∷ row
    (by_pattern (lent_square 0 (0 ∷ []) [])
    ∷ by_pattern (lent_square 1 (1 ∷ 1 ∷ []) (1 ∷ []))
    ∷ by_pattern (lent_square 1 (0 ∷ 1 ∷ []) (2 ∷ []))
    ∷ by_pattern (lent_square 1 (0 ∷ 2 ∷ []) (1 ∷ 1 ∷ []))
    ∷ by_pattern (lent_square 1 (0 ∷ 0 ∷ []) [])
    ∷ by_pattern (lent_square 1 (0 ∷ 1 ∷ []) (1 ∷ []))
    ∷ [])
    (1 ∷ 2 ∷ 3 ∷ 4 ∷ 5 ∷ 6 ∷ [])
    -- a caller's largest n
    ∷ row (refusal_number (planned 4 five_fields fitting fitting_sizes) ∷ refusal_number (planned 5 five_fields fitting fitting_sizes) ∷ []) (1 ∷ 0 ∷ [])
    ∷ []
