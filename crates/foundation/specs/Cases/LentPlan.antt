-- A lent plan: 9 and what goes before it.
use Rattle.std.specs.Prelude.{List, [], ◌∷◌, ◌++◌, map, ℕ, zero, suc, get_or}
use Rattle.foundation.specs.Answer.{Answer}
use Rattle.foundation.specs.Pattern.{Lent, lent_square}
use Rattle.foundation.specs.Plan.{Planning, lower, upper}
use Rattle.foundation.specs.Subscripts.{starts_store}
use Rattle.foundation.specs.PlanCall.{Counts, SideStores, WorkSizes, count_numbers, subscripts, same_counts, held}
use Rattle.foundation.specs.Table.{Case, case, told}
use Rattle.foundation.specs.Cases.Show.{flags, refusal_number, row}
use Rattle.foundation.specs.Cases.PlanCall.{five_fields, stores, work, fitting_sizes, nines_in}
use Rattle.lists.specs.Sets.{upto}

-- the plan of the five fields as it is lent: its counts, L's stores, U's stores
abbrev pub right_counts : List ℕ
right_counts = 5 ∷ 5 ∷ 11 ∷ 3 ∷ 7 ∷ 6 ∷ 8 ∷ 44 ∷ []

-- the counts in the order of the listing, the row count behind n
abbrev pub counts_from : List ℕ → Counts
counts_from xs =
    record {
      n = get_or xs 0 0;
      height = get_or xs 1 0;
      entries = get_or xs 2 0;
      lower_subscripts = get_or xs 3 0;
      upper_subscripts = get_or xs 4 0;
      lower_slots = get_or xs 5 0;
      upper_slots = get_or xs 6 0;
      reads = get_or xs 7 0;
    }

abbrev pub side : List ℕ → List ℕ → List ℕ → SideStores
side subs starts slot_starts = record { subs = subs; starts = starts; slot_starts = slot_starts }

abbrev pub right_lower : SideStores
right_lower = side (3 ∷ 4 ∷ 5 ∷ []) (0 ∷ 2 ∷ 1 ∷ 2 ∷ 3 ∷ []) (0 ∷ 2 ∷ 3 ∷ 5 ∷ 6 ∷ 6 ∷ [])

abbrev pub right_upper : SideStores
right_upper = side (3 ∷ 4 ∷ 5 ∷ 3 ∷ 5 ∷ 4 ∷ 5 ∷ []) (0 ∷ 3 ∷ 5 ∷ 6 ∷ 7 ∷ []) (0 ∷ 3 ∷ 5 ∷ 7 ∷ 8 ∷ 8 ∷ [])

-- the same lists, each shared with the list of k-1 alone, if that ends its store: document 01's rule before ticket 5
abbrev pub shared_before : SideStores
shared_before = side (3 ∷ 4 ∷ 5 ∷ 4 ∷ 5 ∷ []) (0 ∷ 2 ∷ 3 ∷ 4 ∷ 5 ∷ []) (0 ∷ 2 ∷ 3 ∷ 5 ∷ 6 ∷ 6 ∷ [])

-- the answer to this plan lent for the five fields: its number, 0 if it is theirs
abbrev pub hold_of : Lent → List ℕ → SideStores → SideStores → WorkSizes → Answer Planning
hold_of p counts l u sizes = held 1024 p (record { counts = counts_from counts; stores = stores l u }) sizes

abbrev pub held_with : List ℕ → SideStores → SideStores → ℕ
held_with counts l u = refusal_number (hold_of five_fields counts l u fitting_sizes)

-- with other counts, with another side L, with another side U
abbrev pub with_counts : List ℕ → ℕ
with_counts counts = held_with counts right_lower right_upper

abbrev pub with_lower : SideStores → ℕ
with_lower l = held_with right_counts l right_upper

abbrev pub with_upper : SideStores → ℕ
with_upper u = held_with right_counts right_lower u

-- a list with one more at a place
abbrev pub onemore : ℕ → List ℕ → List ℕ
onemore i [] = []
onemore zero (x ∷ xs) = suc x ∷ xs
onemore (suc i) (x ∷ xs) = x ∷ onemore i xs

-- L's stores with other subscripts, starts, starts of slots; U's
abbrev pub lower_subs : List ℕ → ℕ
lower_subs xs = with_lower (side xs right_lower.starts right_lower.slot_starts)

abbrev pub lower_starts : List ℕ → ℕ
lower_starts xs = with_lower (side right_lower.subs xs right_lower.slot_starts)

abbrev pub lower_slot_starts : List ℕ → ℕ
lower_slot_starts xs = with_lower (side right_lower.subs right_lower.starts xs)

abbrev pub upper_subs : List ℕ → ℕ
upper_subs xs = with_upper (side xs right_upper.starts right_upper.slot_starts)

abbrev pub upper_starts : List ℕ → ℕ
upper_starts xs = with_upper (side right_upper.subs xs right_upper.slot_starts)

abbrev pub upper_slot_starts : List ℕ → ℕ
upper_slot_starts xs = with_upper (side right_upper.subs right_upper.starts xs)

-- what a granted plan is: some of its lists and its reads
abbrev pub plan_shown : Planning → List (List ℕ)
plan_shown s = subscripts s lower 5 ∷ starts_store s upper 5 ∷ (s.reads ∷ []) ∷ []

unfoldable pub lent_plan_cases : List Case
lent_plan_cases =
    -- the plan of the five fields is held, and is their plan
    case (told plan_shown (hold_of five_fields right_counts right_lower right_upper fitting_sizes))
    ((1 ∷ []) ∷ (3 ∷ 4 ∷ 5 ∷ []) ∷ (0 ∷ 3 ∷ 5 ∷ 6 ∷ 7 ∷ []) ∷ (44 ∷ []) ∷ [])
    -- 9: "the lent plan differs from this pattern's plan in some count": each of the eight, one more
    ∷ row (map (λ i. with_counts (onemore i right_counts)) (0 ∷ 1 ∷ 2 ∷ 3 ∷ 4 ∷ 5 ∷ 6 ∷ 7 ∷ [])) (9 ∷ 9 ∷ 9 ∷ 9 ∷ 9 ∷ 9 ∷ 9 ∷ 9 ∷ [])
    -- "start": each of L's, each of L's slots; each of U's, each of U's slots
    ∷ row (map (λ i. lower_starts (onemore i right_lower.starts)) (0 ∷ 1 ∷ 2 ∷ 3 ∷ 4 ∷ [])) (9 ∷ 9 ∷ 9 ∷ 9 ∷ 9 ∷ [])
    ∷ row (map (λ i. lower_slot_starts (onemore i right_lower.slot_starts)) (0 ∷ 1 ∷ 2 ∷ 3 ∷ 4 ∷ 5 ∷ [])) (9 ∷ 9 ∷ 9 ∷ 9 ∷ 9 ∷ 9 ∷ [])
    ∷ row (map (λ i. upper_starts (onemore i right_upper.starts)) (0 ∷ 1 ∷ 2 ∷ 3 ∷ 4 ∷ [])) (9 ∷ 9 ∷ 9 ∷ 9 ∷ 9 ∷ [])
    ∷ row (map (λ i. upper_slot_starts (onemore i right_upper.slot_starts)) (0 ∷ 1 ∷ 2 ∷ 3 ∷ 4 ∷ 5 ∷ [])) (9 ∷ 9 ∷ 9 ∷ 9 ∷ 9 ∷ 9 ∷ [])
    -- "or used subscript": each of L's, of U's; what lies beyond is not used, and a store too short has not all
    ∷ row (map (λ i. lower_subs (onemore i right_lower.subs)) (0 ∷ 1 ∷ 2 ∷ [])) (9 ∷ 9 ∷ 9 ∷ [])
    ∷ row (map (λ i. upper_subs (onemore i right_upper.subs)) (0 ∷ 1 ∷ 2 ∷ 3 ∷ 4 ∷ 5 ∷ 6 ∷ [])) (9 ∷ 9 ∷ 9 ∷ 9 ∷ 9 ∷ 9 ∷ 9 ∷ [])
    ∷ row (lower_subs (right_lower.subs ++ (7 ∷ [])) ∷ upper_subs (right_upper.subs ++ (7 ∷ 7 ∷ [])) ∷ []) (0 ∷ 0 ∷ [])
    ∷ row (lower_subs (3 ∷ 4 ∷ []) ∷ upper_subs (3 ∷ 4 ∷ 5 ∷ 3 ∷ 5 ∷ 4 ∷ []) ∷ []) (9 ∷ 9 ∷ [])
    -- document 02, ticket 5: "9 (..) judged by this rule for all plans": shared as before it, with the count that belongs to that and with the right one
    ∷ row (held_with (5 ∷ 5 ∷ 11 ∷ 5 ∷ 7 ∷ 6 ∷ 8 ∷ 44 ∷ []) shared_before right_upper ∷ with_lower shared_before ∷ []) (9 ∷ 9 ∷ [])
    -- L's stores lent for U, and U's for L
    ∷ row (with_lower right_upper ∷ with_upper right_lower ∷ []) (9 ∷ 9 ∷ [])
    -- 6 before 9: a starts store of another length; a work store; with counts that differ too
    ∷ row
    (lower_starts (0 ∷ 2 ∷ 1 ∷ 2 ∷ [])
    ∷ lower_slot_starts (0 ∷ 2 ∷ 3 ∷ 5 ∷ 6 ∷ 6 ∷ 6 ∷ [])
    ∷ upper_starts (0 ∷ 3 ∷ 5 ∷ 6 ∷ 7 ∷ 7 ∷ [])
    ∷ upper_slot_starts (0 ∷ 3 ∷ 5 ∷ 7 ∷ 8 ∷ [])
    ∷ refusal_number (hold_of five_fields right_counts right_lower right_upper (work (4 ∷ []) [] []))
    ∷ held_with (onemore 7 right_counts) (side [] [] []) right_upper
    ∷ [])
    (6 ∷ 6 ∷ 6 ∷ 6 ∷ 6 ∷ 6 ∷ [])
    -- 6 and 9 have no step
    ∷ case (told plan_shown (hold_of five_fields right_counts right_lower right_upper (work (4 ∷ []) [] []))) ((0 ∷ 6 ∷ 0 ∷ []) ∷ [])
    ∷ case (told plan_shown (hold_of five_fields (onemore 7 right_counts) right_lower right_upper fitting_sizes)) ((0 ∷ 9 ∷ 0 ∷ []) ∷ [])
    -- 1 to 5 before 6 and 9; a caller's largest n
    ∷ row (refusal_number (hold_of (lent_square 1 (0 ∷ 0 ∷ []) []) right_counts (nines_in 0 0 0) right_upper fitting_sizes) ∷ []) (5 ∷ [])
    ∷ row
    (map (λ most. refusal_number (held most five_fields (record { counts = counts_from right_counts; stores = stores right_lower right_upper }) fitting_sizes)) (4 ∷ 5 ∷ []))
    (1 ∷ 0 ∷ [])
    -- count for count: each of eight differs
    ∷ row (flags (map (λ i. same_counts (counts_from right_counts) (counts_from (onemore i right_counts))) (0 ∷ 1 ∷ 2 ∷ 3 ∷ 4 ∷ 5 ∷ 6 ∷ 7 ∷ 8 ∷ [])))
    (0 ∷ 0 ∷ 0 ∷ 0 ∷ 0 ∷ 0 ∷ 0 ∷ 0 ∷ 1 ∷ [])
    -- told in their order
    ∷ row (count_numbers (counts_from (upto 8))) (1 ∷ 2 ∷ 3 ∷ 4 ∷ 5 ∷ 6 ∷ 7 ∷ 8 ∷ [])
    ∷ []
