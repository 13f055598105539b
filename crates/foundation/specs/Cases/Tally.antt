-- The tally of sixteen members.
use Rattle.std.specs.Prelude.{List, [], ◌∷◌, ◌++◌, map, ℕ, replicate}
use Rattle.foundation.specs.Answer.{Answer, refused, granted}
use Rattle.foundation.specs.Tally.{members, is_member, counter_of, empty_tally, max_tally, counter_answer, tally_answer, kept_counters, tally_after}
use Rattle.foundation.specs.TallyCalls.{TallyCall, after_calls, answered, given_by, given_for}
use Rattle.foundation.specs.Table.{Case, case, told, refusal, grant}
use Rattle.foundation.specs.Cases.Show.{flags, row, refusal_number}

-- what a granted answer shows: the new sum
abbrev pub sum_in : ℕ → List (List ℕ)
sum_in sum = (sum ∷ []) ∷ []

-- the answer of one counter
abbrev pub one : ℕ → ℕ → List (List ℕ)
one sum updates = told sum_in (counter_answer sum updates)

-- the answer to a call and the counters after it; how a row expects a refusal, and a new sum
abbrev pub adds : List ℕ → ℕ → ℕ → List (List ℕ)
adds counters member updates = told sum_in (tally_answer counters member updates) ++ tally_after counters member updates ∷ []

abbrev pub refuses : ℕ → List ℕ → List (List ℕ)
refuses number after = refusal number 0 ++ after ∷ []

abbrev pub grants : ℕ → List ℕ → List (List ℕ)
grants sum after = grant (sum_in sum) ++ after ∷ []

-- 101 for member 1 to 116 for member 16
abbrev pub many : List ℕ
many = 101 ∷ 102 ∷ 103 ∷ 104 ∷ 105 ∷ 106 ∷ 107 ∷ 108 ∷ 109 ∷ 110 ∷ 111 ∷ 112 ∷ 113 ∷ 114 ∷ 115 ∷ 116 ∷ []

-- member 2's counter five below the largest sum, the others at 5
abbrev pub nearly_full : List ℕ
nearly_full = 5 ∷ 4294967290 ∷ replicate 14 5

-- the first and the last counter at the largest sum, the others at 7
abbrev pub ends_full : List ℕ
ends_full = 4294967295 ∷ replicate 14 7 ++ 4294967295 ∷ []

abbrev pub call : ℕ → ℕ → TallyCall
call member updates = record { member = member; updates = updates }

-- calls of three members, with refusals of both kinds among them
abbrev pub mixed : List TallyCall
mixed = call 3 7 ∷ call 0 9 ∷ call 16 4294967295 ∷ call 3 5 ∷ call 16 1 ∷ call 17 2 ∷ call 1 8 ∷ call 16 0 ∷ call 3 4294967290 ∷ call 3 100 ∷ call 272 6 ∷ []

-- the refusals of a list of calls, 0 for a granted one; what they give for each member that is named
abbrev pub refusals : List ℕ → List TallyCall → List ℕ
refusals counters calls = map (λ q. refusal_number q.1) (answered counters calls)

abbrev pub given : List ℕ → List TallyCall → List ℕ → List ℕ
given counters calls named = map (λ m. given_for m (answered counters calls)) named

-- what an answer to a call for member 3 gives for members 2, 3 and 4
abbrev pub given_three : Answer ℕ → List ℕ
given_three answer = map (λ m. given_by m (call 3 8, answer)) (2 ∷ 3 ∷ 4 ∷ [])

unfoldable pub tally_cases : List Case
tally_cases =
    -- "sixteen counters, one a member numbered 1 to 16"
    row (members ∷ []) (16 ∷ [])
    ∷ row empty_tally (0 ∷ 0 ∷ 0 ∷ 0 ∷ 0 ∷ 0 ∷ 0 ∷ 0 ∷ 0 ∷ 0 ∷ 0 ∷ 0 ∷ 0 ∷ 0 ∷ 0 ∷ 0 ∷ [])
    ∷ row (flags (map is_member (0 ∷ 1 ∷ 2 ∷ 8 ∷ 15 ∷ 16 ∷ 17 ∷ 18 ∷ []))) (0 ∷ 1 ∷ 1 ∷ 1 ∷ 1 ∷ 1 ∷ 0 ∷ 0 ∷ [])
    -- nor numbers that would be 1 or 16 in 8, 16 or 32 bits
    ∷ row (flags (map is_member (257 ∷ 272 ∷ 65537 ∷ 65552 ∷ 4294967297 ∷ 4294967312 ∷ 18446744073709551615 ∷ []))) (0 ∷ 0 ∷ 0 ∷ 0 ∷ 0 ∷ 0 ∷ 0 ∷ [])
    -- each member's own: member 1's first
    ∷ row (map (counter_of many) (1 ∷ 2 ∷ 3 ∷ 4 ∷ 5 ∷ 6 ∷ 7 ∷ 8 ∷ 9 ∷ 10 ∷ 11 ∷ 12 ∷ 13 ∷ 14 ∷ 15 ∷ 16 ∷ [])) many
    -- 19: "the sum would pass 4,294,967,295": to it, and one past it, by the sum or by the updates
    ∷ row (max_tally ∷ []) (4294967295 ∷ [])
    ∷ case (one 0 0 ++ one 5 3 ++ one 4294967290 5) (grant (sum_in 0) ++ grant (sum_in 8) ++ grant (sum_in 4294967295))
    ∷ case (one 4294967290 6 ++ one 1 4294967295 ++ one 4294967296 0 ++ one 0 4294967296) (refusal 19 0 ++ refusal 19 0 ++ refusal 19 0 ++ refusal 19 0)
    -- "adds its updates to its own member's counter; the other fifteen hold what they held": the first, the last and one between
    ∷ case (adds empty_tally 1 4) (grants 4 (4 ∷ 0 ∷ 0 ∷ 0 ∷ 0 ∷ 0 ∷ 0 ∷ 0 ∷ 0 ∷ 0 ∷ 0 ∷ 0 ∷ 0 ∷ 0 ∷ 0 ∷ 0 ∷ []))
    ∷ case (adds empty_tally 16 4) (grants 4 (0 ∷ 0 ∷ 0 ∷ 0 ∷ 0 ∷ 0 ∷ 0 ∷ 0 ∷ 0 ∷ 0 ∷ 0 ∷ 0 ∷ 0 ∷ 0 ∷ 0 ∷ 4 ∷ []))
    ∷ case (adds many 7 3) (grants 110 (101 ∷ 102 ∷ 103 ∷ 104 ∷ 105 ∷ 106 ∷ 110 ∷ 108 ∷ 109 ∷ 110 ∷ 111 ∷ 112 ∷ 113 ∷ 114 ∷ 115 ∷ 116 ∷ []))
    ∷ case (adds many 2 900) (grants 1002 (101 ∷ 1002 ∷ 103 ∷ 104 ∷ 105 ∷ 106 ∷ 107 ∷ 108 ∷ 109 ∷ 110 ∷ 111 ∷ 112 ∷ 113 ∷ 114 ∷ 115 ∷ 116 ∷ []))
    ∷ case (adds many 15 1) (grants 116 (101 ∷ 102 ∷ 103 ∷ 104 ∷ 105 ∷ 106 ∷ 107 ∷ 108 ∷ 109 ∷ 110 ∷ 111 ∷ 112 ∷ 113 ∷ 114 ∷ 116 ∷ 116 ∷ []))
    ∷ case (adds many 16 0) (grants 116 many)
    -- "a member number outside 1 to 16 is 27", and "leaves all sixteen as they were"
    ∷ case (adds many 0 3) (refuses 27 many)
    ∷ case (adds many 17 3) (refuses 27 many)
    ∷ case (adds many 272 3) (refuses 27 many)
    ∷ case (adds many 65537 3) (refuses 27 many)
    ∷ case (adds many 18446744073709551615 0) (refuses 27 many)
    -- "before" 19: where the first or the last counter, and where every sum, would be full
    ∷ case (adds ends_full 0 1) (refuses 27 ends_full)
    ∷ case (adds ends_full 17 1) (refuses 27 ends_full)
    ∷ case (adds nearly_full 0 4294967296) (refuses 27 nearly_full)
    ∷ case (adds nearly_full 18446744073709551615 18446744073709551615) (refuses 27 nearly_full)
    -- "Refusal 19 looks at that counter alone", and "leaves all sixteen as they were": to the largest sum, one past it, and another member beside it
    ∷ case (adds nearly_full 2 5) (grants 4294967295 (5 ∷ 4294967295 ∷ replicate 14 5))
    ∷ case (adds nearly_full 2 6) (refuses 19 nearly_full)
    ∷ case (adds nearly_full 3 4294967290) (grants 4294967295 (5 ∷ 4294967290 ∷ 4294967295 ∷ replicate 13 5))
    ∷ case (adds nearly_full 1 4294967291) (refuses 19 nearly_full)
    ∷ case (adds empty_tally 5 4294967296) (refuses 19 empty_tally)
    ∷ case (adds ends_full 1 1) (refuses 19 ends_full)
    ∷ case (adds ends_full 16 1) (refuses 19 ends_full)
    ∷ case (adds ends_full 16 0) (grants 4294967295 ends_full)
    ∷ case (adds ends_full 2 1) (grants 8 (4294967295 ∷ 8 ∷ replicate 13 7 ++ 4294967295 ∷ []))
    ∷ case (adds (replicate 16 4294967295) 9 18446744073709551615) (refuses 19 (replicate 16 4294967295))
    -- a store of another length is 6, before 27 and 19, and stays as it was
    ∷ case (adds [] 1 0 ++ adds (8 ∷ []) 1 4) (refuses 6 [] ++ refuses 6 (8 ∷ []))
    ∷ case (adds (replicate 15 8) 3 4) (refuses 6 (replicate 15 8))
    ∷ case (adds (replicate 17 8) 3 4) (refuses 6 (replicate 17 8))
    ∷ case (adds (replicate 15 8) 17 4) (refuses 6 (replicate 15 8))
    ∷ case (adds (replicate 17 8) 3 4294967295) (refuses 6 (replicate 17 8))
    -- the counters after an answer
    ∷ row (kept_counters many 16 (granted 3)) (101 ∷ 102 ∷ 103 ∷ 104 ∷ 105 ∷ 106 ∷ 107 ∷ 108 ∷ 109 ∷ 110 ∷ 111 ∷ 112 ∷ 113 ∷ 114 ∷ 115 ∷ 3 ∷ [])
    ∷ row (kept_counters many 16 (refused 19 0)) many
    -- "after any calls each counter equals the sum of the updates given for its member in calls not refused"
    ∷ row (after_calls empty_tally mixed) (8 ∷ 0 ∷ 112 ∷ 0 ∷ 0 ∷ 0 ∷ 0 ∷ 0 ∷ 0 ∷ 0 ∷ 0 ∷ 0 ∷ 0 ∷ 0 ∷ 0 ∷ 4294967295 ∷ [])
    ∷ row (refusals empty_tally mixed) (0 ∷ 27 ∷ 0 ∷ 0 ∷ 19 ∷ 27 ∷ 0 ∷ 0 ∷ 19 ∷ 0 ∷ 27 ∷ [])
    ∷ row (given empty_tally mixed (1 ∷ 2 ∷ 3 ∷ 4 ∷ 15 ∷ 16 ∷ [])) (8 ∷ 0 ∷ 112 ∷ 0 ∷ 0 ∷ 4294967295 ∷ [])
    ∷ case (map given_three (granted 20 ∷ refused 19 0 ∷ refused 27 0 ∷ refused 6 0 ∷ [])) ((0 ∷ 8 ∷ 0 ∷ []) ∷ replicate 3 (0 ∷ 0 ∷ 0 ∷ []))
    -- from a record that holds sums already, and with no calls at all
    ∷ case (after_calls nearly_full (call 2 5 ∷ call 2 1 ∷ call 1 1 ∷ []) ∷ given nearly_full (call 2 5 ∷ call 2 1 ∷ call 1 1 ∷ []) (1 ∷ 2 ∷ 3 ∷ []) ∷ [])
    ((6 ∷ 4294967295 ∷ replicate 14 5) ∷ (1 ∷ 5 ∷ 0 ∷ []) ∷ [])
    ∷ case (after_calls many [] ∷ given many [] (1 ∷ 16 ∷ []) ∷ []) (many ∷ (0 ∷ 0 ∷ []) ∷ [])
    ∷ []
