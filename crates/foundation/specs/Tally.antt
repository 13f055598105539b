-- The tally of updates (document 01, "Elimination": "one tally record stays with the caller and each finished run adds to it"), with a counter for each member (document 02,
-- Ticket 10, "A tally for each observatory"): a member is an observatory, by its number.
use Rattle.std.specs.Prelude.{Bool, not, ◌&&◌, List, ℕ, ◌+◌, ◌-◌, eqb, leb, ltb, length, get_or, set, replicate}
use Rattle.foundation.specs.Answer.{Answer, refused, granted, refuse_if}

-- "The tally record becomes sixteen counters, one a member numbered 1 to 16."
abbrev pub members : ℕ
members = 16

-- whether a number is a member's
unfoldable pub is_member : ℕ → Bool
is_member member = leb 1 member && leb member members

-- a member's counter: members count from 1, places from 0 (0, which is no member, is refused before its counter is looked at)
unfoldable pub counter_of : List ℕ → ℕ → ℕ
counter_of counters member = get_or counters (member - 1) 0

-- "a record made with zeros"
unfoldable pub empty_tally : List ℕ
empty_tally = replicate members 0

-- Document 01, table, 19: "the sum would pass 4,294,967,295".
unfoldable pub max_tally : ℕ
max_tally = 4294967295

-- the answer of one counter to `updates` more: the new sum, or 19
unfoldable pub counter_answer : ℕ → ℕ → Answer ℕ
counter_answer sum updates = refuse_if (ltb max_tally (sum + updates)) 19 (granted (sum + updates))

-- The answer to a call. A lent store of another length than sixteen is 6, before the others (docs/DECISIONS.md, 91); "a member number outside 1 to 16 is 27, before" 19, which
-- "looks at that counter alone".
unfoldable pub tally_answer : List ℕ → ℕ → ℕ → Answer ℕ
tally_answer counters member updates =
    refuse_if (not (eqb (length counters) members)) 6
    (refuse_if (not (is_member member)) 27
    (counter_answer (counter_of counters member) updates))

-- All counters after an answer: a refusal "leaves all sixteen as they were"; else the member's has its new sum, and "the other fifteen hold what they held".
unfoldable pub kept_counters : List ℕ → ℕ → Answer ℕ → List ℕ
kept_counters counters member (refused number step) = counters
kept_counters counters member (granted sum) = set counters (member - 1) sum

-- the counters that the record holds after a call
unfoldable pub tally_after : List ℕ → ℕ → ℕ → List ℕ
tally_after counters member updates = kept_counters counters member (tally_answer counters member updates)
