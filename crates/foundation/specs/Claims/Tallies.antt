-- The claims about the tally of sixteen members (document 02, Ticket 10), of every call and every list of calls: each one proposition that can be read alone.
use Rattle.std.specs.Prelude.{List, ◌↔◌, ◌≡◌, ℕ, ◌+◌, ◌≤◌, ◌<◌, length}
use Rattle.foundation.specs.Answer.{refused, granted}
use Rattle.foundation.specs.Tally.{counter_of, empty_tally, max_tally, tally_answer, tally_after}
use Rattle.foundation.specs.TallyCalls.{TallyCall, after_calls, answered, given_for}

-- "On a record made with zeros and written by nothing else, after any calls each counter equals the sum of the updates given for its member in calls not refused": of every list of
-- calls, those that are refused among them.
unfoldable pub CountersAreSums : Type 0
CountersAreSums =
    (calls : List TallyCall) (member : ℕ) → 1 ≤ member → member ≤ 16
    → counter_of (after_calls empty_tally calls) member ≡ given_for member (answered empty_tally calls)

-- "The tally record becomes sixteen counters": after any calls there are sixteen, and none has passed 4,294,967,295.
unfoldable pub SixteenCounters : Type 0
SixteenCounters =
    (calls : List TallyCall)
    → (length (after_calls empty_tally calls) ≡ 16) × ((member : ℕ) → 1 ≤ member → member ≤ 16 → counter_of (after_calls empty_tally calls) member ≤ max_tally)

-- "a member number outside 1 to 16 is 27, before it": 27 just where there are sixteen counters and no such member, whatever the updates.
unfoldable pub OutsideMembers : Type 0
OutsideMembers =
    (counters : List ℕ) (member updates : ℕ)
    → (tally_answer counters member updates ≡ refused 27 0) ↔ ((length counters ≡ 16) × ((1 ≤ member) × (member ≤ 16) → ⊥))

-- "Refusal 19 looks at that counter alone": 19 just where there are sixteen counters and such a member, and the sum of its own counter and the updates would pass 4,294,967,295.
unfoldable pub FullCounters : Type 0
FullCounters =
    (counters : List ℕ) (member updates : ℕ)
    → (tally_answer counters member updates ≡ refused 19 0)
    ↔ ((length counters ≡ 16) × (1 ≤ member) × (member ≤ 16) × (max_tally < counter_of counters member + updates))

-- A lent store of another length is 6, and nothing else is (docs/DECISIONS.md, 91).
unfoldable pub OtherLengths : Type 0
OtherLengths =
    (counters : List ℕ) (member updates : ℕ) → (tally_answer counters member updates ≡ refused 6 0) ↔ (length counters ≡ 16 → ⊥)

-- "A finished run adds its updates to its own member's counter": else the answer is the sum of that counter and the updates.
unfoldable pub NewSums : Type 0
NewSums =
    (counters : List ℕ) (member updates sum : ℕ)
    → (tally_answer counters member updates ≡ granted sum)
    ↔ ((length counters ≡ 16) × (1 ≤ member) × (member ≤ 16) × (counter_of counters member + updates ≤ max_tally) × (sum ≡ counter_of counters member + updates))

-- Then that sum stands in the member's counter, there are sixteen counters as before, and "the other fifteen hold what they held".
unfoldable pub OwnCounterAlone : Type 0
OwnCounterAlone =
    (counters : List ℕ) (member updates sum : ℕ) → tally_answer counters member updates ≡ granted sum
    → (length (tally_after counters member updates) ≡ 16)
    × (counter_of (tally_after counters member updates) member ≡ sum)
    × ((other : ℕ) → 1 ≤ other → (other ≡ member → ⊥) → counter_of (tally_after counters member updates) other ≡ counter_of counters other)

-- "either leaves all sixteen as they were": so does every refusal, of a store of any length.
unfoldable pub RefusalKeeps : Type 0
RefusalKeeps =
    (counters : List ℕ) (member updates number step : ℕ) → tally_answer counters member updates ≡ refused number step
    → tally_after counters member updates ≡ counters
