-- Calls on the tally, one after the other, and what they give for a member (document 02, Ticket 10).
use Rattle.std.specs.Prelude.{cond, List, [], ◌∷◌, ℕ, eqb}
use Rattle.lists.specs.Functions.{total}
use Rattle.foundation.specs.Answer.{Answer, refused, granted}
use Rattle.foundation.specs.Tally.{tally_answer, tally_after}

-- a call: the member, and the updates that are given for it
pub record TallyCall : Type 0 where
  pub member : ℕ
  pub updates : ℕ

-- the counters after the calls, "written by nothing else"
unfoldable pub after_calls : List ℕ → List TallyCall → List ℕ
after_calls counters [] = counters
after_calls counters (c ∷ cs) = after_calls (tally_after counters c.member c.updates) cs

-- each of the calls with its answer
unfoldable pub answered : List ℕ → List TallyCall → List (TallyCall × Answer ℕ)
answered counters [] = []
answered counters (c ∷ cs) = (c, tally_answer counters c.member c.updates) ∷ answered (tally_after counters c.member c.updates) cs

-- what a call gives for a member: its updates where it is for that member and "not refused", else nothing
unfoldable pub given_by : ℕ → TallyCall × Answer ℕ → ℕ
given_by member (c, refused number step) = 0
given_by member (c, granted sum) = cond (eqb c.member member) c.updates 0

-- "the sum of the updates given for its member in calls not refused"
unfoldable pub given_for : ℕ → List (TallyCall × Answer ℕ) → ℕ
given_for member calls = total (given_by member) calls
