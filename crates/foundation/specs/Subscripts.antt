-- Shared subscripts (CS-84-43, section 3.1): how the kept lists of a side lie in its subscript store.
use Rattle.std.specs.Prelude.{Bool, cond, not, List, [], ◌∷◌, ◌++◌, map, ℕ, zero, suc, ◌+◌, ◌-◌, eqb, ltb, length, take, drop}
use Rattle.lists.specs.Functions.{keep, update, empty}
use Rattle.lists.specs.Sets.{overlap, upto}
use Rattle.foundation.specs.Answer.{Answer, refused, granted}
use Rattle.foundation.specs.Plan.{Planning, Side, lower, upper, list}

-- Document 01, "Shared subscripts": "The kept list of L_k or U_k omits k and ascends".
unfoldable pub kept : Planning → Side → ℕ → List ℕ
kept s side k = keep (λ x. not (eqb x k)) (list s side k)

-- the one member of a list with one member, else 0, which is no step
unfoldable pub only : List ℕ → ℕ
only [] = 0
only (l ∷ []) = l
only (l ∷ (m ∷ ms)) = 0

-- Document 01: "if S_k is one step l and no row was first met at k": that l, else 0.
unfoldable pub sole_step : Planning → ℕ → ℕ
sole_step s k = cond (empty (s.first_met k)) (only (s.S k)) 0

-- a side's subscript store, and the start of each list, as far as the steps have come
pub record Shared : Type 0 where
  pub store : List ℕ
  pub start : ℕ → ℕ

-- Document 02, ticket 5: "t is the longest run for which the last t subscripts of the whole store equal the first t of the new list, whichever
-- list put them there".
unfoldable pub shared_end : Shared → List ℕ → ℕ
shared_end sh new = overlap sh.store new

-- The rule for step k, which is the step after `previous`. Document 01: "Empty list: its start is the store's end; nothing is added.
-- Else, if S_k is one step l and no row was first met at k: its start is l's start plus 1; nothing is added. Else, (..) The start is the
-- end less t; the rest is added." Document 02, ticket 5: "The two earlier cases of document 01 still come first."
unfoldable pub start_at : Planning → Side → Shared → ℕ → ℕ
start_at s side sh previous =
    let new = kept s side (suc previous) in
    let sole = sole_step s (suc previous) in
    cond (empty new) (length sh.store)
    (cond (ltb 0 sole) (sh.start sole + 1)
    (length sh.store - shared_end sh new))

unfoldable pub added_at : Planning → Side → Shared → ℕ → List ℕ
added_at s side sh previous =
    let new = kept s side (suc previous) in
    cond (empty new) []
    (cond (ltb 0 (sole_step s (suc previous))) []
    (drop (shared_end sh new) new))

-- a side's store and starts after step k
unfoldable pub shared : Planning → Side → ℕ → Shared
shared s side zero = record { store = []; start = λ k. 0 }
shared s side (suc previous) =
    let sh = shared s side previous in
    record {
      store = sh.store ++ added_at s side sh previous;
      start = update sh.start (suc previous) (start_at s side sh previous);
    }

-- how a start and a length open to a list
unfoldable pub opened : List ℕ → ℕ → ℕ → List ℕ
opened store start count = take count (drop start store)

-- The starts as a store of n places: place k-1 has the start of step k.
unfoldable pub starts_store : Planning → Side → ℕ → List ℕ
starts_store s side n = map (shared s side n).start (upto n)

-- ---- room

-- Table, 7: "an L subscript does not fit"; 8: "a U subscript does not fit". A store of `room` places is too short at step k.
unfoldable pub short : Planning → Side → ℕ → ℕ → Bool
short s side room k = ltb room (length (shared s side k).store)

-- "7 and 8 go step by step, L first": the first refusal from step k on, over `left` steps, or the plan.
unfoldable pub room_fault : Planning → ℕ → ℕ → ℕ → ℕ → Answer Planning
room_fault s room_l room_u k zero = granted s
room_fault s room_l room_u k (suc left) =
    let later = room_fault s room_l room_u (suc k) left in
    cond (short s lower room_l k) (refused 7 k) (cond (short s upper room_u k) (refused 8 k) later)
