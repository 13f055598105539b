-- The slots: which places of the square have one, and where it lies.
use Rattle.std.specs.Prelude.{Bool, cond, ◌&&◌, ◌||◌, List, ◌∷◌, map, ℕ, zero, suc, ◌+◌, ◌-◌, eqb, ltb, length}
use Rattle.lists.specs.Sets.{member, index_of, upto}
use Rattle.foundation.specs.Plan.{Planning, Side, lower, upper}
use Rattle.foundation.specs.Subscripts.{kept}

-- Document 01, "Free elimination": "The plan has a slot for place (i, j) if i = j, if j is larger than i and in U_i, or if i is larger than
-- j and in L_j." Said of any lists, and of the plan's.
unfoldable pub slot_in : (L U : ℕ → List ℕ) → ℕ → ℕ → Bool
slot_in L U i j = eqb i j || ((ltb i j && member j (U i)) || (ltb j i && member i (L j)))

unfoldable pub has_slot : Planning → ℕ → ℕ → Bool
unfolding slot_in
has_slot s i j = slot_in s.L s.U i j

-- Document 01, "Shared subscripts": "Value slots run list after list without sharing": how many slots the first k lists of a side have.
unfoldable pub slots_of : Planning → Side → ℕ → ℕ
slots_of s side zero = 0
slots_of s side (suc k) = slots_of s side k + length (kept s side (suc k))

-- The starts of the value slots as a store of n+1 places: the slots of step k lie from place k-1's number to place k's.
unfoldable pub slot_starts : Planning → Side → ℕ → List ℕ
slot_starts s side n = map (slots_of s side) (0 ∷ upto n)

-- "the diagonal has n slots of its own": three value stores, and a place in one of them
pub data Slot : Type 0 where
  none : Slot
  on_diagonal : ℕ → Slot
  in_side : Side → ℕ → Slot

-- Where the slot of place (i, j) lies: place i-1 of the diagonal's; or, of U, in row i's list, of L, in column j's.
unfoldable pub slot_at : Planning → ℕ → ℕ → Slot
slot_at s i j =
    cond (eqb i j) (on_diagonal (i - 1))
    (cond (ltb i j && member j (s.U i)) (in_side upper (slots_of s upper (i - 1) + index_of j (kept s upper i)))
    (cond (ltb j i && member i (s.L j)) (in_side lower (slots_of s lower (j - 1) + index_of i (kept s lower j))) none))
