-- Step k shares the list of the one step l that was handed on to it: l's list without its first subscript, which is k.
use Rattle.std.specs.Prelude.{cond, Bool, ◌&&◌, List, ℕ, ◌+◌, ◌-◌, ◌≤◌, ◌<◌, eqb, length, get_or}
use Rattle.lists.specs.Functions.{span}

-- the place of l's list can be read, and that of k's noted
pub record SoleReady (k l : ℕ) (starts slots : List ℕ) : Type 0 where
  pub low : 1 ≤ l
  pub before : l < k
  pub starts_size : k ≤ length starts
  pub slots_size : k < length slots
  pub rising : get_or slots (l - 1) 0 < get_or slots l 0
  pub small : get_or slots (k - 1) 0 + span slots l < 4294967296
  pub small_start : get_or starts (l - 1) 0 < 4294967296

-- where k's list starts: at the store's end if it is empty, else one behind l's
unfoldable pub sole_start : ℕ → List ℕ → List ℕ → ℕ → ℕ
sole_start l starts slots end = cond (eqb (span slots l) 1) end (get_or starts (l - 1) 0 + 1)

-- where its slots end
unfoldable pub sole_slots : ℕ → ℕ → List ℕ → ℕ
sole_slots k l slots = get_or slots (k - 1) 0 + (span slots l - 1)

-- the start and the end of the slots of k's list stand where they should
unfoldable pub sole_followed : ℕ → ℕ → List ℕ → List ℕ → ℕ → Bool
sole_followed k l starts slots end = eqb (get_or slots k 0) (sole_slots k l slots) && eqb (get_or starts (k - 1) 0) (sole_start l starts slots end)
