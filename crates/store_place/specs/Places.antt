-- Where list k of a side lies, by the numbers in its stores of starts.
use Rattle.std.specs.Prelude.{List, ◌≡◌, ℕ, ◌+◌, ◌-◌, ◌≤◌, ◌<◌, length, get_or}
use Rattle.std.specs.Int.{w64}
use Rattle.std.proofs.Common.{Fits}
use Rattle.lists.specs.Functions.{span}

-- The two stores of starts have their places for list k, whose slots do not end before they begin.
pub record ListAsks (starts slots : List ℕ) (k : ℕ) : Type 0 where
  pub low : 1 ≤ k
  pub in_slots : k < length slots
  pub in_starts : k - 1 < length starts
  pub rises : get_or slots (k - 1) 0 ≤ get_or slots k 0
  pub fits : Fits w64 (get_or starts (k - 1) 0 + span slots k)

-- Document 01, "Shared subscripts": a list stands among the subscripts from its start on; "Value slots run list after list without sharing".
pub record ListAt (starts slots : List ℕ) (k from to slot next : ℕ) : Type 0 where
  pub from_is : from ≡ get_or starts (k - 1) 0
  pub to_is : to ≡ get_or starts (k - 1) 0 + span slots k
  pub slot_is : slot ≡ get_or slots (k - 1) 0
  pub next_is : next ≡ get_or slots k 0
