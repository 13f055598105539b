-- Lists that are closed for a pattern, and steps on sets of places: what the theorem that the slots suffice speaks of. Nothing here says
-- how the lists were made, nor which numbers stand in the places.
use Rattle.std.specs.Prelude.{Bool, true, not, List, ◌⊎◌, ◌≡◌, ℕ, ◌≤◌, ◌<◌}
use Rattle.lists.specs.Sets.{member, least_above}
use Rattle.foundation.specs.Pattern.{Pattern, present}
use Rattle.foundation.specs.Slots.{slot_in}
use Rattle.foundation.specs.Square.{Square}

-- L_k lies in k to the last row, U_k in k to n. Each row and its columns lie in the lists of its least column. Where L_k and U_k both have
-- further members, all of them lie in the lists of r, the least further member of U_k.
pub record Closed (p : Pattern) (L U : ℕ → List ℕ) : Type 0 where
  pub lower_range : (k i : ℕ) → member i (L k) ≡ true → (k ≤ i) × (i ≤ p.height)
  pub upper_range : (k j : ℕ) → member j (U k) ≡ true → (k ≤ j) × (j ≤ p.n)
  pub row_in_lower : (i j : ℕ) → present p i j ≡ true → member i (L (least_above 0 (p.row i))) ≡ true
  pub row_in_upper : (i j : ℕ) → present p i j ≡ true → member j (U (least_above 0 (p.row i))) ≡ true
  pub handed_lower : (k i j : ℕ) → member i (L k) ≡ true → k < i → member j (U k) ≡ true → k < j → member i (L (least_above k (U k))) ≡ true
  pub handed_upper : (k i j : ℕ) → member i (L k) ≡ true → k < i → member j (U k) ≡ true → k < j → member j (U (least_above k (U k))) ≡ true

-- The places that matter, by row and column: the nonzero ones, or those whose bits are not +0's.
abbrev pub Places : Type 0
Places = ℕ → ℕ → Bool

-- The rows that step k involves: k, and every row below it with an occupied place in column k. (Report, section 2: the candidate pivot rows.)
abbrev pub Involved : ℕ → Places → ℕ → Type 0
Involved k occupied i = (i ≡ k) ⊎ ((k < i) × (occupied i k ≡ true))

-- A step on places. Columns before k and rows that are not involved stay; in an involved row a place right of k is occupied only if that
-- column was occupied in some involved row; in column k no place below k becomes occupied that was not.
pub record StepOn (k : ℕ) (before now : Places) : Type 0 where
  pub earlier : (i j : ℕ) → j < k → now i j ≡ before i j
  pub others : (i j : ℕ) → (Involved k before i → ⊥) → now i j ≡ before i j
  pub within : (i j : ℕ) → Involved k before i → k < j → now i j ≡ true → (h : ℕ) × Involved k before h × (before h j ≡ true)
  pub pivotal : (i : ℕ) → k < i → now i k ≡ true → before i k ≡ true

-- ---- the invariant, which the theorem is proved by and a run in floats carries

-- Row i before step k: empty from column k on, or with a list that has the row, and every column in which it is occupied from k on.
abbrev pub Ahead : (L U : ℕ → List ℕ) → ℕ → Places → ℕ → Type 0
Ahead L U k occupied i =
    ((j : ℕ) → k ≤ j → occupied i j ≡ true → ⊥)
    ⊎ ((q : ℕ) × (k ≤ q) × (q ≤ i) × (member i (L q) ≡ true) × ((j : ℕ) → k ≤ j → occupied i j ≡ true → member j (U q) ≡ true))

-- The invariant before step k: each row from k on is as Ahead says, and what is occupied above row k or left of column k has a slot.
pub record Held (p : Pattern) (L U : ℕ → List ℕ) (k : ℕ) (occupied : Places) : Type 0 where
  pub ahead : (i : ℕ) → k ≤ i → Ahead L U k occupied i
  pub done : (i j : ℕ) → occupied i j ≡ true → (i < k) ⊎ (j < k) → slot_in L U i j ≡ true

-- The places of a square that are not blank: what a run in floats or a free elimination occupies.
abbrev pub marked {ℓ} : {A : Type ℓ} → (A → Bool) → Square A → Places
marked blank square i j = not (blank (square i j))
