-- What is claimed of the plan of every pattern that can be planned, and of its shared subscripts.
use Rattle.std.specs.Prelude.{true, ◌∷◌, ◌↔◌, ◌≡◌, ℕ, ◌+◌, ◌*◌, ◌≤◌, ◌<◌, length}
use Rattle.lists.specs.Functions.{total}
use Rattle.lists.specs.Sets.{member, Ascending, least_above, upto}
use Rattle.foundation.specs.Pattern.{Pattern}
use Rattle.foundation.specs.Plan.{Planning, Side, list}
use Rattle.foundation.specs.Subscripts.{kept, sole_step, shared, opened}
use Rattle.foundation.specs.Closed.{Closed}

-- A pattern that can be planned: what passing 1 to 5 gives. Document 01, "Pattern": columns are 1 to n, "strictly ascending in each row.
-- Every diagonal place is present." Document 02, ticket 9: "Rows above n need no diagonal and may be empty".
pub record Plannable (p : Pattern) : Type 0 where
  pub ascending : (i : ℕ) → 1 ≤ i → i ≤ p.height → Ascending 1 (p.row i)
  pub bounded : (i j : ℕ) → 1 ≤ i → i ≤ p.height → member j (p.row i) ≡ true → j ≤ p.n
  pub diagonal : (i : ℕ) → 1 ≤ i → i ≤ p.n → member i (p.row i) ≡ true
  pub tall : p.n ≤ p.height

-- how many entries a pattern has
unfoldable pub entries_of : Pattern → ℕ
entries_of p = total (λ i. length (p.row i)) (upto p.height)

-- the sizes of all L_k and U_k
unfoldable pub sizes_of : Pattern → Planning → ℕ
sizes_of p s = total (λ k. length (s.L k) + length (s.U k)) (upto p.n)

-- Members of L_k and U_k lie in k on and ascend strictly; k is in both; L_k, as far as n, lies in U_k; a row is among those first met at k exactly if k
-- is its least column (that it is met once, `Claims.MetOnce`); a step that joined S_k joined it as its r; where S_k is one step l and no row was first met at
-- k, l's kept lists are k and then k's kept lists; the lists are closed; "The reads never exceed 2 × entries plus the sizes of all L_k and U_k".
pub record PlanFacts (p : Pattern) (s : Planning) : Type 0 where
  pub ascending : (side : Side) (k : ℕ) → Ascending k (list s side k)
  pub lower_bounded : (k i : ℕ) → member i (s.L k) ≡ true → i ≤ p.height
  pub upper_bounded : (k j : ℕ) → member j (s.U k) ≡ true → j ≤ p.n
  pub own : (side : Side) (k : ℕ) → 1 ≤ k → k ≤ p.n → member k (list s side k) ≡ true
  pub lower_in_upper : (k i : ℕ) → member i (s.L k) ≡ true → i ≤ p.n → member i (s.U k) ≡ true
  pub first_met_lem :
      (k i : ℕ) → 1 ≤ k → k ≤ p.n → (member i (s.first_met k) ≡ true) ↔ ((1 ≤ i) × (i ≤ p.height) × (least_above 0 (p.row i) ≡ k))
  pub joins_one : (l k : ℕ) → 1 ≤ k → member l (s.S k) ≡ true → (1 ≤ l) × (l < k) × (least_above l (s.U l) ≡ k)
  pub sole : (side : Side) (k : ℕ) → 1 ≤ k → k ≤ p.n → 0 < sole_step s k → (sole_step s k < k) × (kept s side (sole_step s k) ≡ k ∷ kept s side k)
  pub closed : Closed p s.L s.U
  pub reads_bounded : s.reads ≤ 2 * entries_of p + sizes_of p s

-- Shared subscripts open to the kept lists: of each list, start and length lie in the side's store and read it out.
pub record Opens (s : Planning) (side : Side) (n : ℕ) : Type 0 where
  pub inside : (k : ℕ) → 1 ≤ k → k ≤ n → (shared s side n).start k + length (kept s side k) ≤ length (shared s side n).store
  pub reads_list :
      (k : ℕ) → 1 ≤ k → k ≤ n → opened (shared s side n).store ((shared s side n).start k) (length (kept s side k)) ≡ kept s side k
