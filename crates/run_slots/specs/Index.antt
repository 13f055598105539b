-- The plan as a run reads it: index stores that are the plan's, and what the steps need to know of its lists.
use Rattle.std.specs.Prelude.{true, ◌≡◌, ℕ, suc, ◌+◌, ◌-◌, ◌≤◌, length, get_or, take, drop}
use Rattle.lists.specs.Sets.{member, Ascending}
use Rattle.foundation.specs.Closed.{Closed}
use Rattle.foundation.specs.Pattern.{Pattern}
use Rattle.foundation.specs.PlanCall.{SideStores, PlanStores}
use Rattle.foundation.specs.Plan.{Planning, Side, lower, upper}
use Rattle.foundation.specs.Slots.{slot_in, slots_of}
use Rattle.foundation.specs.Subscripts.{kept}

-- The index stores of a side are the plan's: where each list's slots start, and where it opens among the subscripts.
pub record Indexed (s : Planning) (side : Side) (n : ℕ) (i : SideStores) : Type 0 where
  pub places : length i.slot_starts ≡ n + 1
  pub started : length i.starts ≡ n
  pub slot : (k : ℕ) → k ≤ n → get_or i.slot_starts k 0 ≡ slots_of s side k
  pub inside : (k : ℕ) → 1 ≤ k → k ≤ n → get_or i.starts (k - 1) 0 + length (kept s side k) ≤ length i.subs
  pub opens : (k : ℕ) → 1 ≤ k → k ≤ n → take (length (kept s side k)) (drop (get_or i.starts (k - 1) 0) i.subs) ≡ kept s side k
  pub ascends : (k : ℕ) → Ascending (k + 1) (kept s side k)

-- the last number that a list of a side may have: L's members are rows, U's are columns
unfoldable pub limit : (n height : ℕ) → Side → ℕ
limit n height lower = height
limit n height upper = n

-- Kept lists ascend from behind their own step and end at the last row or column at the latest; L_k's and U_k's members meet in slots; L_k, as far as n, lies in U_k.
pub record Grid (s : Planning) (n height : ℕ) : Type 0 where
  pub ascends : (side : Side) (k : ℕ) → Ascending (suc k) (kept s side k)
  pub bounded : (side : Side) (k x : ℕ) → member x (kept s side k) ≡ true → x ≤ limit n height side
  pub meets : (k i j : ℕ) → member i (kept s lower k) ≡ true → member j (kept s upper k) ≡ true → slot_in s.L s.U i j ≡ true
  pub lower_in_upper : (k i : ℕ) → member i (kept s lower k) ≡ true → i ≤ n → member i (kept s upper k) ≡ true

-- Both sides' index stores are those of a plan, whose lists are closed for its pattern of n columns.
pub record Layout (p : Pattern) (s : Planning) (n : ℕ) (q : PlanStores) : Type 0 where
  pub width : p.n ≡ n
  pub tall : n ≤ p.height
  pub rows_few : p.height ≤ 2048
  pub some : 1 ≤ n
  pub few : n ≤ 1024
  pub lowers : Indexed s lower n q.lower_side
  pub uppers : Indexed s upper n q.upper_side
  pub grid : Grid s n p.height
  pub closed : Closed p s.L s.U
