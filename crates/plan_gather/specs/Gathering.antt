-- A list that grows by unions, at the front of a store.
use Rattle.std.specs.Prelude.{true, cond, not, List, [], ◌∷◌, ◌≡◌, ℕ, ◌≤◌, eqb, length, take}
use Rattle.lists.specs.Functions.{keep}
use Rattle.lists.specs.Sets.{member, Ascending}

-- a list without its own step k, which can only stand first
unfoldable pub without : ℕ → List ℕ → List ℕ
without k [] = []
without k (x ∷ xs) = cond (eqb x k) xs (x ∷ xs)

-- the members but k
unfoldable pub omit : ℕ → List ℕ → List ℕ
omit k xs = keep (λ x. not (eqb x k)) xs

-- an ascending list of numbers from `low` to `high`
pub record Within (low high : ℕ) (xs : List ℕ) : Type 0 where
  pub ascending : Ascending low xs
  pub bounded : (x : ℕ) → member x xs ≡ true → x ≤ high

-- a list has grown at the front of a store of so many places, n, which is the row count wherever it is cited
pub record GrownIn (n count : ℕ) (growing xs : List ℕ) : Type 0 where
  pub store_size : length growing ≡ n
  pub size : count ≡ length xs
  pub fits : count ≤ n
  pub is : take count growing ≡ xs
