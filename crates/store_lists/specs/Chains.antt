-- Lists kept as chains: a store of first members, and a store that has behind each member the next one, 0 at a chain's end.
use Rattle.std.specs.Prelude.{true, List, [], ◌∷◌, ◌≡◌, ℕ, suc, ◌+◌, ◌-◌, ◌≤◌, ◌<◌, length, get_or}
use Rattle.std.specs.Coded.{Coded-set, coded_ℕ, le_prop}
use mathlib.Core.HLevel.{Σ_prop_path}
use mathlib.Core.Path.{refl, sym, ◌∙◌}
use native.Mathlib.Omega.{arith}
use Rattle.lists.specs.Functions.{total, span}
use Rattle.lists.specs.Sets.{member, Ascending, Falling}

-- from x on, the links lead through the members of a list
unfoldable pub Linked : List ℕ → ℕ → List ℕ → Type 0
Linked links x [] = x ≡ 0
Linked links x (y ∷ ys) = (x ≡ y) × (0 < y) × (y < length links) × Linked links (get_or links y 0) ys

-- they tell the list
pub linked_unique : (links : List ℕ) (x : ℕ) (xs ys : List ℕ) → Linked links x xs → Linked links x ys → xs ≡ ys
unfolding Linked
linked_unique links x [] [] h k = refl
linked_unique links x [] (y ∷ ys) h k = absurd (omega arith)
linked_unique links x (y ∷ ys) [] h k = absurd (omega arith)
linked_unique links x (y ∷ ys) (z ∷ zs) h k =
    let q : z ≡ y = sym k.0 ∙ h.0 in
    let rest : ys ≡ zs = linked_unique links (get_or links y 0) ys zs h.3 (rw q at k.3) in
    cc

-- in one way
linked_once : (links : List ℕ) (x : ℕ) (xs : List ℕ) → IsProp (Linked links x xs)
unfolding Linked
linked_once links x [] a b = Coded-set coded_ℕ x 0 a b
linked_once links x (y ∷ ys) a b =
    λ i. (Coded-set coded_ℕ x y a.0 b.0 i, le_prop a.1 b.1 i, le_prop a.2 b.2 i, linked_once links (get_or links y 0) ys a.3 b.3 i)

pub chain-unique : (links : List ℕ) (x : ℕ) → IsProp ((xs : List ℕ) × Linked links x xs)
chain-unique links x a b = Σ_prop_path (linked_once links x) (linked_unique links x a.0 b.0 a.1 b.1)

-- the chains of 1 to n are these lists, in stores that have a place for each number up to `last`
pub record Chained (heads links : List ℕ) (last n : ℕ) (lists : ℕ → List ℕ) : Type 0 where
  pub heads_size : length heads ≡ suc last
  pub links_size : length links ≡ suc last
  pub within : n ≤ last
  pub chain_at : (k : ℕ) → 1 ≤ k → k ≤ n → Linked links (get_or heads k 0) (lists k)

-- what a function gives at the members of a chain is their sizes
pub record Sized (post : ℕ → ℕ → Type 0) (links : List ℕ) (first : ℕ) (size : ℕ → ℕ) (all : List ℕ) : Type 0 where
  pub linked : Linked links first all
  pub gives : (x r : ℕ) → member x all ≡ true → post x r → r ≡ size x

-- and it may be called at each, and the sizes add up within bounds
pub record AddsUp (pre : ℕ → Type 0) (post : ℕ → ℕ → Type 0) (links : List ℕ) (first : ℕ) (size : ℕ → ℕ) (all : List ℕ) : Type 0 where
  pub sized : Sized post links first size all
  pub callable : (x : ℕ) → member x all ≡ true → pre x
  pub small : total size all < 4294967296

-- how many members the lists L_l and U_l have by the starts of their slots, l itself included
abbrev pub both_spans : List ℕ → List ℕ → ℕ → ℕ
both_spans lowers uppers l = span lowers l + 1 + (span uppers l + 1)

-- what walking a chain of rows may take for granted
pub record RowsWalk (links : List ℕ) (first : ℕ) (starts rows : List ℕ) : Type 0 where
  pub linked : Linked links first rows
  pub ascending : Ascending 1 rows
  pub inside : (i : ℕ) → member i rows ≡ true → (i < length starts) × (get_or starts (i - 1) 0 ≤ get_or starts i 0)
  pub small : total (span starts) rows < 4294967296

-- what walking a chain of steps may take for granted
pub record StepsWalk (links : List ℕ) (first : ℕ) (lowers uppers steps : List ℕ) : Type 0 where
  pub linked : Linked links first steps
  pub falling : Falling (length links) steps
  pub inside : (l : ℕ) → member l steps ≡ true → (l < length lowers) × (l < length uppers)
  pub rising : (l : ℕ) → member l steps ≡ true → (get_or lowers (l - 1) 0 ≤ get_or lowers l 0) × (get_or uppers (l - 1) 0 ≤ get_or uppers l 0)
  pub small : total (both_spans lowers uppers) steps < 4294967296
