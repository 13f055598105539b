-- Finite sets of numbers, written as strictly ascending lists.
use Rattle.std.specs.Prelude.{Bool, true, false, cond, ◌&&◌, ◌||◌, List, [], ◌∷◌, ℕ, zero, suc, ◌-◌, ◌≤◌, ◌<◌, eqb, ltb, leb, length}
use Rattle.lists.specs.Functions.{keep}

-- whether x is among the members
unfoldable pub member : ℕ → List ℕ → Bool
member x [] = false
member x (y ∷ ys) = eqb x y || member x ys

-- strictly ascending, with no member below `low`
unfoldable pub Ascending : ℕ → List ℕ → Type 0
Ascending low [] = Unit
Ascending low (x ∷ xs) = (low ≤ x) × Ascending (suc x) xs

-- strictly falling, with every member below `high`: lists that are kept as chains, the newest first
unfoldable pub Falling : ℕ → List ℕ → Type 0
Falling high [] = Unit
Falling high (x ∷ xs) = (x < high) × Falling x xs

-- the numbers from a on, as many as `count`
unfoldable pub run : ℕ → ℕ → List ℕ
run a zero = []
run a (suc count) = a ∷ run (suc a) count

-- the numbers 1 to n
unfoldable pub upto : ℕ → List ℕ
upto n = run 1 n

-- the numbers a to b
unfoldable pub between : ℕ → ℕ → List ℕ
between a b = run a (suc b - a)

-- one member of the first list, x, and what `rest` makes of the second list, merged with the second list
unfoldable pub merge_one : ℕ → (List ℕ → List ℕ) → List ℕ → List ℕ
merge_one x rest [] = x ∷ rest []
merge_one x rest (y ∷ ys) =
    let mine = x ∷ rest (y ∷ ys) in
    let both = x ∷ rest ys in
    let theirs = y ∷ merge_one x rest ys in
    cond (ltb x y) mine (cond (eqb x y) both theirs)

-- the union of two sets: the merge of their lists, a common member once
unfoldable pub union : List ℕ → List ℕ → List ℕ
union [] ys = ys
union (x ∷ xs) ys = merge_one x (union xs) ys

-- a set, and the sets of all members of a list joined to it, one after the other
unfoldable pub join_all : (ℕ → List ℕ) → List ℕ → List ℕ → List ℕ
join_all part joined [] = joined
join_all part joined (x ∷ xs) = join_all part (union joined (part x)) xs

-- the members that are k or more
unfoldable pub from : ℕ → List ℕ → List ℕ
from k xs = keep (leb k) xs

-- the first member, 0 where there is none
unfoldable pub first : List ℕ → ℕ
first [] = 0
first (x ∷ xs) = x

-- the least member above k, 0 where there is none
unfoldable pub least_above : ℕ → List ℕ → ℕ
least_above k xs = first (keep (ltb k) xs)

-- the place of x among the members, from 0
unfoldable pub index_of : ℕ → List ℕ → ℕ
index_of x [] = 0
index_of x (y ∷ ys) = cond (eqb x y) 0 (suc (index_of x ys))

-- whether the first list is how the second begins
unfoldable pub begins : List ℕ → List ℕ → Bool
begins [] ys = true
begins (x ∷ xs) [] = false
begins (x ∷ xs) (y ∷ ys) = eqb x y && begins xs ys

-- the largest t for which the last t of the first list are the first t of the second
unfoldable pub overlap : List ℕ → List ℕ → ℕ
overlap [] ys = 0
overlap (x ∷ xs) ys = cond (begins (x ∷ xs) ys) (suc (length xs)) (overlap xs ys)
