-- A function of the numbers changed at one place, and small functions on lists.
use Rattle.std.specs.Prelude.{Bool, true, false, cond, ◌&&◌, ◌||◌, List, [], ◌∷◌, ◌++◌, ℕ, ◌+◌, ◌-◌, eqb, length, replicate, get_or}

module _ {ℓ} {A : Type ℓ} where
  -- f, but v at k
  unfoldable pub update : (ℕ → A) → ℕ → A → ℕ → A
  update f k v j = cond (eqb j k) v (f j)

  -- the members that pass the test, in order
  unfoldable pub keep : (A → Bool) → List A → List A
  keep test [] = []
  keep test (x ∷ xs) = cond (test x) (x ∷ keep test xs) (keep test xs)

  -- every member passes the test
  unfoldable pub all : (A → Bool) → List A → Bool
  all test [] = true
  all test (x ∷ xs) = test x && all test xs

  -- some member passes the test
  unfoldable pub some : (A → Bool) → List A → Bool
  some test [] = false
  some test (x ∷ xs) = test x || some test xs

  -- whether a list has no member
  unfoldable pub empty : List A → Bool
  empty [] = true
  empty (x ∷ xs) = false

  -- the sum of a number for each member
  unfoldable pub total : (A → ℕ) → List A → ℕ
  total size [] = 0
  total size (x ∷ xs) = size x + total size xs

  -- the lists of all members, one behind the other
  unfoldable pub chain {κ} : {B : Type κ} → (A → List B) → List A → List B
  chain part [] = []
  chain part (x ∷ xs) = part x ++ chain part xs

  -- a list filled up with one value to a given length
  unfoldable pub padded : A → ℕ → List A → List A
  padded blank room xs = xs ++ replicate (room - length xs) blank

-- whether two lists of numbers are the same
unfoldable pub same : List ℕ → List ℕ → Bool
same [] [] = true
same [] (y ∷ ys) = false
same (x ∷ xs) [] = false
same (x ∷ xs) (y ∷ ys) = eqb x y && same xs ys

-- how many places lie from one start to the next: list i by a store of starts
abbrev pub span : List ℕ → ℕ → ℕ
span starts i = get_or starts i 0 - get_or starts (i - 1) 0
