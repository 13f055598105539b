-- Tables of computed cases: what their rows show, and when they hold. The four fields of document 01.
use Rattle.std.specs.Prelude.{Bool, true, false, ◌&&◌, List, [], ◌∷◌, ◌≡◌, ℕ}
use Rattle.lists.specs.Functions.{all, same}
use Rattle.foundation.specs.Answer.{Answer, refused, granted}
use Rattle.foundation.specs.Pattern.{Lent, lent_square}

-- "Four fields; rows {1,3}, {2,4}, {1,3}, {2,3,4}; values (2,1), (1,1), (4,4), (2,1,4); right side 3, 2, 8, 7."
unfoldable pub four_fields : Lent
four_fields = lent_square 4 (0 ∷ 2 ∷ 4 ∷ 6 ∷ 9 ∷ []) (1 ∷ 3 ∷ 2 ∷ 4 ∷ 1 ∷ 3 ∷ 2 ∷ 3 ∷ 4 ∷ [])

-- 0 and the number and step of a refusal, or 1 and what was granted
unfoldable pub told : {A : Type 0} → (A → List (List ℕ)) → Answer A → List (List ℕ)
told show (refused number step) = (0 ∷ number ∷ step ∷ []) ∷ []
told show (granted a) = (1 ∷ []) ∷ show a

-- how a row expects a refusal, and what was granted
unfoldable pub refusal : ℕ → ℕ → List (List ℕ)
refusal number step = (0 ∷ number ∷ step ∷ []) ∷ []

unfoldable pub grant : List (List ℕ) → List (List ℕ)
grant shown = (1 ∷ []) ∷ shown

-- whether two lists of lists are the same
unfoldable pub same_lists : List (List ℕ) → List (List ℕ) → Bool
same_lists [] [] = true
same_lists [] (y ∷ ys) = false
same_lists (x ∷ xs) [] = false
same_lists (x ∷ xs) (y ∷ ys) = same x y && same_lists xs ys

pub record Case : Type 0 where
  pub found : List (List ℕ)
  pub expected : List (List ℕ)

unfoldable pub case : List (List ℕ) → List (List ℕ) → Case
case found expected = record { found = found; expected = expected }

-- whether what was found is what should be
unfoldable pub matches : Case → Bool
matches c = same_lists c.found c.expected

-- every row of a table shows what it should: one proposition
unfoldable pub Holds : List Case → Type 0
Holds table = all matches table ≡ true
