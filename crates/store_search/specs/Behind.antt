-- How a second list lies to a first.
use Rattle.std.specs.Prelude.{List, ◌∷◌, ◌++◌, ◌≡◌, ℕ, ◌≤◌, length, drop, Option, Some, None}
use Rattle.lists.specs.Sets.{union, Ascending}

-- in a list a member stands somewhere, and behind it the rest
abbrev pub BehindMember : List ℕ → ℕ → List ℕ → Type 0
BehindMember list x rest = (front : List ℕ) × (list ≡ front ++ x ∷ rest)

-- from a place on the second list stands behind the first
abbrev pub BehindAs : Option ℕ → List ℕ → List ℕ → Type 0
BehindAs (Some at) have more = (at ≤ length more) × ((low : ℕ) → Ascending low have → union have more ≡ have ++ drop at more)
BehindAs None have more = Unit
