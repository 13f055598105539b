-- Stretches of numbers: what the inner loops of a step make of them.
use Rattle.std.specs.Prelude.{true, List, [], ◌∷◌, map, ◌≡◌, ℕ, ◌≤◌, ◌<◌, Float, get_or}
use Rattle.std.specs.Float.{nan}
use Rattle.lists.specs.Sets.{member}
use Rattle.foundation.specs.Reference.{reduced}

-- A stretch once m times another one is taken off it, place by place. Document 01, "Elimination": "the place becomes place - m × u".
unfoldable pub reduced_all : Float → List Float → List Float → List Float
reduced_all m (u ∷ us) (y ∷ ys) = reduced m u y ∷ reduced_all m us ys
reduced_all m [] ys = ys
reduced_all m (u ∷ us) [] = []

-- what the subscripts find in a work store that has a place for each number, place 0 unused
unfoldable pub gathered : List Float → List ℕ → List Float
gathered dense subs = map (λ x. get_or dense x nan) subs

-- every subscript has its place in a store of so much room
unfoldable pub Below : ℕ → List ℕ → Type 0
Below room subs = (x : ℕ) → member x subs ≡ true → x < room

-- the first s members are no greater than i
unfoldable pub UpTo : ℕ → ℕ → List ℕ → Type 0
UpTo i s list = (t : ℕ) → t < s → get_or list t 0 ≤ i
