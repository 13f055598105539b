-- Stores that are cleared.
use Rattle.std.specs.Prelude.{List, ◌≡◌, ℕ, length, replicate}

-- a store is zero throughout, as long as it was
abbrev pub Zeros : List ℕ → List ℕ → Type 0
Zeros was now = now ≡ replicate (length was) 0
