-- Stores as they are printed.
use Rattle.std.specs.Prelude.{ℕ, ◌∷◌, List, flat_map}

-- the digits of every place, a blank before each
abbrev pub behind_blanks : {T : Type 0} → (ℕ → List ℕ) → (T → ℕ) → List T → List ℕ
behind_blanks digits bits places = flat_map (λ place. 32 ∷ digits (bits place)) places
