-- The numbers that decide refusal 10 (`lending_fits`).
use Rattle.std.specs.Prelude.{◌≡◌, ℕ, length}
use Rattle.foundation.specs.Pattern.{Lent}
use Rattle.foundation.specs.Plan.{Planning, lower, upper}
use Rattle.foundation.specs.RunCall.{Lending}
use Rattle.foundation.specs.Slots.{slots_of}

-- the sizes of a pattern, of what is lent with it and of its plan
pub record Sizes (p : Lent) (s : Planning) (w : Lending) (n height entries values right solution pivots diagonal lower_places upper_places lower_slots upper_slots : ℕ) : Type 0 where
  pub width : p.n ≡ n
  pub tall_is : p.height ≡ height
  pub entries_are : length p.columns ≡ entries
  pub values_are : length w.values ≡ values
  pub right_are : length w.right ≡ right
  pub solution_is : w.solution ≡ solution
  pub pivots_are : w.pivots ≡ pivots
  pub diagonal_is : w.diagonal ≡ diagonal
  pub lower_places_lem : w.lower_slots ≡ lower_places
  pub upper_places_lem : w.upper_slots ≡ upper_places
  pub lower_slots_lem : slots_of s lower p.n ≡ lower_slots
  pub upper_slots_lem : slots_of s upper p.n ≡ upper_slots
