-- A list that another one crosses: what the update of its numbers needs to know of the two.
use Rattle.std.specs.Prelude.{true, false, List, ◌≡◌, ℕ, ◌+◌, ◌-◌, ◌≤◌, ◌<◌, Float, length, get_or}
use Rattle.std.specs.Float.{nan}
use Rattle.lists.specs.Sets.{member, Ascending}
use Rattle.foundation.specs.Numbers.{is_zero}
use Rattle.run_stretch.specs.Stretches.{gathered, Below}

-- `over` lies in `own`; `values` are its numbers, which the work store `dense` has at its members, with zeros at the other members of `own`.
pub record Crossing (own over : List ℕ) (values dense : List Float) : Type 0 where
  pub ascends : Ascending 0 own
  pub over_ascends : Ascending 0 over
  pub within : (x : ℕ) → member x over ≡ true → member x own ≡ true
  pub valued : values ≡ gathered dense over
  pub others : (x : ℕ) → member x own ≡ true → member x over ≡ false → is_zero (get_or dense x nan) ≡ true
  pub room : Below (length dense) own

-- Cell `cell` of the subscripts holds x, so if it lies inside the list that opens at `start`, x stands at that place of the list.
unfoldable pub SharedCell : List ℕ → ℕ → ℕ → ℕ → Type 0
SharedCell own start cell x = start ≤ cell → cell < start + length own → get_or own (cell - start) 0 ≡ x
