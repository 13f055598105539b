-- The guess of a place: where a member stands is the first place not below it.
use mathlib.Core.List.{List}
use mathlib.Core.Path.{◌≡◌}
use Prim.Native.Nat.{ℕ, ◌<◌}
use native.Mathlib.Omega.{arith}
use lib.ListN.{length, get_or}
use Rattle.lists.specs.Sets.{Ascending}
use Rattle.store_search.specs.Places.{FirstFrom}
use Rattle.lists.proofs.Places.{ascending_at, ascending_below}

-- where x stands is the first place not below it
pub found_first : (list : List ℕ) (x r : ℕ) → Ascending 0 list → r < length list → get_or list r 0 ≡ x → FirstFrom list x r
found_first list x r asc inside at =
    record {
      within = omega arith;
      before = λ t l. omega (arith, ascending_below 0 t r list asc l inside);
      behind = λ t l u. omega (arith, ascending_at 0 r t list asc l u);
    }
