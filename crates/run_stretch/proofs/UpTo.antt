-- The first places of a list are no greater than a number.
use mathlib.Core.List.{List}
use mathlib.Core.Path.{◌≡◌}
use Prim.Native.Nat.{ℕ, ◌+◌, ◌≤◌}
use native.Mathlib.Decide.{dec_lt}
use native.Mathlib.Omega.{arith}
use lib.ListN.{get_or}
use Rattle.run_stretch.specs.Stretches.{UpTo}

-- one more place
pub up_to_more : (i q : ℕ) (list : List ℕ) → UpTo i q list → get_or list q 0 ≤ i → UpTo i (q + 1) list
unfolding UpTo
up_to_more i q list h l t m = elim (dec_lt t q) [ yes r ↦ h t r | no r ↦ let e : t ≡ q = omega arith in rw e l ]
