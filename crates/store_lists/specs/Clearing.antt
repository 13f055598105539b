-- Stores that are cleared.
use Rattle.std.specs.Prelude.{List, ℕ}
use Rattle.store_clear.specs.Clearing.{Zeros}

-- the three stores of a side
pub record SideZeros (subs starts slots subs' starts' slots' : List ℕ) : Type 0 where
  pub subs-zero : Zeros subs subs'
  pub starts-zero : Zeros starts starts'
  pub slots-zero : Zeros slots slots'
