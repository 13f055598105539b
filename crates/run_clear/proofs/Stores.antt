-- Result stores that are the same, one by one.
use mathlib.Core.List.{List}
use mathlib.Core.Path.{◌≡◌}
use Prim.Native.Nat.{ℕ}
use lib.Ieee.{Float}
use Rattle.answers.specs.RunStores.{run_stores}

pub same_stores : {l l' u u' d d' x x' : List Float} {pivots pivots' : List ℕ} → l ≡ l' → u ≡ u' → d ≡ d' → x ≡ x' → pivots ≡ pivots'
    → run_stores l u d x pivots ≡ run_stores l' u' d' x' pivots'
same_stores a b c d e = rw (a, b, c, d, e)
