-- The stores that are lent to a run, as the definitions take them.
use Rattle.std.specs.Prelude.{List, ℕ, Float, length}
use Rattle.foundation.specs.RunCall.{Lending, RunStores}

-- what is lent to a run: values and right side, and of the result stores their lengths
abbrev pub lending_by : (values right : List Float) (l u d x pivots : ℕ) → Lending
lending_by values right l u d x pivots =
    record { values = values; right = right; solution = x; pivots = pivots; diagonal = d; lower_slots = l; upper_slots = u }

-- the same by the stores themselves
abbrev pub lending_of : (values right l u d x : List Float) (pivots : List ℕ) → Lending
lending_of values right l u d x pivots = lending_by values right (length l) (length u) (length d) (length x) (length pivots)

-- the five result stores
abbrev pub run_stores : (l u d x : List Float) (pivots : List ℕ) → RunStores
run_stores l u d x pivots = record { lower_slots = l; upper_slots = u; diagonal = d; solution = x; pivots = pivots }
