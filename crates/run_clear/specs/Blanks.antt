-- Result stores that are zero throughout.
use Rattle.std.specs.Prelude.{◌≡◌, length, replicate}
use Rattle.foundation.specs.Numbers.{plus_zero}
use Rattle.foundation.specs.RunCall.{RunStores}
use Rattle.answers.specs.declared.RunOutcome.{RunOutcome}
use Rattle.answers.specs.declared.RunOutcome.TheVariants.{Finished, Stopped}

-- the result stores with every place zero
abbrev pub blanked : RunStores → RunStores
blanked stores =
    record {
      lower_slots = replicate (length stores.lower_slots) plus_zero;
      upper_slots = replicate (length stores.upper_slots) plus_zero;
      diagonal = replicate (length stores.diagonal) plus_zero;
      solution = replicate (length stores.solution) plus_zero;
      pivots = replicate (length stores.pivots) 0;
    }

-- every result store is zero throughout
abbrev pub Blank : RunStores → Type 0
Blank stores = stores ≡ blanked stores

-- the result stores of a run that stopped are cleared
abbrev pub ClearedIfStopped : RunOutcome → RunStores → RunStores → Type 0
ClearedIfStopped (Finished updates) stores stores' = stores' ≡ stores
ClearedIfStopped (Stopped reason step) stores stores' = stores' ≡ blanked stores
