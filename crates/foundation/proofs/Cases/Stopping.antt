-- Where the reference stops.
use mathlib.Core.Path.{refl}
use Rattle.foundation.specs.Table.{Holds}
use Rattle.foundation.specs.Cases.Stopping.{stop_cases}
use Rattle.foundation.proofs.Open.Lists.{tables}
use Rattle.foundation.proofs.Open.References.{references}

pub stops_hold : Holds stop_cases
unfolding stop_cases tables references
stops_hold = refl
