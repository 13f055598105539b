-- Pivots around the least magnitude that one must have.
use mathlib.Core.Path.{◌≡◌, refl}
use Rattle.foundation.specs.Numbers.{least_pivot}
use Rattle.foundation.specs.Table.{Holds}
use Rattle.foundation.specs.Cases.Show.{float}
use Rattle.foundation.specs.Cases.Faint.{limit, limit_cases}
use Rattle.foundation.proofs.Open.Lists.{tables}
use Rattle.foundation.proofs.Open.References.{references}

-- the limit is the number of its bit pattern, not only a number with that pattern
pub limit-pattern : least_pivot ≡ float limit
unfolding references
limit-pattern = refl

pub limits_hold : Holds limit_cases
unfolding limit_cases tables references
limits_hold = refl
