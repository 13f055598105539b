-- The pattern.
use mathlib.Core.Path.{refl}
use Rattle.foundation.specs.Table.{Holds}
use Rattle.foundation.specs.Cases.Pattern.{pattern_cases}
use Rattle.foundation.proofs.Open.Lists.{tables}
use Rattle.foundation.proofs.Open.Plans.{patterns}

pub patterns_hold : Holds pattern_cases
unfolding pattern_cases tables patterns
patterns_hold = refl
