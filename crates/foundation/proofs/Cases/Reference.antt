-- The steps of the reference.
use mathlib.Core.Path.{refl}
use Rattle.foundation.specs.Table.{Holds}
use Rattle.foundation.specs.Cases.Reference.{step_cases}
use Rattle.foundation.proofs.Open.Lists.{tables}
use Rattle.foundation.proofs.Open.References.{references}

pub steps_hold : Holds step_cases
unfolding step_cases tables references
steps_hold = refl
