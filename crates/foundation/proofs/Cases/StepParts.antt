-- The parts of a step.
use mathlib.Core.Path.{refl}
use Rattle.foundation.specs.Table.{Holds}
use Rattle.foundation.specs.Cases.StepParts.{part_cases}
use Rattle.foundation.proofs.Open.Lists.{tables}
use Rattle.foundation.proofs.Open.References.{references}

pub parts_hold : Holds part_cases
unfolding part_cases tables references
parts_hold = refl
