-- Back substitution.
use mathlib.Core.Path.{refl}
use Rattle.foundation.specs.Table.{Holds}
use Rattle.foundation.specs.Cases.Back.{back_cases}
use Rattle.foundation.proofs.Open.Lists.{tables}
use Rattle.foundation.proofs.Open.References.{references}

pub back_substitution_hold : Holds back_cases
unfolding back_cases tables references
back_substitution_hold = refl
