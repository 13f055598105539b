-- Orthogonal steps.
use mathlib.Core.Path.{refl}
use Rattle.foundation.specs.Table.{Holds}
use Rattle.foundation.specs.Cases.Orthogonal.{orthogonal_cases}
use Rattle.foundation.proofs.Open.Lists.{tables}
use Rattle.foundation.proofs.Open.Squares.{squares}

pub orthogonal_steps_hold : Holds orthogonal_cases
unfolding orthogonal_cases tables squares
orthogonal_steps_hold = refl
