-- The free elimination.
use mathlib.Core.Path.{refl}
use Rattle.foundation.specs.Table.{Holds}
use Rattle.foundation.specs.Cases.Free.{free_cases}
use Rattle.foundation.proofs.Open.Lists.{tables}
use Rattle.foundation.proofs.Open.Squares.{squares}

pub free_steps_hold : Holds free_cases
unfolding free_cases tables squares
free_steps_hold = refl
