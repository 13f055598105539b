-- Numbers f64, squares, answers and text.
use mathlib.Core.Path.{◌≡◌, refl}
use Rattle.foundation.specs.Numbers.{plus_zero}
use Rattle.foundation.specs.Table.{Holds}
use Rattle.foundation.specs.Cases.Show.{float}
use Rattle.foundation.specs.Cases.Numbers.{number_cases, square_cases, answer_cases}
use Rattle.foundation.proofs.Open.Lists.{tables}
use Rattle.foundation.proofs.Open.Numbers.{numbers}
use Rattle.foundation.proofs.Open.Squares.{squares}
use Rattle.foundation.proofs.Open.Jobs.{texts}

-- +0 is the number of the bit pattern 0, not only a number with that pattern
pub plus_zero-pattern : plus_zero ≡ float 0x0000000000000000
unfolding numbers
plus_zero-pattern = refl

pub numbers_hold : Holds number_cases
unfolding number_cases tables numbers squares texts
numbers_hold = refl

pub squares_hold : Holds square_cases
unfolding square_cases tables numbers squares texts
squares_hold = refl

pub answers_hold : Holds answer_cases
unfolding answer_cases tables numbers squares texts
answers_hold = refl
