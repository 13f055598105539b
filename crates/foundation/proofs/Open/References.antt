-- The reference: `unfolding references`.
use Rattle.foundation.specs.Reference.{steps_of, better, best, pivot_row, multiplier, reduced, eliminated, exchanged_right, eliminated_right, updates_at, sound_update, sound_place, sound_row, sound_step, number_of, stepped, sound_with, step_with, step, running, starting, substituted, solved_row, back, solved, ended, reference}
use Rattle.foundation.proofs.Open.Squares.{squares}
use Rattle.foundation.proofs.Open.Numbers.{numbers}

unfoldable pub references : Unit {0}
unfolding squares numbers steps_of better best pivot_row multiplier reduced eliminated exchanged_right eliminated_right updates_at sound_update sound_place sound_row sound_step number_of stepped sound_with step_with step running starting substituted solved_row back solved ended reference
references = tt
