-- Counts given in the order in which they are told are the same counts.
use mathlib.Core.Path.{◌≡◌, refl}
use Rattle.foundation.specs.PlanCall.{Counts, count_numbers}
use Rattle.numbers.specs.Numbered.{counts_from}

pub counts-back : (c : Counts) → counts_from (count_numbers c) ≡ c
unfolding counts_from count_numbers
counts-back c = refl
