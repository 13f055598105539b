-- `show::numbers` is safe and ends: the measure is what is left of the store.
use Rattle.std.proofs.Common.{◌-◌, length}
use Rattle.cases_elimination.proofs.show.numbers.Given as goal

abbrev pub decreases-loop-i : goal.decreases-loop-i
decreases-loop-i g l = length l.places - l.i
