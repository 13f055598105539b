-- `words::fill` is safe and ends: no write changes the length, and the measure is what is left of it.
use Rattle.std.proofs.Common.{◌-◌, length}
use Rattle.cases_elimination.proofs.words.fill.Given as goal

abbrev pub decreases-loop-i : goal.decreases-loop-i
decreases-loop-i g l = length l.initial.out - l.i
