-- `request::fits` is safe and ends: the measure is what is left of the head.
use Rattle.std.proofs.Common.{◌-◌, length}
use Rattle.cases_planning.proofs.request.fits.Given as goal

abbrev pub decreases-loop-i : goal.decreases-loop-i
decreases-loop-i l = length l.head - l.i
