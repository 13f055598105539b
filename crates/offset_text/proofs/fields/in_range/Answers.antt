-- `in_range` meets its contract: the numbers are found, and then tested.
use Rattle.std.proofs.Common.{ltb}
use Rattle.std.proofs.Math.Bool.{and_assoc}
use Rattle.foundation.specs.OffsetReading.{degrees, minutes, seconds, in_range}
use Rattle.offset_text.proofs.fields.in_range.Goals as goal

pub returns : goal.returns
unfolding in_range degrees minutes seconds
returns c =
    let d = c.three_at-degrees in
    let m = c.two_at-minutes in
    let s = c.two_at-seconds in
    rw (← d.ensures.value, ← m.ensures.value, ← s.ensures.value) (and_assoc (ltb d.result 360) (ltb m.result 60) (ltb s.result 60))
