-- The marked cases of document 01 hold of the definitions, by computation.
use mathlib.Core.Path.{◌≡◌, refl}
use Rattle.foundation.specs.Table.{Holds}
use Rattle.foundation.specs.Marked.{four_values, four_right, lending, four_run, one_run, two_run, show_updates, show_pivots, show_slots, show_upper, show_right, show_planned, bits, four_plan, planned_with, upper_sharing, marked, also, bytes, entry_bytes, end_bytes, four_job, four_listing}
use Rattle.foundation.specs.Printing.{printed, fitting_work, blank_side, blank_stores}
use Rattle.foundation.proofs.Open.Lists.{tables}
use Rattle.foundation.proofs.Open.Runs.{runs}
use Rattle.foundation.proofs.Open.Prints.{prints}

unfoldable pub cases : Unit {0}
unfolding tables runs fitting_work blank_side blank_stores four_values four_right lending four_run one_run two_run show_updates show_pivots show_slots show_upper show_right show_planned bits four_plan planned_with upper_sharing
cases = tt

-- M1 to M10
pub marked_hold : Holds marked
unfolding marked cases
marked_hold = refl

-- the other small cases
pub also_hold : Holds also
unfolding also cases
also_hold = refl

-- the four-field job's printed bytes are the listing of document 01
pub four_field_listing : printed four_job ≡ four_listing
unfolding prints four_job four_listing bytes entry_bytes end_bytes
four_field_listing = refl
