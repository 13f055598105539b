-- The run's call and what its slots show: `unfolding runs`.
use Rattle.foundation.specs.Shown.{at_side, shown, shown_diagonal, slot_read, laid}
use Rattle.foundation.specs.RunCall.{lending_fits, all_finite, rows_in_range, choice_fits, extent_fits, order_fits, value_at, right_at, course_answer, ran_with, may_run, ran, lacks_pivot, legal, run_answer, slots_after, diagonal_after, solution_after, pivots_after, run_leaves}
use Rattle.foundation.proofs.Open.Plans.{plans}
use Rattle.foundation.proofs.Open.References.{references}

unfoldable pub runs : Unit {0}
unfolding plans references at_side shown shown_diagonal slot_read laid lending_fits all_finite rows_in_range choice_fits extent_fits order_fits value_at right_at course_answer ran_with may_run ran lacks_pivot legal run_answer slots_after diagonal_after solution_after pivots_after run_leaves
runs = tt
