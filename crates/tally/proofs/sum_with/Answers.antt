-- `sum_with` keeps its contract: where the updates fit into the room the sum stays within the limit, else it would pass it.
use native.Mathlib.Omega.{arith}
use Rattle.foundation.specs.Tally.{max_tally}
use Rattle.foundation.proofs.TallyAnswers.{full, new-sum}
use Rattle.tally.specs.Calls.{tally_answer_of, kept_sum}
use Rattle.tally.proofs.sum_with.Goals as goal

pub returns-then-updates-room : goal.returns-then-updates-room
unfolding kept_sum max_tally tally_answer_of
returns-then-updates-room c =
    let a = c.args in
    let e = new-sum a.sum a.updates (omega arith) in
    (rw e, rw e)

pub returns : goal.returns
unfolding kept_sum max_tally tally_answer_of
returns c =
    let a = c.args in
    let e = full a.sum a.updates (omega arith) in
    (rw e, rw e)
