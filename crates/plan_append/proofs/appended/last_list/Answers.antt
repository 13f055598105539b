-- `last_list` meets its contract: the list of step k-1 ends where its store does, or not.
use mathlib.Core.Path.{refl}
use native.Mathlib.Omega.{arith}
use Rattle.plan_append.proofs.appended.last_list.Goals as goal

pub overflow_sub-k : goal.overflow_sub-k
overflow_sub-k c = omega (arith, c.requires.low)

pub list_place-last-requires : goal.list_place-last-requires
list_place-last-requires c = c.requires

pub returns : goal.returns
returns c =
    let lies = c.list_place-last.ensures in
    (record { from_is = lies.from_is; to_is = lies.to_is; slot_is = refl; next_is = refl }, c.if-last-end.false)
