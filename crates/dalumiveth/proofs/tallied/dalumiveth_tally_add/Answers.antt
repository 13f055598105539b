-- `dalumiveth_tally_add` meets its contract: another length, or the counters taken, the record found, laid back and told.
use mathlib.Core.Path.{refl}
use Rattle.dalumiveth.proofs.Telling.{tally_without_counters, tally_told}
use Rattle.dalumiveth.proofs.tallied.dalumiveth_tally_add.Goals as goal

pub returns : goal.returns
returns c =
    tally_told _ _ _ _ _ _ _ _ _ _ c.if-counters-ne-MEMBERS.false c.put_counters.ensures c.tally_with-added.ensures
    c.put_counters-2.ensures (c.tell_tally.ensures.returned, c.tell_tally.ensures.numbers)

-- behind the others, so that of a wrong test of the length the log first shows what it lets pass
pub returns-then-counters-ne-MEMBERS : goal.returns-then-counters-ne-MEMBERS
returns-then-counters-ne-MEMBERS c = tally_without_counters _ _ _ _ _ _ _ c.if-counters-ne-MEMBERS.true refl (c.put_refusal.ensures.returned, c.put_refusal.ensures.numbers)
