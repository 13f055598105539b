-- `dalumiveth_verify` meets its contract: the counts are read, planning answers, then the answer is told.
use Rattle.dalumiveth.proofs.Telling.{verify_told}
use Rattle.dalumiveth.proofs.verified.dalumiveth_verify.Goals as goal

pub returns : goal.returns
returns c =
    verify_told _ _ _ _ _ _ _ _ _ _ _ c.counts_from-plan_counts.ensures c.verify-answered.ensures
    (c.tell_verify.ensures.returned, c.tell_verify.ensures.numbers)
