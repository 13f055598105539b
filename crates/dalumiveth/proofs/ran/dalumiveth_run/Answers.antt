-- `dalumiveth_run` meets its contract: counts, choice and extent are read, the run answers, then the answer is told.
use Rattle.dalumiveth.proofs.Telling.{run_told}
use Rattle.dalumiveth.proofs.ran.dalumiveth_run.Goals as goal

pub returns : goal.returns
returns c =
    run_told _ _ _ _ _ _ _ _ _ _ _ _ _ _ _ _ _ _ c.counts_from-plan_counts.ensures c.choice_from-choice.ensures
    c.extent_from-extent.ensures c.run-answered.ensures (c.tell_run.ensures.returned, c.tell_run.ensures.numbers)
