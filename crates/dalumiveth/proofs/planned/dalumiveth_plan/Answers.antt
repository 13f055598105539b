-- `dalumiveth_plan` meets its contract: planning answers, then the answer is told.
use Rattle.dalumiveth.proofs.Telling.{plan-told}
use Rattle.dalumiveth.proofs.planned.dalumiveth_plan.Goals as goal

pub returns : goal.returns
returns c = plan-told _ _ _ _ _ _ _ _ _ _ c.plan-answered.ensures (c.tell_plan.ensures.returned, c.tell_plan.ensures.numbers)
