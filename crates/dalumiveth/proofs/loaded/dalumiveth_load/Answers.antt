-- `dalumiveth_load` meets its contract: the load is laid, then told.
use Rattle.dalumiveth.proofs.Telling.{load_told}
use Rattle.dalumiveth.proofs.loaded.dalumiveth_load.Goals as goal

pub returns : goal.returns
returns c = load_told _ _ _ _ _ _ _ _ _ c.load-answered.ensures (c.tell_load.ensures.returned, c.tell_load.ensures.numbers)
