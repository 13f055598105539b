-- `bring` meets its contract: the row stands there, or it is exchanged.
use Rattle.run_step.proofs.PivotRow.{stays_there, exchange_asks, comes_there}
use Rattle.run_step.proofs.bringing.bring.Goals as goal

pub returns-then-row-k : goal.returns-then-row-k
returns-then-row-k c = λ w. stays_there _ _ _ _ _ w c.if-row-k.true

pub exchange-requires : goal.exchange-requires
exchange-requires c = exchange_asks _ _ _ _ _ c.requires c.if-row-k.false

pub returns : goal.returns
returns c = λ w. comes_there _ _ _ _ _ w c.if-row-k.false _ c.exchange.ensures
