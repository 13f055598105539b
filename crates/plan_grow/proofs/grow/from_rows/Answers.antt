-- `from_rows` meets its contract: the side that is asked for decides whether the rows' columns or their own numbers are joined.
use Rattle.plan_grow.proofs.Turns.{lent_step}
use Rattle.plan_grow.proofs.grow.from_rows.Goals as goal

pub columns_of-requires : goal.columns_of-requires
columns_of-requires c = c.requires

pub returns-then-upper : goal.returns-then-upper
returns-then-upper c = rw c.if-upper.true c.columns_of.ensures

pub numbers_of-requires : goal.numbers_of-requires
numbers_of-requires c = (_, lent_step _ _ _ c.requires.ready, c.requires.linked, c.requires.growing_len)

pub returns : goal.returns
returns c =
    rw c.if-upper.false (c.numbers_of.ensures _ (lent_step _ _ _ c.requires.ready) c.requires.linked c.requires.growing_len)
