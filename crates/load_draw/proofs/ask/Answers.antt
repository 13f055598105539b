-- `ask` meets its contract, on the diagonal and off it.
use Rattle.load_draw.proofs.Places.{on_diagonal_lem, off_diagonal}
use Rattle.load_draw.proofs.ask.Goals as goal

pub returns-then-row-column : goal.returns-then-row-column
returns-then-row-column c = let a = c.args in on_diagonal_lem a.d a.row a.column a.state c.if-row-column.true

pub divides_by-present-requires : goal.divides_by-present-requires
divides_by-present-requires c = c.requires

pub returns : goal.returns
returns c =
    let a = c.args in
    off_diagonal a.d a.row a.column a.state c.if-row-column.false _ _ _ c.step-next.ensures c.mix.ensures c.divides_by-present.ensures
