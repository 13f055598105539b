-- `dalumiveth_write_offset` meets its contract: the offset is written, then told.
use Rattle.dalumiveth.proofs.Telling.{write_told}
use Rattle.dalumiveth.proofs.offset_written.dalumiveth_write_offset.Goals as goal

pub returns : goal.returns
returns c = write_told _ _ _ _ _ _ _ c.write-answered.ensures (c.tell_written.ensures.returned, c.tell_written.ensures.numbers)
