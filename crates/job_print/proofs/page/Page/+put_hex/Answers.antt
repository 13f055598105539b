-- `put_hex` meets its contract.
use Rattle.std.proofs.Common.{rules}
use Rattle.job_print.proofs.Hexadecimals.{hex_none, hex_last, hex_room}
use Rattle.job_print.proofs.page.Page.+put_hex.Goals as goal

pub put_byte-requires : goal.put_byte-requires
put_byte-requires t c = hex_room c.args.count _ c.if-count-gt0.true c.requires c.put_hex.ensures

pub returns-then-count-gt0 : goal.returns-then-count-gt0
returns-then-count-gt0 t c = hex_last c.args.count c.args.n c.if-count-gt0.true c.put_hex.ensures c.hex_digit.ensures c.put_byte.ensures

pub returns-else-count-gt0 : goal.returns-else-count-gt0
returns-else-count-gt0 t c = hex_none _ _ _ (search rules)
