-- `put_value` meets its contract.
use Rattle.std.proofs.Common.{arith}
use Rattle.foundation.proofs.Digits.{hex_length}
use Rattle.job_print.proofs.Lining.{value_put}
use Rattle.job_print.proofs.page.Page.put_value.Goals as goal

pub put_byte-requires-3 : goal.put_byte-requires-3
put_byte-requires-3 c = omega (arith, hex_length 16 c.bits_of.result)

pub returns-clause-text : goal.returns-clause-text
returns-clause-text c =
    value_put c.args.row c.bits_of.result c.args.x c.bits_of.ensures c.put_byte.ensures c.put_spaced.ensures.text c.put_byte-2.ensures c.put_hex.ensures
    c.put_byte-3.ensures

pub returns-clause-short : goal.returns-clause-short
returns-clause-short c = omega (arith, hex_length 16 c.bits_of.result)
