-- `put_spaced` meets its contract.
use Rattle.std.proofs.Common.{arith}
use Rattle.foundation.proofs.Digits.{decimal-short}
use Rattle.job_print.proofs.Decimals.{spaced_put, spaced-room}
use Rattle.job_print.proofs.page.Page.put_spaced.Goals as goal

pub put_decimal-requires : goal.put_decimal-requires
put_decimal-requires c = spaced-room c.args.n (omega arith) c.requires c.put_byte.ensures

pub returns-clause-text : goal.returns-clause-text
returns-clause-text c = spaced_put c.args.n c.put_byte.ensures c.put_decimal.ensures

pub returns-clause-short : goal.returns-clause-short
returns-clause-short c = omega (arith, c.put_byte.ensures.appended.ends, c.put_decimal.ensures.appended.ends, decimal-short c.args.n (omega arith))
