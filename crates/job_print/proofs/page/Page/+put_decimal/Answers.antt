-- `put_decimal` meets its contract.
use Rattle.std.proofs.Common.{arith}
use Rattle.job_print.proofs.Decimals.{front_none, front-more, room-before, last_room, last_digit}
use Rattle.job_print.proofs.page.Page.+put_decimal.Goals as goal
use Rattle.job_print.proofs.page.Page.+put_decimal.Goals.{then-n-ge10, else-n-ge10}

pub put_decimal-requires : goal.put_decimal-requires
put_decimal-requires t c = (omega arith, room-before c.args.self.now c.args.n c.if-n-ge10.true c.requires)

pub put_byte-requires : goal.put_byte-requires
put_byte-requires t c =
    elim c.if-n-ge10.branch [
      | then-n-ge10 w ↦ last_room (front-more c.args.self.now _ _ c.args.n w.if-n-ge10.true w.put_decimal.ensures w.self-is) c.requires
      | else-n-ge10 w ↦ last_room (front_none c.args.self.now _ c.args.n w.if-n-ge10.false w.self-is) c.requires
    ]

pub returns : goal.returns
returns t c =
    elim c.if-n-ge10.branch [
      | then-n-ge10 w ↦ last_digit (front-more c.args.self.now _ _ c.args.n w.if-n-ge10.true w.put_decimal.ensures w.self-is) c.put_byte.ensures
      | else-n-ge10 w ↦ last_digit (front_none c.args.self.now _ c.args.n w.if-n-ge10.false w.self-is) c.put_byte.ensures
    ]
