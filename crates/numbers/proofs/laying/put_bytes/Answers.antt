-- `put_bytes` meets its contract: before turn i the first i places are written.
use lib.ListN.{take}
use borrow.Author.Rules.{rules}
use Rattle.numbers.proofs.CutOrPadded.{laying_start, laying_turn, laying_end}
use Rattle.numbers.proofs.laying.put_bytes.Goals as goal

pub loop-i-init : goal.loop-i-init
loop-i-init c = (search rules, laying_start _ _)

pub loop-i-preserved : goal.loop-i-preserved
loop-i-preserved c =
    let l = c.loop-i in
    let a = c.args in
    (search rules, laying_turn (take a.count a.bytes.now) a.out.now l.out l.i _ l.invariant.1 (search rules) c.byte_at.ensures)

pub returns : goal.returns
returns c =
    let l = c.loop-i in
    let a = c.args in
    laying_end (take a.count a.bytes.now) a.out.now l.out l.i l.invariant.1 (search rules)
