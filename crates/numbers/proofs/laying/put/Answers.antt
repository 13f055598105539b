-- `put` meets its contract: before turn t the first t places are written.
use borrow.Author.Rules.{rules}
use Rattle.numbers.proofs.CutOrPadded.{laying_start, laying_turn, laying_end}
use Rattle.numbers.proofs.laying.put.Goals as goal

pub loop-t-init : goal.loop-t-init
loop-t-init c = (search rules, laying_start _ _)

pub loop-t-preserved : goal.loop-t-preserved
loop-t-preserved c =
    let l = c.loop-t in
    let a = c.args in
    (search rules, laying_turn a.numbers.now a.answer.now l.answer l.t _ l.invariant.1 (search rules) c.number_at.ensures)

pub returns : goal.returns
returns c =
    let l = c.loop-t in
    let a = c.args in
    laying_end a.numbers.now a.answer.now l.answer l.t l.invariant.1 (search rules)
