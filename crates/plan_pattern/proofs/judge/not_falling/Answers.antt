-- The loop's invariant: the judgement of what is still to come, from the last start on, is the judgement of all.
use mathlib.Core.Path.{sym, ◌∙◌}
use borrow.Author.Rules.{rules}
use Rattle.plan_pattern.proofs.Judging.{falls_here, rises_here, falls_nowhere}
use Rattle.plan_pattern.proofs.judge.not_falling.Goals as goal

pub returns-then-start-last : goal.returns-then-start-last
returns-then-start-last c =
    let l = c.loop-i in
    sym (falls_here _ l.i (search rules) l.last c.if-start-last.true) ∙ l.invariant.1

pub loop-i-preserved : goal.loop-i-preserved
loop-i-preserved c =
    let l = c.loop-i in
    (search rules, sym (rises_here _ l.i (search rules) l.last c.if-start-last.false) ∙ l.invariant.1)

pub returns : goal.returns
returns c =
    let l = c.loop-i in
    sym (falls_nowhere _ l.i c.loop-i-test.false l.last) ∙ l.invariant.1
