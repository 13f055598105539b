-- The loop's invariant: x is among what is still to come just where it is in the list.
use mathlib.Core.Path.{sym, ◌∙◌}
use borrow.Author.Rules.{rules}
use Rattle.plan_pattern.proofs.Judging.{has_here, lacks_here, has_nowhere}
use Rattle.plan_pattern.proofs.judge.has_member.Goals as goal

pub returns-then-list-i : goal.returns-then-list-i
returns-then-list-i c =
    let l = c.loop-i in
    sym (has_here _ l.i (search rules) _ c.if-list-i.true) ∙ l.invariant.1

pub loop-i-preserved : goal.loop-i-preserved
loop-i-preserved c =
    let l = c.loop-i in
    (search rules, sym (lacks_here _ l.i (search rules) _ c.if-list-i.false) ∙ l.invariant.1)

pub returns : goal.returns
returns c =
    let l = c.loop-i in
    sym (has_nowhere _ l.i c.loop-i-test.false _) ∙ l.invariant.1
