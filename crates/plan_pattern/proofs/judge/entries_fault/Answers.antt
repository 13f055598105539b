-- The loop's invariant: the first fault of what is still to come, behind the column before, is the first fault of all.
use mathlib.Core.Path.{sym, ◌∙◌}
use borrow.Author.Rules.{rules}
use Rattle.plan_pattern.proofs.Judging.{below_here, above_here, again_here, passes_here, faults_nowhere}
use Rattle.plan_pattern.proofs.judge.entries_fault.Goals as goal

pub returns-then-column-lt1 : goal.returns-then-column-lt1
returns-then-column-lt1 c =
    let l = c.loop-i in
    sym (below_here _ l.i (search rules) _ l.before c.if-column-lt1.true) ∙ l.invariant.1

pub returns-then-n-column : goal.returns-then-n-column
returns-then-n-column c =
    let l = c.loop-i in
    sym (above_here _ l.i (search rules) _ l.before c.if-column-lt1.false c.if-n-column.true) ∙ l.invariant.1

pub returns-then-column-before : goal.returns-then-column-before
returns-then-column-before c =
    let l = c.loop-i in
    sym (again_here _ l.i (search rules) _ l.before c.if-column-lt1.false c.if-n-column.false c.if-column-before.true) ∙ l.invariant.1

pub loop-i-preserved : goal.loop-i-preserved
loop-i-preserved c =
    let l = c.loop-i in
    (search rules, sym (passes_here _ l.i (search rules) _ l.before c.if-column-lt1.false c.if-n-column.false c.if-column-before.false) ∙ l.invariant.1)

pub returns : goal.returns
returns c =
    let l = c.loop-i in
    sym (faults_nowhere _ l.i c.loop-i-test.false _ l.before) ∙ l.invariant.1
