-- The loop's invariant: the first fault of the rows that are still to come is the first fault of all.
use mathlib.Core.Path.{sym, ◌∙◌}
use Prim.Native.Nat.{◌+◌}
use native.Mathlib.Nat.{sub-zero}
use native.Mathlib.Omega.{arith}
use borrow.Author.Rules.{rules}
use borrow.Author.Tests.{not-true, not-false}
use Rattle.plan_pattern.proofs.Judging.{fitted, row_order, row_within, rows-stop, rows_lack, rows_pass, rows-done}
use Rattle.plan_pattern.proofs.judge.rows_fault.Goals as goal

pub loop-i-init : goal.loop-i-init
loop-i-init c = (search rules, fitted _ _ _ _ c.requires, rw sub-zero)

pub offset_bounds-columns-from : goal.offset_bounds-columns-from
offset_bounds-columns-from c =
    let l = c.loop-i in
    let here = c.loop-i-test.true in
    omega (arith, row_order _ _ _ l.invariant.1 l.i here, row_within _ _ _ l.invariant.1 l.i here)

pub slice_bounds-row-count : goal.slice_bounds-row-count
slice_bounds-row-count c = row_order _ _ _ c.loop-i.invariant.1 _ c.loop-i-test.true

pub slice_bounds-row-start : goal.slice_bounds-row-start
slice_bounds-row-start c = row_order _ _ _ c.loop-i.invariant.1 _ c.loop-i-test.true

pub slice_bounds-row-end : goal.slice_bounds-row-end
slice_bounds-row-end c = row_within _ _ _ c.loop-i.invariant.1 _ c.loop-i-test.true

pub returns-then-fault-ne0 : goal.returns-then-fault-ne0
returns-then-fault-ne0 c =
    let l = c.loop-i in
    sym (rows-stop _ _ _ l.invariant.1 l.i (search rules) _ _ c.entries_fault-fault.ensures c.if-fault-ne0.true) ∙ l.invariant.2

pub returns-then-not-has_diagonal : goal.returns-then-not-has_diagonal
returns-then-not-has_diagonal c =
    let l = c.loop-i in
    let fault = c.entries_fault-fault in
    let lacks = sym (not-true _ c.if-not-has_diagonal.true-raw) ∙ c.has_diagonal.ensures in
    sym (rows_lack _ _ _ l.invariant.1 l.i (search rules) _ _ fault.ensures c.if-fault-ne0.false lacks) ∙ l.invariant.2

pub loop-i-preserved : goal.loop-i-preserved
loop-i-preserved c =
    let l = c.loop-i in
    let fault = c.entries_fault-fault in
    let found = sym (not-false _ c.if-not-has_diagonal.false-raw) ∙ c.has_diagonal.ensures in
    (search rules, l.invariant.1, sym (rows_pass _ _ _ l.invariant.1 l.i (search rules) _ _ fault.ensures c.if-fault-ne0.false found) ∙ l.invariant.2)

pub returns : goal.returns
returns c =
    let l = c.loop-i in
    sym (rows-done _ (l.i + 1) _ (search rules)) ∙ l.invariant.2
