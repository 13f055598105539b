-- Each test's answer is the first refusal, given the tests before it.
use mathlib.Core.Path.{sym, ◌∙◌}
use borrow.Author.Tests.{not-true, not-false}
use Rattle.plan_pattern.proofs.Judging.{no_columns, many-columns, too_many-columns, many-entries, too_few-rows, too_tall, starts-refused, rows-judged}
use Rattle.plan_pattern.proofs.judge.pattern_fault.Goals as goal

pub returns-then-n-eq0 : goal.returns-then-n-eq0
returns-then-n-eq0 c = sym (no_columns _ _ _ _ _ c.if-n-eq0.true)

pub returns-then-most-n : goal.returns-then-most-n
returns-then-most-n c = sym (many-columns _ _ _ _ _ c.if-most-n.true)

pub returns-then-n-gt-LARGEST_N : goal.returns-then-n-gt-LARGEST_N
returns-then-n-gt-LARGEST_N c = sym (too_many-columns _ _ _ _ _ c.if-n-gt-LARGEST_N.true)

pub returns-then-columns-gt-MOST_ENTRIES : goal.returns-then-columns-gt-MOST_ENTRIES
returns-then-columns-gt-MOST_ENTRIES c = sym (many-entries _ _ _ _ _ c.if-columns-gt-MOST_ENTRIES.true)

-- 25: what 1 leaves is small
pub returns-then-height-n : goal.returns-then-height-n
returns-then-height-n c =
    sym (too_few-rows _ _ _ _ _ c.if-n-eq0.false c.if-most-n.false c.if-n-gt-LARGEST_N.false c.if-columns-gt-MOST_ENTRIES.false c.if-height-n.true)

pub returns-then-height-gt-MOST_ROWS : goal.returns-then-height-gt-MOST_ROWS
returns-then-height-gt-MOST_ROWS c =
    sym (too_tall _ _ _ _ _ c.if-n-eq0.false c.if-most-n.false c.if-n-gt-LARGEST_N.false c.if-columns-gt-MOST_ENTRIES.false c.if-height-n.false
    c.if-height-gt-MOST_ROWS.true)

pub returns-then-not-starts_fit : goal.returns-then-not-starts_fit
returns-then-not-starts_fit c =
    sym (starts-refused _ _ _ _ _ c.if-n-eq0.false c.if-most-n.false c.if-n-gt-LARGEST_N.false c.if-columns-gt-MOST_ENTRIES.false
    c.if-height-n.false c.if-height-gt-MOST_ROWS.false
    (sym (c.starts_fit.ensures _) ∙ not-true _ c.if-not-starts_fit.true-raw))

pub rows_fault-requires : goal.rows_fault-requires
rows_fault-requires c = sym (c.starts_fit.ensures _) ∙ not-false _ c.if-not-starts_fit.false-raw

pub returns : goal.returns
returns c =
    let fit = sym (c.starts_fit.ensures _) ∙ not-false _ c.if-not-starts_fit.false-raw in
    c.rows_fault.ensures ∙ sym (rows-judged _ _ _ _ _ c.if-n-eq0.false c.if-most-n.false c.if-n-gt-LARGEST_N.false
    c.if-columns-gt-MOST_ENTRIES.false c.if-height-n.false c.if-height-gt-MOST_ROWS.false fit)
