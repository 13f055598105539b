-- `joins_last` meets its contract: a chain of one row and a chain of one step, which is the step before.
use mathlib.Core.Bool.{false≢true}
use borrow.Author.Rules.{rules}
use Rattle.plan_append.proofs.appended.joins_last.Goals as goal

pub returns-then-row-eq0 : goal.returns-then-row-eq0
returns-then-row-eq0 c e = absurd (false≢true e)

pub offset_bounds-row_links-row : goal.offset_bounds-row_links-row
offset_bounds-row_links-row c = let h = c.requires.0 c.if-row-eq0.false in search rules

pub bounds-row_links-row : goal.bounds-row_links-row
bounds-row_links-row c = let h = c.requires.0 c.if-row-eq0.false in search rules

pub returns-then-row_links-row-ne0 : goal.returns-then-row_links-row-ne0
returns-then-row_links-row-ne0 c e = absurd (false≢true e)

pub returns-then-set-eq0 : goal.returns-then-set-eq0
returns-then-set-eq0 c e = absurd (false≢true e)

pub returns-then-set-k : goal.returns-then-set-k
returns-then-set-k c e = absurd (false≢true e)

pub returns-then-set_links-set-ne0 : goal.returns-then-set_links-set-ne0
returns-then-set_links-set-ne0 c e = absurd (false≢true e)
