-- `listed_row` meets its contract: an answer for each place where the row may stand.
use mathlib.Core.Path.{sym, ◌∙◌}
use native.Mathlib.Omega.{arith}
use Rattle.run_pivot.proofs.Chosen.{listed-own, listed-own_faint, listed_found, listed_faint, listed_none}
use Rattle.run_pivot.proofs.choosing.listed_row.Goals as goal

pub returns-then-serves : goal.returns-then-serves
returns-then-serves c = listed-own _ _ _ _ _ c.if-listed-k.true (sym c.serves.ensures ∙ c.if-serves.true)

pub returns-then-listed-k : goal.returns-then-listed-k
returns-then-listed-k c = listed-own_faint _ _ _ _ _ c.if-listed-k.true (sym c.serves.ensures ∙ c.if-serves.false)

pub returns-then-serves-2 : goal.returns-then-serves-2
returns-then-serves-2 c =
    listed_found _ _ _ _ _ _ c.if-place-subs.true c.if-subs-place.true (sym c.serves-then-subs-place.ensures ∙ c.if-serves-2.true)

pub returns-else-serves-2 : goal.returns-else-serves-2
returns-else-serves-2 c =
    listed_faint _ _ _ _ _ _ c.if-place-subs.true c.if-subs-place.true (sym c.serves-then-subs-place.ensures ∙ c.if-serves-2.false)

pub returns-else-subs-place : goal.returns-else-subs-place
returns-else-subs-place c =
    listed_none _ _ _ _ _ c.if-listed-k.false _ c.requires.1 (c.place_of-place.ensures.1 c.requires.1) (λ l e. c.if-subs-place.false e)

pub returns-else-place-subs : goal.returns-else-place-subs
returns-else-place-subs c =
    listed_none _ _ _ _ _ c.if-listed-k.false _ c.requires.1 (c.place_of-place.ensures.1 c.requires.1) (λ l e. omega (arith, c.if-place-subs.false))
