-- `lending::lending_fits` meets its contract: each test decides the definition's.
use Rattle.run_judge.proofs.Judged.{not-values, not_right, not-solution, not-pivots, not-diagonal, not_lower, rests_on_upper}
use Rattle.run_judge.proofs.lending.lending_fits.Goals as goal

pub returns-then-values-entries : goal.returns-then-values-entries
returns-then-values-entries c = not-values _ _ _ _ _ _ _ _ _ _ _ _ c.if-values-entries.true

pub returns-then-right-height : goal.returns-then-right-height
returns-then-right-height c = not_right _ _ _ _ _ _ _ _ _ _ _ _ c.if-values-entries.false c.if-right-height.true

pub returns-then-solution-height : goal.returns-then-solution-height
returns-then-solution-height c =
    not-solution _ _ _ _ _ _ _ _ _ _ _ _ c.if-values-entries.false c.if-right-height.false c.if-solution-height.true

pub returns-then-pivots-n : goal.returns-then-pivots-n
returns-then-pivots-n c =
    not-pivots _ _ _ _ _ _ _ _ _ _ _ _ c.if-values-entries.false c.if-right-height.false c.if-solution-height.false c.if-pivots-n.true

pub returns-then-diagonal-n : goal.returns-then-diagonal-n
returns-then-diagonal-n c =
    not-diagonal _ _ _ _ _ _ _ _ _ _ _ _ c.if-values-entries.false c.if-right-height.false c.if-solution-height.false c.if-pivots-n.false
    c.if-diagonal-n.true

pub returns-then-l_places-l_planned : goal.returns-then-l_places-l_planned
returns-then-l_places-l_planned c =
    not_lower _ _ _ _ _ _ _ _ _ _ _ _ c.if-values-entries.false c.if-right-height.false c.if-solution-height.false c.if-pivots-n.false
    c.if-diagonal-n.false c.if-l_places-l_planned.true

pub returns : goal.returns
returns c =
    rests_on_upper _ _ _ _ _ _ _ _ _ _ _ _ c.if-values-entries.false c.if-right-height.false c.if-solution-height.false
    c.if-pivots-n.false c.if-diagonal-n.false c.if-l_places-l_planned.false
