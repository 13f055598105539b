-- `has_further` meets its contract: wherever the list lies, what is compared says whether it has a member.
use mathlib.Core.Path.{◌∙◌}
use Rattle.plan_sets.proofs.Further.{told_grown, told_row, told-behind, sole-low, sole-inside, sole-slots_rise, sole-slots_further}
use Rattle.plan_sets.proofs.updating.has_further.Goals as goal

pub sole_further-requires : goal.sole_further-requires
sole_further-requires c =
    let w = c.requires.1 in
    let e = c.in-Sole.is in
    (sole-low w e, sole-inside w e, sole-slots_rise w e)

pub returns-in-Grown : goal.returns-in-Grown
returns-in-Grown c = λ p w. told_grown w c.in-Grown.is

pub returns-in-Row : goal.returns-in-Row
returns-in-Row c = λ p w. told_row w c.in-Row.is

pub returns-in-Sole : goal.returns-in-Sole
returns-in-Sole c = λ p w. c.sole_further.ensures ∙ sole-slots_further w c.in-Sole.is

pub returns-in-Behind : goal.returns-in-Behind
returns-in-Behind c = λ p w. told-behind w c.in-Behind.is
