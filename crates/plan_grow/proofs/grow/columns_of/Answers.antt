-- `columns_of` meets its contract: the list grown and what is left of the chain make what all its rows bring to U.
use mathlib.Core.Path.{ap, ◌∙◌}
use Rattle.foundation.specs.Plan.{upper}
use Rattle.plan_gather.specs.Gathering.{without}
use Rattle.plan_grow.proofs.Turns.{lent_step, rows_start, row_turn, columns_brought, brought_within}
use Rattle.plan_grow.proofs.Growing.{gathers_here, gathers_turn, gathers_end}
use Rattle.plan_grow.proofs.grow.columns_of.Goals as goal

pub loop-i-init : goal.loop-i-init
loop-i-init c = (
  tt,
  tt,
  rw (c.into_iter-i-iterator.ensures.into_iter_gives, c.walk-i-items.ensures _ c.requires.linked)
      (rows_start (lent_step _ _ _ c.requires.ready) upper _ c.requires.growing_len),
)

pub row_columns-requires : goal.row_columns-requires
row_columns-requires c =
    let r = row_turn _ _ _ (lent_step _ _ _ c.requires.ready) _ (gathers_here c.loop-i.invariant.2 c.in-Some.ensures.steps) in
    (r.low, r.in_starts, r.rising, r.inside)

pub join-count-requires : goal.join-count-requires
join-count-requires c =
    let of = lent_step _ _ _ c.requires.ready in
    let g = c.loop-i.invariant.2 in
    let met = gathers_here g c.in-Some.ensures.steps in
    (_, g.so_far, g.grown, g.within, brought_within of upper _ met _ (c.row_columns.ensures ∙ columns_brought _ _ _ of _ met))

pub loop-i-preserved : goal.loop-i-preserved
loop-i-preserved c =
    let of = lent_step _ _ _ c.requires.ready in
    let g = c.loop-i.invariant.2 in
    let next = c.in-Some.ensures.steps in
    let met = gathers_here g next in
    let e = c.row_columns.ensures ∙ columns_brought _ _ _ of _ met in
    (tt, tt, gathers_turn g next _ (brought_within of upper _ met _ e) (ap (without _) e) (c.join-count.ensures _ g.so_far g.grown))

pub returns : goal.returns
returns c = gathers_end c.loop-i.invariant.2 c.in-None.ensures.steps.0
