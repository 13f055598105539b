-- `from_steps` meets its contract: for each pattern whose steps the stores contain, the list grown and what is left of the chain make the kept list of k.
use mathlib.Core.Path.{ap, ◌∙◌}
use Rattle.plan_gather.specs.Gathering.{without}
use Rattle.plan_gather.proofs.Contains.{opened_inside, opened_list}
use Rattle.plan_grow.proofs.Turns.{steps_start, step_turn, step_asks}
use Rattle.plan_grow.proofs.Growing.{gathers_here, gathers_turn, gathers_end}
use Rattle.plan_grow.proofs.grow.from_steps.Goals as goal

pub loop-l-init : goal.loop-l-init
loop-l-init c = (tt, tt, λ p side ready. rw (c.into_iter-l-iterator.ensures.into_iter_gives, c.walk-l-items.ensures _ ready.linked) (steps_start ready))

pub list_place-lies-requires : goal.list_place-lies-requires
list_place-lies-requires c =
    let (p, side, ready) = c.requires in
    step_asks (step_turn ready _ (gathers_here (c.loop-l.invariant.2 p side ready) c.in-Some.ensures.steps)) c.well_formed.1.1.1.1.0.1

pub list_at-requires : goal.list_at-requires
list_at-requires c =
    let (p, side, ready) = c.requires in
    opened_inside (step_turn ready _ (gathers_here (c.loop-l.invariant.2 p side ready) c.in-Some.ensures.steps)).opens c.list_place-lies.ensures

pub join-count-requires : goal.join-count-requires
join-count-requires c =
    let (p, side, ready) = c.requires in
    let g = c.loop-l.invariant.2 p side ready in
    let r = step_turn ready _ (gathers_here g c.in-Some.ensures.steps) in
    let e = c.list_at.ensures ∙ opened_list r.opens c.list_place-lies.ensures in
    (_, g.so_far, g.grown, g.within, rw e r.within)

pub loop-l-preserved : goal.loop-l-preserved
loop-l-preserved c = (
  tt,
  tt,
  λ p side ready.
      let g = c.loop-l.invariant.2 p side ready in
      let next = c.in-Some.ensures.steps in
      let r = step_turn ready _ (gathers_here g next) in
      let e = c.list_at.ensures ∙ opened_list r.opens c.list_place-lies.ensures in
      gathers_turn g next _ (rw e r.within) (ap (without _) e) (c.join-count.ensures _ g.so_far g.grown),
)

pub returns : goal.returns
returns c = λ p side ready. gathers_end (c.loop-l.invariant.2 p side ready) c.in-None.ensures.steps.0
