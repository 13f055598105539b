-- `numbers_of` meets its contract: for each pattern whose rows the chain links, the list grown and what is left of the chain make what all its rows
-- bring to L, and what is grown is below what is left.
use Rattle.lists.proofs.Small.{still_below}
use Rattle.plan_grow.proofs.Turns.{numbers_start, number_passed, number_place, number_added, numbers-turn}
use Rattle.plan_grow.proofs.Growing.{gathers_end}
use Rattle.plan_grow.proofs.grow.numbers_of.Goals as goal

pub loop-i-init : goal.loop-i-init
loop-i-init c = (tt, tt, λ p of linked size. rw (c.into_iter-i-iterator.ensures.into_iter_gives, c.walk-i-items.ensures _ linked) (numbers_start of _ size))

pub bounds-growing-count : goal.bounds-growing-count
bounds-growing-count c =
    let (p, of, linked, size) = c.requires in
    let j = c.loop-i.invariant.2 p of linked size in
    still_below (number_place of j c.in-Some.ensures.steps c.if-i-k.true) j.joined.grown.store_size

pub loop-i-preserved-then-i-k : goal.loop-i-preserved-then-i-k
loop-i-preserved-then-i-k c = (
  tt,
  tt,
  λ p of linked size.
      let j = c.loop-i.invariant.2 p of linked size in
      let next = c.in-Some.ensures.steps in
      numbers-turn of j next (number_added of j next c.if-i-k.true),
)

pub loop-i-preserved : goal.loop-i-preserved
loop-i-preserved c = (
  tt,
  tt,
  λ p of linked size.
      let j = c.loop-i.invariant.2 p of linked size in
      let next = c.in-Some.ensures.steps in
      numbers-turn of j next (number_passed of j next c.if-i-k.false),
)

pub returns : goal.returns
returns c = λ p of linked size. gathers_end (c.loop-i.invariant.2 p of linked size).joined c.in-None.ensures.steps.0
