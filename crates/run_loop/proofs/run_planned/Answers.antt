-- `run_loop::run_planned` meets its contract: what each part leaves is what the next asks for. Assumes nothing.
use Rattle.foundation.specs.Pattern.{lent}
use Rattle.run_loop.proofs.Whole.{steps_ask, end_asks, run_ends}
use Rattle.run_loop.proofs.run_planned.Goals as goal

pub load-requires : goal.load-requires
load-requires c = c.requires.load

pub run_steps-end-requires : goal.run_steps-end-requires
unfolding lent
run_steps-end-requires c = steps_ask c.requires c.steps_of-count.ensures (c.load.ensures c.requires.load)

pub finish-requires : goal.finish-requires
unfolding lent
finish-requires c =
    end_asks c.requires c.steps_of-count.ensures (c.load.ensures c.requires.load) c.run_steps-end.result _ _ _ _ _
    c.run_steps-end.ensures.1

pub returns : goal.returns
unfolding lent
returns c = (
  c.run_steps-end.ensures.0,
  λ w. run_ends w c.steps_of-count.ensures (c.load.ensures w.load) c.run_steps-end.result
      c.finish.result _ _ _ _ _ _ c.run_steps-end.ensures.1 c.finish.ensures,
)
