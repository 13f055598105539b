-- `run_call::run_cleared` meets its contract: a test refuses, or the run goes as the reference does. Assumes nothing.
use Rattle.foundation.specs.Pattern.{lent}
use Rattle.run_call.proofs.Outcomes.{passed_asks, all_passed, refused_left, planned_left}
use Rattle.run_call.proofs.run_cleared.Goals as goal

pub run_planned-requires : goal.run_planned-requires
unfolding lent
run_planned-requires c =
    let g = c.requires.given in
    passed_asks _ _ c.args.copy.now c.args.dense.now g.most g.work (all_passed _ _ c.args.copy.now
    c.args.dense.now g c.in-MayRun.ensures) c.requires.blank.0 c.requires.blank.1

pub returns-in-Refused : goal.returns-in-Refused
unfolding lent
returns-in-Refused c = (
  c.requires.blank.1,
  λ w. refused_left _ _ c.args.copy.now c.args.dense.now w c.in-Refused.ensures _,
)

pub returns-in-MayRun : goal.returns-in-MayRun
unfolding lent
returns-in-MayRun c =
    let run-planned = c.run_planned in (
      run-planned.ensures.0,
      λ w. planned_left _ _ c.args.copy.now c.args.dense.now w
          c.in-MayRun.ensures c.requires.blank.0 c.requires.blank.1 run-planned.result _ run-planned.ensures.1
          run-planned.auto.l run-planned.auto.u,
    )
