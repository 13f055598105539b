-- `judging::judge` meets its contract: planning's answer, then the three tests in order. Assumes nothing.
use mathlib.Core.Path.{refl}
use Rattle.foundation.specs.Pattern.{pattern_of}
use Rattle.answers.specs.Runs.{chosen_by, extent_of}
use Rattle.answers.specs.RunStores.{lending_by}
use Rattle.foundation.specs.RunCall.{all_finite}
use Rattle.run_judge.proofs.Tests.{pattern-width, pattern-height, test_plan, test_verified, lending_sizes, test_order}
use Rattle.run_judge.proofs.judging.judge.Goals as goal

pub returns-in-Refused : goal.returns-in-Refused
returns-in-Refused c w =
    let a = c.args in
    test_plan w a.copy a.dense (chosen_by a.choice a.rows.now) (extent_of a.extent) _ _ _ _ c.floats_fit-sized.ensures
    (c.may_run-may.ensures w.p w.width w.tall_is) c.plan_judgement-planned.ensures _ c.in-Refused.is

pub returns : goal.returns
unfolding all_finite
returns c w =
    let a = c.args in
    let choice = chosen_by a.choice a.rows.now in
    let extent = extent_of a.extent in
    let lending = lending_by a.values.now a.right.now a.l a.u a.d a.x a.pivots in
    let v = test_verified w a.copy a.dense choice extent lending _ _ _ c.floats_fit-sized.ensures
    (c.may_run-may.ensures w.p w.width w.tall_is) c.plan_judgement-planned.ensures
    c.in_default.is in
    let lends = c.lending_fits-lends.ensures w.p _ lending (lending_sizes w a.copy a.dense choice extent lending v refl refl refl refl refl
    refl refl) in
    let ordered = c.order_fits-ordered.ensures (pattern_of w.p) (pattern-width w.p w.width) (pattern-height w.p w.tall_is) in
    test_order w a.copy a.dense choice extent lending v _ _ _ _ c.in_order.ensures lends c.numbers_fit-fine.ensures ordered
