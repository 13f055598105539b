-- `collect_influence` meets its contract: where S_k is empty the lists are whole already, and else 2.4 makes them so.
use native.Mathlib.Omega.{arith}
use Rattle.foundation.specs.Plan.{after_test}
use Rattle.plan_turn.proofs.Influence.{whole_at_once}
use Rattle.plan_turn.proofs.turn.collect_influence.Goals as goal

pub returns-then-set-eq0 : goal.returns-then-set-eq0
returns-then-set-eq0 c = whole_at_once c.requires.side_at.0.step c.requires.chains_of.0 c.if-set-eq0.true c.requires.lists_at

pub collect_steps-requires : goal.collect_steps-requires
unfolding after_test
collect_steps-requires c =
    record {
      side_at = c.requires.side_at;
      chains_of = (c.requires.chains_of.0, omega (arith, c.if-set-eq0.false), c.requires.chains_of.1);
      lists_at = c.requires.lists_at;
    }

pub returns : goal.returns
returns c = c.collect_steps.ensures
