-- `run_call::run_verified` meets its contract: stores are cleared, run in, and cleared again. Assumes nothing.
use Rattle.run_call.proofs.Leaving.{blank_first, clear_first, run_left}
use Rattle.run_call.proofs.run_verified.Goals as goal

pub run_cleared-outcome-requires : goal.run_cleared-outcome-requires
run_cleared-outcome-requires c =
    record {
      given = c.requires;
      blank = (blank_first _ _ c.clear_results.ensures, clear_first c.args.dense.now _ c.clear_floats.ensures);
    }

pub returns : goal.returns
returns c w =
    run_left _ _ w _ c.args.copy.now c.args.dense.now _ _ c.run_cleared-outcome.result _ _
    c.run_cleared-outcome.new.copy _ _ c.clear_results.ensures
    c.clear_floats.ensures (c.run_cleared-outcome.ensures.1 w)
    (record {
      l_size = c.run_cleared-outcome.auto.l;
      u_size = c.run_cleared-outcome.auto.u;
      d_size = c.run_cleared-outcome.auto.d;
      x_size = c.run_cleared-outcome.auto.x;
      pivots_size = c.run_cleared-outcome.auto.pivots;
    })
    c.run_cleared-outcome.auto.copy c.clear_floats-2.ensures
    c.run_cleared-outcome.auto.dense c.run_cleared-outcome.ensures.0
    c.clear_if_stopped.ensures
