-- `run_loop::run_steps` meets its contract. The loop's invariant: the steps before k are done; its measure: the steps to come. Assumes nothing.
use Prim.Native.Nat.{◌+◌, ◌-◌}
use Rattle.answers.specs.RunStores.{run_stores}
use Rattle.answers.specs.Runs.{chosen_by}
use Rattle.answers.specs.Stores.{plan_stores}
use Rattle.run_loop.proofs.Stepwise.{Underway}
use Rattle.run_loop.proofs.run_steps.Given as goal

abbrev pub invariant-loop-k : goal.invariant-loop-k
invariant-loop-k l =
    Underway l.count (chosen_by l.choice l.rows) (plan_stores l.l_subs l.l_starts l.l_slots l.u_subs l.u_starts l.u_slots)
    (run_stores l.initial.l l.initial.u l.initial.d l.initial.x l.initial.pivots) l.initial.copy l.initial.dense
    (run_stores l.l l.u l.d l.x l.pivots) l.copy l.dense l.updates l.k

abbrev pub decreases-loop-k : goal.decreases-loop-k
decreases-loop-k l = l.count + 1 - l.k
