-- `verify_steps` meets its contract. The loop's invariant: the lent stores contain the steps before k; its measure: the steps to
-- come. Assumes nothing.
use Prim.Native.Nat.{◌+◌, ◌-◌}
use Rattle.answers.specs.Stores.{plan_stores}
use Rattle.plan_gather.specs.Ready.{lent_by}
use Rattle.plan_gather.specs.Steps.{chain_stores}
use Rattle.verify_loop.proofs.Progress.{VerifyUnderway}
use Rattle.verify_loop.proofs.steps.verify_steps.Given as goal

abbrev pub invariant-loop-k : goal.invariant-loop-k
invariant-loop-k l =
    VerifyUnderway (lent_by l.n l.starts l.columns) l.n l.k (chain_stores l.row_heads l.row_links l.set_heads l.set_links) (plan_stores l.l_subs l.l_starts l.l_slots l.u_subs l.u_starts
    l.u_slots) l.list l.spare l.l_end.0 l.u_end.0 l.reads

abbrev pub decreases-loop-k : goal.decreases-loop-k
decreases-loop-k l = l.n + 1 - l.k
