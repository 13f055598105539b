-- `plan_steps` meets its contract. The loop's invariant: the steps before k are done, in stores of the sizes that were lent;
-- its measure: the steps to come.
use mathlib.Core.Path.{◌≡◌}
use Prim.Native.Nat.{◌+◌, ◌-◌}
use lib.ListN.{length}
use Rattle.answers.specs.Stores.{plan_stores}
use Rattle.plan_gather.specs.Ready.{lent_by}
use Rattle.plan_gather.specs.Steps.{chain_stores}
use Rattle.plan_loop.proofs.Progress.{SameSizes, Underway}
use Rattle.plan_loop.proofs.steps.plan_steps.Given as goal

abbrev pub invariant-loop-k : goal.invariant-loop-k
invariant-loop-k l =
    Underway (lent_by l.n l.starts l.columns) l.n l.k (length l.initial.l_subs) (length l.initial.u_subs) (chain_stores l.row_heads l.row_links l.set_heads l.set_links)
    (plan_stores l.l_subs l.l_starts l.l_slots l.u_subs l.u_starts l.u_slots) l.list l.spare l.l_end.0 l.u_end.0 l.reads
    × (length l.row_heads ≡ length l.initial.row_heads)
    × SameSizes l.initial.set_heads l.set_heads l.initial.set_links l.set_links l.initial.l_subs l.l_subs l.initial.l_starts l.l_starts l.initial.l_slots l.l_slots
    × SameSizes l.initial.u_subs l.u_subs l.initial.u_starts l.u_starts l.initial.u_slots l.u_slots l.initial.list l.list l.initial.spare l.spare

abbrev pub decreases-loop-k : goal.decreases-loop-k
decreases-loop-k l = l.n + 1 - l.k
