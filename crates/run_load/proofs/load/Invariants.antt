-- `run_load::load` meets its contract: the rows before i + 1 are loaded.
use mathlib.Core.List.{List, []}
use mathlib.Core.Path.{◌≡◌}
use Prim.Native.Nat.{◌≤◌, ◌<◌, ◌-◌, ◌+◌, ◌*◌, ◌^◌}
use lib.Ieee.{Float}
use lib.ListN.{length, get_or}
use Rattle.foundation.specs.Pattern.{lent}
use Rattle.answers.specs.Stores.{plan_stores}
use Rattle.run_slots.specs.Handing.{LoadAsks}
use Rattle.run_slots.specs.Shows.{square_stores}
use Rattle.run_load.specs.Rows.{Loaded}
use Rattle.run_load.proofs.Whole.{target}
use Rattle.run_load.proofs.load.Given as goal

abbrev pub invariant-loop-i : goal.invariant-loop-i
invariant-loop-i l =
    (l.i ≤ l.height) × ((length l.l ≡ length l.initial.l) × (length l.u ≡ length l.initial.u) × (length l.d ≡ length l.initial.d))
    × (length l.columns * 8 < 2 ^ 63)
    × (l.i < l.height → (length l.starts ≡ l.height + 1) × (get_or l.starts l.i 0 ≤ get_or l.starts (l.i + 1) 0) × (get_or l.starts (l.i + 1) 0 ≤ length l.columns) ×
    (get_or l.starts (l.i + 1) 0 ≤ length l.values))
    × ((x₀ : List Float) (w : LoadAsks (lent l.n l.height l.starts l.columns) l.values l.right (plan_stores l.l_subs l.l_starts l.l_slots l.u_subs l.u_starts l.u_slots)
    (square_stores l.initial.l l.initial.u l.initial.d x₀)) → Loaded w.s l.n (target _ _ _ _ _ w) (l.i + 1) [] l.l l.u l.d)

abbrev pub decreases-loop-i : goal.decreases-loop-i
decreases-loop-i l = l.height - l.i
