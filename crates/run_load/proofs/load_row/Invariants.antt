-- `run_load::load_row` meets its contract: the columns before q are done.
use mathlib.Core.Path.{◌≡◌}
use Prim.Native.Nat.{◌≤◌, ◌<◌, ◌-◌, ◌*◌, ◌^◌}
use lib.ListN.{length, take}
use Rattle.answers.specs.Stores.{plan_stores}
use Rattle.run_load.specs.Rows.{RowAsks, Loaded}
use Rattle.run_load.proofs.load_row.Given as goal

abbrev pub invariant-loop-q : goal.invariant-loop-q
invariant-loop-q l =
    (l.q ≤ length l.columns) × ((length l.l ≡ length l.initial.l) × (length l.u ≡ length l.initial.u) × (length l.d ≡ length l.initial.d))
    × ((length l.initial.l * 8 < 2 ^ 63) × (length l.initial.u * 8 < 2 ^ 63) × (length l.initial.d * 8 < 2 ^ 63))
    × ((w : RowAsks l.i l.columns l.values (plan_stores l.l_subs l.l_starts l.l_slots l.u_subs l.u_starts l.u_slots) l.initial.l l.initial.u l.initial.d)
    → Loaded w.s w.n w.target l.i (take l.q l.columns) l.l l.u l.d)

abbrev pub decreases-loop-q : goal.decreases-loop-q
decreases-loop-q l = length l.columns - l.q
