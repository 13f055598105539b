-- `run_solve::solved_row` meets its contract: what is still to be taken off is one equation.
use mathlib.Core.Path.{◌≡◌}
use Prim.Native.Nat.{◌≤◌, ◌-◌}
use lib.ListN.{length, drop}
use Rattle.run_solve.specs.Rows.{less_all}
use Rattle.run_solve.proofs.solved_row.Given as goal

abbrev pub invariant-loop-q : goal.invariant-loop-q
invariant-loop-q l =
    (l.q ≤ length l.row) × (less_all (drop l.q l.row) (drop l.q l.subs) l.x l.value ≡ less_all l.row l.subs l.x l.own)

abbrev pub decreases-loop-q : goal.decreases-loop-q
decreases-loop-q l = length l.row - l.q
