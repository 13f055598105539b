-- `stands_at` meets its contract. The loop's invariant: the list's first i numbers stand at their places in the store.
use mathlib.Core.Path.{◌≡◌}
use Prim.Native.Nat.{ℕ, ◌+◌, ◌-◌, ◌≤◌, ◌<◌}
use lib.ListN.{length, get_or}
use Rattle.plan_share.proofs.compare.stands_at.Given as goal

abbrev pub invariant-loop-i : goal.invariant-loop-i
invariant-loop-i l =
    (l.i ≤ length l.list) × (length l.list ≤ length l.store - l.from) × ((j : ℕ) → j < l.i → get_or l.store (l.from + j) 0 ≡ get_or l.list j 0)

abbrev pub decreases-loop-i : goal.decreases-loop-i
decreases-loop-i l = length l.list - l.i
