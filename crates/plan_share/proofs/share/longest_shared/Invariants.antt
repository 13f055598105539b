-- `longest_shared` meets its contract: a length that ends above the store's last subscript is ruled out, and of the first one that does not every number is
-- compared: where none differs it is the overlap, and where one differs nothing is shared.
use mathlib.Core.Path.{◌≡◌}
use Prim.Native.Nat.{ℕ, ◌+◌, ◌≤◌, ◌<◌, ◌-◌}
use lib.ListN.{get_or}
use Rattle.plan_share.proofs.Sharing.{Reached}
use Rattle.plan_share.proofs.share.longest_shared.Given as goal

abbrev pub invariant-loop-i : goal.invariant-loop-i
invariant-loop-i l = (l.i ≤ l.t) × ((k : ℕ) → k < l.i → get_or l.store (l.from + k) 0 ≡ get_or l.new k 0)

abbrev pub decreases-loop-i : goal.decreases-loop-i
decreases-loop-i l = l.t - l.i

abbrev pub invariant-shorter : goal.invariant-shorter
invariant-shorter l = Reached l.store l.new l.t

abbrev pub decreases-shorter : goal.decreases-shorter
decreases-shorter l = l.t
