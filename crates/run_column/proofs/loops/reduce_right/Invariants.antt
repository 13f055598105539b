-- `reduce_right` meets its contract: the loop's invariant is `Rewritten`, of the rows done.
use mathlib.Core.List.{map}
use mathlib.Core.Path.{◌≡◌}
use Prim.Native.Nat.{ℕ, ◌≤◌, ◌-◌}
use lib.Ieee.{Float, nan}
use lib.ListN.{length, get_or, take}
use Rattle.run_slots.specs.Products.{less_product}
use Rattle.lists.specs.Sets.{upto}
use Rattle.run_column.specs.Column.{Rewritten}
use Rattle.run_column.proofs.loops.reduce_right.Given as goal

abbrev pub invariant-loop-t : goal.invariant-loop-t
invariant-loop-t l =
    (l.t ≤ length l.rows) × (length l.x ≡ length l.initial.x) × (l.top ≡ get_or l.initial.x (l.k - 1) nan)
    × ((f m : ℕ → Float) → l.initial.x ≡ map f (upto (length l.initial.x)) → l.factors ≡ map m l.rows
    → Rewritten f (λ i. less_product (m i) (f l.k) (f i)) (take l.t l.rows) (length l.initial.x) l.flag l.x l.bad)

abbrev pub decreases-loop-t : goal.decreases-loop-t
decreases-loop-t l = length l.rows - l.t
