-- `reduce_diagonal` meets its contract: the loop's invariant is `Rewritten`, of the rows done; the walk along the columns is `Passed`.
use mathlib.Core.List.{map}
use mathlib.Core.Path.{◌≡◌}
use Prim.Native.Nat.{ℕ, ◌≤◌, ◌-◌}
use lib.Ieee.{Float}
use lib.ListN.{length, take}
use Rattle.lists.specs.Sets.{upto}
use Rattle.foundation.specs.Reference.{reduced}
use Rattle.run_column.specs.Column.{Rewritten}
use Rattle.run_column.proofs.Rewriting.{Passed}
use Rattle.run_stretch.specs.Stretches.{UpTo}
use Rattle.run_column.proofs.loops.reduce_diagonal.Given as goal

abbrev pub invariant-loop-t : goal.invariant-loop-t
invariant-loop-t l =
    (l.t ≤ length l.rows) × (l.s ≤ length l.columns) × (length l.d ≡ length l.initial.d) × Passed l.t l.s l.rows l.columns
    × UpTo (length l.initial.d) l.t l.rows
    × ((f m u : ℕ → Float) → l.initial.d ≡ map f (upto (length l.initial.d)) → l.factors ≡ map m l.rows → l.values ≡ map u l.columns
    → Rewritten f (λ i. reduced (m i) (u i) (f i)) (take l.t l.rows) (length l.initial.d) l.flag l.d l.bad)

abbrev pub decreases-loop-t : goal.decreases-loop-t
decreases-loop-t l = length l.rows - l.t
