-- `lending::all_finite` meets its contract: what is still to be tested decides.
use mathlib.Core.Path.{◌≡◌}
use Prim.Native.Nat.{◌≤◌, ◌-◌}
use lib.ListN.{length, drop}
use Rattle.lists.specs.Functions.{all}
use Rattle.foundation.specs.Numbers.{finite}
use Rattle.run_judge.proofs.lending.all_finite.Given as goal

abbrev pub invariant-loop-q : goal.invariant-loop-q
invariant-loop-q l = (l.q ≤ length l.values) × (all finite (drop l.q l.values) ≡ all finite l.values)

abbrev pub decreases-loop-q : goal.decreases-loop-q
decreases-loop-q l = length l.values - l.q
