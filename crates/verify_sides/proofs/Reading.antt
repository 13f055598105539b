-- What is read of the kept list of a step, by where it is said to lie.
use mathlib.Core.List.{List, [], ◌∷◌}
use mathlib.Core.Path.{◌≡◌, refl}
use Prim.Native.Nat.{ℕ, ◌+◌, ◌-◌, ◌≤◌, ◌<◌}
use native.Mathlib.Omega.{arith}
use lib.ListN.{length, take, drop, get_or, length-drop}
use lib.Seq.{take_all}
use Rattle.foundation.specs.Pattern.{Lent, lent, max_entries}
use Rattle.foundation.specs.Plan.{Side, lower, upper, brings}
use Rattle.foundation.specs.Subscripts.{sole_step}
use Rattle.plan_gather.specs.Ready.{lent_by, plan_of}
use Rattle.plan_gather.specs.Steps.{StepOf}
use Rattle.plan_share.specs.Adding.{RestOf}
use Rattle.plan_lists.specs.Lying.{AddedBehind}
use Rattle.plan_lists.proofs.Whole.{met-not-sole}
use Rattle.plan_lists.proofs.Reading.{columns-from}

-- ---- the row adds to what stands at the store's end

pub behind-not-sole : {p : Lent} {side : Side} {k row t from : ℕ} {xs : List ℕ} → AddedBehind p side k row t from xs → sole_step (plan_of p) k ≡ 0
behind-not-sole {p} {side} {k} behind = met-not-sole p k behind.rows

-- in L the row itself, or nothing
pub own-rest :
    {p : Lent} {k t from row : ℕ} {xs : List ℕ} → AddedBehind p lower k row t from xs
    → (from ≤ 1) × RestOf p lower k t (take (1 - from) (drop from (row ∷ [])))
unfolding brings
own-rest {from = from} {row = row} behind =
    let few : from ≤ 1 = behind.inside in
    let all : take (1 - from) (drop from (row ∷ [])) ≡ drop from (row ∷ []) = take_all (1 - from) (drop from (row ∷ [])) (rw length-drop (omega arith)) in
    (few, rw all behind.rest)

-- in U its columns from a place on
pub record RestRead (n : ℕ) (starts columns : List ℕ) (k t from row : ℕ) : Type 0 where
  pub low : 1 ≤ row
  pub high : row < length starts
  pub rising : get_or starts (row - 1) 0 + from ≤ get_or starts row 0
  pub inside : get_or starts row 0 ≤ length columns
  pub few : length columns ≤ 16384
  pub found : RestOf (lent_by n starts columns) upper k t (take (get_or starts row 0 - (get_or starts (row - 1) 0 + from)) (drop (get_or starts (row - 1) 0 + from) columns))

pub columns-rest :
    {n : ℕ} {starts columns : List ℕ} {k t from row : ℕ} {xs : List ℕ} → StepOf (lent_by n starts columns) n k
    → AddedBehind (lent_by n starts columns) upper k row t from xs → RestRead n starts columns k t from row
unfolding max_entries lent_by lent
columns-rest {n} {starts} {columns} {k} {t} {from} {row} of behind =
    let read = columns-from n starts columns k row from _ of behind.rows behind.inside refl in
    record {
      low = read.low;
      high = read.in_starts;
      rising = read.rising;
      inside = read.inside;
      few = of.ready.entries;
      found = rw read.is behind.rest;
    }
