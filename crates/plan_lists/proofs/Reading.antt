-- What the one row that is first met at a step brings, as the code reads it.
use mathlib.Core.List.{List, [], ◌∷◌}
use mathlib.Core.Path.{◌≡◌, sym, ◌∙◌}
use Prim.Native.Nat.{ℕ, ◌+◌, ◌-◌, ◌≤◌, ◌<◌}
use native.Mathlib.Omega.{arith}
use lib.ListN.{length, take, drop, get_or}
use lib.Seq.{drop-drop}
use Rattle.lists.specs.Functions.{span}
use Rattle.lists.proofs.Members.{member_head}
use Rattle.lists.proofs.Places.{slice_part}
use Rattle.foundation.specs.Pattern.{Lent, lent, pattern_of, row_of}
use Rattle.foundation.specs.Plan.{Side, lower, upper, brings}
use Rattle.foundation.specs.PlanCall.{SideStores}
use Rattle.plan_gather.specs.Ready.{lent_by, plan_of}
use Rattle.plan_gather.specs.Gathering.{without}
use Rattle.plan_gather.specs.Steps.{StepOf, SideAt, kept_steps}
use Rattle.plan_gather.proofs.Chaining.{starts_size, row_rises, row_ends, row_is, row_size}
use Rattle.plan_gather.proofs.Gathering.{met_row, steps_kept}
use Rattle.plan_gather.proofs.Turning.{step_high}
use Rattle.plan_share.specs.Adding.{NewList}
use Rattle.plan_lists.specs.Lying.{BroughtAlone}
use Rattle.plan_lists.proofs.Whole.{met-not-sole}

-- what the row brings, less k, is the new list
pub new_brought :
    {p : Lent} {side : Side} {n k row : ℕ} {i : SideStores} {end : ℕ} → SideAt p side n k i end → BroughtAlone p side k row (kept_steps p side k)
    → {new : List ℕ} → new ≡ without k (brings (pattern_of p) side row) → NewList p side n k new i end
new_brought {p} {side} {n} {k} at alone e =
    record {
      at = at;
      new_is = e ∙ sym alone.is ∙ steps_kept p at.step.ready k at.step.low (step_high at.step) side;
      not-sole = met-not-sole p k alone.rows;
    }

-- to L it brings itself
pub new-own :
    {p : Lent} {n k row : ℕ} {i : SideStores} {end : ℕ} → SideAt p lower n k i end → BroughtAlone p lower k row (kept_steps p lower k)
    → {new : List ℕ} → new ≡ without k (row ∷ []) → NewList p lower n k new i end
unfolding brings
new-own at alone e = new_brought at alone e

-- To U it brings its columns: from `first` on, as the part of the columns that the code lends, they are xs.
pub record ColumnsRead (starts columns : List ℕ) (row first : ℕ) (xs : List ℕ) : Type 0 where
  pub low : 1 ≤ row
  pub in_starts : row < length starts
  pub rising : first ≤ get_or starts row 0
  pub inside : get_or starts row 0 ≤ length columns
  pub is : take (get_or starts row 0 - first) (drop first columns) ≡ xs

pub columns-from :
    (n : ℕ) (starts columns : List ℕ) (k row from first : ℕ) → StepOf (lent_by n starts columns) n k → (plan_of (lent_by n starts columns)).first_met k ≡ row ∷ []
    → from ≤ length (brings (pattern_of (lent_by n starts columns)) upper row) → first ≡ get_or starts (row - 1) 0 + from
    → ColumnsRead starts columns row first (drop from (brings (pattern_of (lent_by n starts columns)) upper row))
unfolding lent_by lent brings pattern_of
columns-from n starts columns k row from first of rows few first_is =
    let p : Lent = lent_by n starts columns in
    let (low, high) = met_row p of.ready k of.low of.high row (rw rows (member_head row [])) in
    let rising : get_or starts (row - 1) 0 ≤ get_or starts row 0 = row_rises p of.ready row low high in
    let size : span starts row ≡ length (row_of p row) = row_size p of.ready row low high in
    let behind : first ≤ get_or starts row 0 = omega arith in
    record {
      low = low;
      in_starts = omega (arith, starts_size p of.ready);
      rising = behind;
      inside = row_ends p of.ready row low high;
      is = slice_part first (get_or starts row 0) columns behind ∙ rw (first_is, row_is p of.ready row low high, drop-drop);
    }

module _ (n : ℕ) (starts columns : List ℕ) {k row : ℕ} (of : StepOf (lent_by n starts columns) n k) {xs : List ℕ}
    (alone : BroughtAlone (lent_by n starts columns) upper k row xs) where
  -- the whole row
  pub columns_all : ColumnsRead starts columns row (get_or starts (row - 1) 0) (brings (pattern_of (lent_by n starts columns)) upper row)
  columns_all = columns-from n starts columns k row 0 _ of alone.rows (omega arith) (let z : get_or starts (row - 1) 0 ≡ get_or starts (row - 1) 0 + 0 = omega arith in z)
