-- The rows of a pattern as parts of its stores.
use mathlib.Core.Bool.{true}
use mathlib.Core.List.{List, [], ◌∷◌}
use mathlib.Core.Path.{◌≡◌, ap, ◌∙◌}
use Prim.Native.Nat.{ℕ, zero, suc, ◌+◌, ◌-◌, ◌≤◌, ◌<◌}
use native.Mathlib.Decide.{dec_le}
use native.Mathlib.Numerals.{add-one}
use native.Mathlib.Omega.{arith}
use lib.Dec.{eqb}
use lib.ListN.{length, take, drop, get_or}
use lib.Seq.{length-slice}
use borrow.Author.Tests.{eqb-true}
use Rattle.lists.specs.Functions.{total}
use Rattle.lists.specs.Sets.{upto}
use Rattle.lists.proofs.Members.{and_left, and_right}
use Rattle.lists.proofs.Places.{upto_snoc, total-append, slice_part}
use Rattle.foundation.specs.Pattern.{Lent, row_of, starts_fit, not_falling}
use Rattle.foundation.proofs.Passing.{rows_before}

-- Where row i + 1 of a lent pattern lies among the entries.
pub record RowLies (p : Lent) (starts columns : List ℕ) (i : ℕ) : Type 0 where
  pub starts_size : length starts ≡ p.height + 1
  pub ordered : get_or starts i 0 ≤ get_or starts (i + 1) 0
  pub within : get_or starts (i + 1) 0 ≤ length columns
  pub size : length (row_of p (i + 1)) ≡ get_or starts (i + 1) 0 - get_or starts i 0
  pub is : take (get_or starts (i + 1) 0 - get_or starts i 0) (drop (get_or starts i 0) columns) ≡ row_of p (i + 1)

module _ (p : Lent) (fit : starts_fit p ≡ true) where
  parts : (length p.starts ≡ suc p.height) × (get_or p.starts p.height 0 ≡ length p.columns)
  unfolding starts_fit
  parts =
      let a = and_right (eqb (length p.starts) (suc p.height)) _ fit in
      let b = and_right (eqb (get_or p.starts 0 0) 0) _ a in
      (eqb-true _ _ (and_left (eqb (length p.starts) (suc p.height)) _ fit), eqb-true _ _ (and_right (not_falling 0 p.starts) _ b))

  -- a row's start and its entries reach to the next row's start
  next_start : (m : ℕ) → suc m ≤ p.height → get_or p.starts (suc m) 0 ≡ get_or p.starts m 0 + length (row_of p (suc m))
  unfolding total
  next_start m h =
      let size : ℕ → ℕ = λ i. length (row_of p i) in
      let split : total size (upto (suc m)) ≡ total size (upto m) + total size (suc m ∷ []) =
      ap (total size) (upto_snoc m) ∙ total-append size (upto m) (suc m ∷ []) in
      omega (arith, split, rows_before p fit (suc m) h, rows_before p fit m (omega arith))

  rises : (k m : ℕ) → k ≤ m → m ≤ p.height → get_or p.starts k 0 ≤ get_or p.starts m 0
  rises k zero a b = let e : k ≡ 0 = omega arith in rw e (omega arith)
  rises k (suc m) a b = elim (dec_le k m) [
    | yes l ↦ omega (arith, rises k m l (omega arith), next_start m b)
    | no l ↦ let e : k ≡ suc m = omega arith in rw e (omega arith)
  ]

  pub row_lies : (i : ℕ) → i < p.height → RowLies p p.starts p.columns i
  unfolding row_of
  row_lies i h =
      let up : get_or p.starts i 0 ≤ get_or p.starts (suc i) 0 = rises i (suc i) (omega arith) h in
      let high : get_or p.starts (suc i) 0 ≤ length p.columns = omega (arith, rises (suc i) p.height h (omega arith), parts.1) in
      record {
        starts_size = omega (arith, parts.0);
        ordered = rw (add-one i) up;
        within = rw (add-one i) high;
        size = rw (add-one i) (length-slice (get_or p.starts i 0) (get_or p.starts (suc i) 0) p.columns high);
        is = rw (add-one i) (slice_part (get_or p.starts i 0) (get_or p.starts (suc i) 0) p.columns up);
      }
