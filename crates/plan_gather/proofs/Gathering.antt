-- What the rows first met at a step and the steps handed on to it bring.
use mathlib.Core.Bool.{true, not}
use mathlib.Core.List.{List, []}
use mathlib.Core.Logic.{⊎_elim}
use mathlib.Core.Path.{◌≡◌, sym, ap, ◌∙◌}
use Prim.Native.Nat.{ℕ, zero, suc, ◌-◌, ◌≤◌, ◌<◌}
use native.Mathlib.Nat.{le_refl}
use native.Mathlib.Numerals.{add-one}
use native.Mathlib.Omega.{arith}
use lib.Dec.{eqb, leb}
use lib.ListN.{length, take, drop, get_or}
use borrow.Author.Tests.{eqb-true, eqb-false, le-leb, lt-leb}
use Rattle.lists.specs.Functions.{keep}
use Rattle.lists.specs.Sets.{member, Ascending, join_all, from}
use Rattle.lists.proofs.Members.{by_test, member_cases, not-member-nil}
use Rattle.lists.proofs.Order.{member-low, ascending_weaken, ascending_raise, ascending-from}
use Rattle.lists.proofs.Kept.{keep_cong}
use Rattle.lists.proofs.Least.{least-least}
use Rattle.foundation.specs.Pattern.{Lent, lent, pattern_of, row_of}
use Rattle.foundation.specs.Plan.{Side, lower, upper, list, brings, from_steps, plan}
use Rattle.foundation.specs.Subscripts.{kept}
use Rattle.foundation.proofs.Listed.{row_high, further_above}
use Rattle.foundation.proofs.ReadsBound.{first_ascends}
use Rattle.foundation.proofs.Steps.{from_rows, plan_list}
use Rattle.foundation.proofs.InStep.{rows_lists, steps_lists}
use Rattle.lists.proofs.Places.{slice_part}
use Rattle.plan_gather.specs.Ready.{lent_by, Ready, plan_of}
use Rattle.plan_gather.specs.Gathering.{without, omit, Within}
use Rattle.plan_gather.specs.Steps.{kept_rows, kept_steps}
use Rattle.plan_pattern.proofs.Judging.{Fitted, row_order, row_within}
use Rattle.plan_gather.proofs.Contains.{facts, kept_within}
use Rattle.plan_gather.proofs.Joining.{omit-without, without-within, join_all-within, omit-join_all, within_none}

-- ---- the rows first met at a step

-- a row, as the part of the columns that the code lends
pub record RowRead (n : ℕ) (starts columns : List ℕ) (i : ℕ) : Type 0 where
  pub low : 1 ≤ i
  pub in_starts : i < length starts
  pub rising : get_or starts (i - 1) 0 ≤ get_or starts i 0
  pub inside : get_or starts i 0 ≤ length columns
  pub is : take (get_or starts i 0 - get_or starts (i - 1) 0) (drop (get_or starts (i - 1) 0) columns) ≡ row_of (lent_by n starts columns) i

pub row_read : (n height : ℕ) (starts columns : List ℕ) → Fitted height starts columns → (i : ℕ) → 1 ≤ i → i ≤ height → RowRead n starts columns i
unfolding row_of lent_by lent
row_read n height starts columns fit zero low high = absurd (omega arith)
row_read n height starts columns fit (suc i) low high =
    let e : suc i - 1 ≡ i = omega arith in
    let rising : get_or starts i 0 ≤ get_or starts (suc i) 0 = rw add-one at (row_order height starts columns fit i (omega arith)) in
    record {
      low = low;
      in_starts = omega (arith, fit.count);
      rising = rw e rising;
      inside = rw add-one at (row_within height starts columns fit i (omega arith));
      is = rw e (slice_part (get_or starts i 0) (get_or starts (suc i) 0) columns rising);
    }

module _ (p : Lent) (ready : Ready p) (k : ℕ) (low : 1 ≤ k) (high : k ≤ p.n) where
  -- a row first met at k is a row
  pub met_row : (i : ℕ) → member i ((plan_of p).first_met k) ≡ true → (1 ≤ i) × (i ≤ p.height)
  unfolding pattern_of
  met_row i m = let f = ((facts p ready).first_met_lem k i low high).0 m in (f.0, f.1)

  -- what it brings is k or more, and no more than there are rows
  pub brings-within : (side : Side) (i : ℕ) → member i ((plan_of p).first_met k) ≡ true → Within k p.height (brings (pattern_of p) side i)
  unfolding brings pattern_of plan_of plan Ascending
  brings-within lower i m =
      record {
        ascending = (row_high (pattern_of p) ready.plannable p.n (le_refl p.n) k i low high m, tt);
        bounded = λ x e. ⊎_elim (λ (q : x ≡ i). omega (arith, met_row i m)) (λ e. absurd (not-member-nil x e)) (member_cases x i [] e);
      }
  brings-within upper i m =
      let f = ((facts p ready).first_met_lem k i low high).0 m in
      let up : Ascending 1 (row_of p i) = ready.plannable.ascending i f.0 f.1 in
      record {
        ascending = ascending_raise 1 k (row_of p i) up λ x e.
            let least = least-least x 0 1 (row_of p i) up e (member-low x 1 (row_of p i) up e) in
            let q = f.2 in
            omega arith;
        bounded = λ x e. omega (arith, ready.tall, ready.plannable.bounded i x f.0 f.1 e);
      }

  -- the kept list after 2.2 is what the rows bring
  rows_kept : (side : Side) → kept_rows p side k ≡ omit k (from_rows (pattern_of p) side ((plan_of p).first_met k))
  unfolding plan_of plan pattern_of
  rows_kept side = ap (omit k) (rows_lists (pattern_of p) k low p.n high side)

  -- each without k
  pub from-rows_is : (side : Side) → join_all (λ i. without k (brings (pattern_of p) side i)) [] ((plan_of p).first_met k) ≡ kept_rows p side k
  unfolding from_rows Ascending omit keep
  from-rows_is side =
      sym
      (rows_kept side
      ∙ omit-join_all k (brings (pattern_of p) side) (λ i. without k (brings (pattern_of p) side i)) [] ((plan_of p).first_met k) tt
      (λ i m. (brings-within side i m).ascending)
      (λ i m. omit-without k (brings (pattern_of p) side i) (brings-within side i m).ascending))

  rows-within : (side : Side) → Within k p.height (from_rows (pattern_of p) side ((plan_of p).first_met k))
  unfolding from_rows
  rows-within side = join_all-within k p.height (brings (pattern_of p) side) [] ((plan_of p).first_met k) (within_none k p.height) (brings-within side)

  -- and that is within bounds
  pub from-rows-within : (side : Side) → Within (suc k) p.height (kept_rows p side k)
  from-rows-within side =
      let w = rows-within side in
      rw (rows_kept side, omit-without k (from_rows (pattern_of p) side ((plan_of p).first_met k)) w.ascending) (without-within k p.height _ w)

  -- the rows first met at k ascend
  pub met_ascend : Ascending 0 ((plan_of p).first_met k)
  unfolding plan_of plan pattern_of
  met_ascend = ascending_weaken 0 1 _ (omega arith) (first_ascends (pattern_of p) p.n k low high)

  -- ---- the steps that are handed on

  -- its members from k on are all but itself
  handed_from : (side : Side) (l : ℕ) → member l ((plan_of p).S k) ≡ true → from k (list (plan_of p) side l) ≡ kept (plan_of p) side l
  unfolding from kept list plan_of plan pattern_of
  handed_from side l m =
      let (one, before, least) = (facts p ready).joins_one l k low m in
      let xs : List ℕ = list (plan_of p) side l in
      let up : Ascending l xs = (facts p ready).ascending side l in
      keep_cong (leb k) (λ x. not (eqb x l)) xs λ x e.
      let above : l ≤ x = member-low x l xs up e in
      by_test (eqb x l)
      (λ t. let q : x ≡ l = eqb-true x l t in rw t (lt-leb k x (omega arith)))
      (λ t.
      let d : x ≡ l → ⊥ = eqb-false x l t in
      let far = further_above (pattern_of p) ready.plannable p.n (le_refl p.n) side l x e (omega arith) (omega arith) in
      rw t (le-leb k x (omega arith)))

  -- its kept list has no member below k
  pub handed_within : (side : Side) (l : ℕ) → member l ((plan_of p).S k) ≡ true → Within k p.height (kept (plan_of p) side l)
  handed_within side l m =
      record {
        ascending = rw (handed_from side l m) at (ascending-from l k (list (plan_of p) side l) ((facts p ready).ascending side l));
        bounded = (kept_within p ready side l).bounded;
      }

  kept_omits : (side : Side) → kept (plan_of p) side k ≡ omit k (from_steps (plan_of p) side k (from_rows (pattern_of p) side ((plan_of p).first_met k)))
  unfolding kept omit plan_of plan pattern_of
  kept_omits side = ap (omit k) (plan_list (pattern_of p) p.n k side low high)

  -- the kept list after 2.4 is the plan's
  pub steps_kept : (side : Side) → kept_steps p side k ≡ kept (plan_of p) side k
  unfolding kept omit plan_of plan pattern_of
  steps_kept side = ap (omit k) (steps_lists (pattern_of p) k low p.n high side)

  -- what rows bring and steps hand on, without k, is that list
  pub from-steps_is :
      (side : Side) → join_all (λ l. without k (kept (plan_of p) side l)) (kept_rows p side k) ((plan_of p).S k) ≡ kept_steps p side k
  unfolding from_steps
  from-steps_is side =
      rw (rows_kept side)
      (sym
      (steps_kept side
      ∙ kept_omits side
      ∙ omit-join_all k (λ l. from k (list (plan_of p) side l)) (λ l. without k (kept (plan_of p) side l))
      (from_rows (pattern_of p) side ((plan_of p).first_met k)) ((plan_of p).S k) (rows-within side).ascending
      (λ l m. rw (handed_from side l m) (handed_within side l m).ascending)
      (λ l m. rw (handed_from side l m) (omit-without k (kept (plan_of p) side l) (handed_within side l m).ascending))))
