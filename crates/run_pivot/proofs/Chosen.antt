-- Laws of the choice of a pivot row: the largest or the listed one is the reference's.
use mathlib.Core.Bool.{true, false, cond}
use mathlib.Core.List.{List, [], ◌∷◌, map}
use mathlib.Core.Logic.{inl, inr}
use mathlib.Core.Path.{◌≡◌, refl, sym, ap, ◌∙◌}
use Prim.Native.Nat.{ℕ, zero, suc, ◌-◌, ◌≤◌, ◌<◌}
use native.Mathlib.Omega.{arith}
use lib.Ieee.{Float, nan}
use lib.ListN.{length, get_or, length-map}
use Rattle.lists.specs.Functions.{all}
use Rattle.lists.specs.Sets.{member, Ascending}
use Rattle.lists.proofs.Order.{ascending_weaken}
use Rattle.lists.proofs.Places.{get_or_mapped}
use Rattle.lists.proofs.Small.{less_one}
use Rattle.foundation.specs.Numbers.{finite, may_pivot}
use Rattle.foundation.specs.Pattern.{Pattern}
use Rattle.foundation.specs.Reference.{Choice, largest, listed, pivot_row}
use Rattle.foundation.specs.RunCall.{choice_fits}
use Rattle.foundation.proofs.FloatSteps.{plus_zero_faint, listed_in_range}
use Rattle.run_slots.specs.Handing.{asked}
use Rattle.store_search.specs.Places.{FirstFrom}
use Rattle.store_search.proofs.Places.{found_none}
use Rattle.run_pivot.specs.Pivot.{PivotAsks, PivotLeaves, LargestFound, ListedFound}
use Rattle.run_pivot.proofs.Best.{pivot_sparse}

-- ---- the listed row

module _ (k asks : ℕ) (own : Float) (slots : List Float) (subs : List ℕ) where
  pub listed-own : asks ≡ k → may_pivot own ≡ true → ListedFound k asks own slots subs k 0
  listed-own same t = record { is = λ entry o s none. rw (same, o, t); found_at = inr (inl refl) }

  pub listed-own_faint : asks ≡ k → may_pivot own ≡ false → ListedFound k asks own slots subs 0 0
  listed-own_faint same t = record { is = λ entry o s none. rw (same, o, t); found_at = inl refl }

  module _ (place : ℕ) (inside : place < length subs) (at : get_or subs place 0 ≡ asks) where
    entry_at : (entry : ℕ → Float) → slots ≡ map entry subs → entry asks ≡ get_or slots place nan
    entry_at entry s = rw (← at) (sym (ap (λ (zs : List Float). get_or zs place nan) s ∙ get_or_mapped entry subs place nan inside))

    pub listed_found : may_pivot (get_or slots place nan) ≡ true → ListedFound k asks own slots subs asks place
    listed_found t =
        record { is = λ entry o s none. rw (entry_at entry s, t); found_at = inr (inr (inside, sym at)) }

    pub listed_faint : may_pivot (get_or slots place nan) ≡ false → ListedFound k asks own slots subs 0 0
    listed_faint t = record { is = λ entry o s none. rw (entry_at entry s, t); found_at = inl refl }

  -- a row that stands nowhere
  pub listed_none : (asks ≡ k → ⊥) → (place : ℕ) → Ascending 0 subs → FirstFrom subs asks place
      → (place < length subs → get_or subs place 0 ≡ asks → ⊥) → ListedFound k asks own slots subs 0 0
  listed_none other place asc f none =
      record { is = λ entry o s out. rw (out other (found_none 0 subs asks place asc f none)); found_at = inl refl }

-- ---- the reference's row

-- the row of a list that fits
fits_at : (p : Pattern) (rows : List ℕ) (k : ℕ) → choice_fits p (listed rows) ≡ true → 1 ≤ k → k ≤ p.n
    → (k ≤ get_or rows (k - 1) 0) × (get_or rows (k - 1) 0 ≤ p.height)
fits_at p rows zero h low high = absurd (omega arith)
fits_at p rows (suc t) h low high = rw (less_one t) (listed_in_range p rows h t high)

-- the reference takes row p_k where its entry may serve
listed_pivot : (rows : List ℕ) (height k : ℕ) (entry : ℕ → Float) → 1 ≤ k
    → pivot_row (listed rows) height k entry ≡ cond (may_pivot (entry (get_or rows (k - 1) 0))) (get_or rows (k - 1) 0) 0
unfolding pivot_row
listed_pivot rows height zero entry l = absurd (omega arith)
listed_pivot rows height (suc before) entry l = rw (less_one before)

module _ (k row : ℕ) (own : Float) (slots : List Float) (subs : List ℕ) (w : PivotAsks k row own slots subs) where
  pub slots_size : length slots ≡ length subs
  slots_size = ap length w.slots_are ∙ length-map subs w.entry

  pub slots-sound : all finite slots ≡ true
  unfolding all
  slots-sound = rw w.slots_are (all_mapped subs)
    where
      all_mapped : (xs : List ℕ) → all finite (map w.entry xs) ≡ true
      all_mapped [] = refl
      all_mapped (x ∷ xs) = rw (w.sound x) (all_mapped xs)

  pub own-sound : finite own ≡ true
  own-sound = rw w.own_is at (w.sound k)

  pub subs_ascend : Ascending 0 subs
  subs_ascend = ascending_weaken 0 (suc k) subs (omega arith) w.ascends

  outside_none : (x : ℕ) → k < x → x ≤ w.p.height → member x subs ≡ false → may_pivot (w.entry x) ≡ false
  outside_none x l u m = ap may_pivot (w.outside x l u m) ∙ plus_zero_faint

  -- a choice that asks for a row is a list, one that asks for none is not
  pub largest_is : row ≡ 0 → (found place : ℕ) → LargestFound k own slots subs found place → PivotLeaves found place k row own slots subs w
  unfolding asked
  largest_is none found place f = record { is = at w.choice w.fits w.row_is; found_at = f.found_at }
    where
      at : (choice : Choice) → choice_fits w.p choice ≡ true → row ≡ asked choice k → found ≡ pivot_row choice w.p.height k w.entry
      at largest h e =
          f.is w.entry w.own_is w.slots_are
          ∙ sym (pivot_sparse w.entry k w.p.height subs w.low (omega (arith, w.high, w.tall)) w.ascends w.bounded outside_none)
      at (listed rows) h e = let r = fits_at w.p rows k h w.low (omega (arith, w.high, w.width)) in absurd (omega (arith, w.low))

  pub listed_is : (row ≡ 0 → ⊥) → (found place : ℕ) → ListedFound k row own slots subs found place → PivotLeaves found place k row own slots subs w
  unfolding asked
  listed_is some found place f = record { is = at w.choice w.fits w.row_is; found_at = f.found_at }
    where
      at : (choice : Choice) → choice_fits w.p choice ≡ true → row ≡ asked choice k → found ≡ pivot_row choice w.p.height k w.entry
      at largest h e = absurd (some e)
      at (listed rows) h e =
          let r = fits_at w.p rows k h w.low (omega (arith, w.high, w.width)) in
          f.is w.entry w.own_is w.slots_are (λ other m. outside_none row (omega arith) (omega arith) m)
          ∙ rw e (sym (listed_pivot rows w.p.height k w.entry w.low))
