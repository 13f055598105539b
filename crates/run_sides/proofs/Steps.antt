-- The two sides of a step of the elimination, each as a reduction: U's rows by the pivot row, L's columns by the multipliers.
use mathlib.Core.Bool.{true, false}
use mathlib.Core.List.{List, map}
use mathlib.Core.Path.{◌≡◌, refl, sym, ap, ◌∙◌}
use Prim.Native.Nat.{ℕ, suc, ◌≤◌, ◌<◌}
use native.Mathlib.Decide.{dec_lt}
use native.Mathlib.Omega.{arith}
use lib.Dec.{ltb}
use lib.Ieee.{Float, nan}
use lib.ListN.{length, get_or, length-map}
use borrow.Author.Tests.{eq-eqb, ne_eqb, lt-ltb}
use Rattle.lists.specs.Sets.{member}
use Rattle.lists.proofs.Members.{by_test}
use Rattle.lists.proofs.Order.{ascending_weaken}
use Rattle.lists.proofs.Places.{member_at, get_or_mapped}
use Rattle.foundation.specs.Numbers.{is_zero}
use Rattle.foundation.specs.Plan.{Planning, Side, lower, upper}
use Rattle.foundation.specs.Reference.{multiplier, eliminated}
use Rattle.foundation.specs.Shown.{at_side}
use Rattle.foundation.specs.Square.{Square}
use Rattle.foundation.specs.Subscripts.{kept}
use Rattle.foundation.proofs.FloatSteps.{zero_plus_zero, multiplier-zero, eliminated_left, eliminated_column, eliminated_right_lem}
use Rattle.run_slots.specs.Index.{Grid, limit}
use Rattle.run_slots.specs.Shows.{InSlots}
use Rattle.run_slots.proofs.Grid.{reduced_commutes, above, slot_upper, slot_lower, no_slot_upper, no_slot_lower, row_stays, column_stays}
use Rattle.run_slots.proofs.Mapped.{map_cong}
use Rattle.run_stretch.specs.Stretches.{gathered}
use Rattle.run_sides.specs.Heads.{Reduction}
use Rattle.run_stretch.specs.Work.{Dense}
use Rattle.run_sides.specs.Side.{divided}

module _ (k : ℕ) (square : Square Float) where
  -- columns other than k stay
  pub divided_other : (i j : ℕ) → (j ≡ k → ⊥) → divided k square i j ≡ square i j
  unfolding divided
  divided_other i j ne = by_test (ltb k i) (λ e. rw (e, ne_eqb j k ne)) (λ e. rw e)

  -- column k has the multipliers
  pub divided_column : (i : ℕ) → k < i → divided k square i k ≡ multiplier k square i
  unfolding divided
  divided_column i l = rw (lt-ltb k i l, eq-eqb k k refl)

module _ (s : Planning) (n height : ℕ) (tall : n ≤ height) (g : Grid s n height) where
  -- every list's members have their places in a store that goes by the row count
  pub in_rows : (side : Side) (j x : ℕ) → member x (kept s side j) ≡ true → x ≤ height
  unfolding limit
  in_rows lower j x m = g.bounded lower j x m
  in_rows upper j x m = omega (arith, g.bounded upper j x m)

  module _ (square : Square Float) (h : InSlots s square) (k : ℕ) where
    row_has : (store : List Float) → Dense height (kept s upper k) (λ j. square k j) store → (x : ℕ) → k < x → x ≤ height → get_or store x nan ≡ square k x
    row_has store d x l u = d.has x u ∙ by_test (member x (kept s upper k)) (λ e. rw e) (λ e. rw e (sym (h.outside k x (no_slot_upper s k x l e))))

    zero_absent : (list : List ℕ) (value : ℕ → Float) (store : List Float) → Dense height list value store → (x : ℕ) → x ≤ height → member x list ≡ false → is_zero (get_or store x nan) ≡ true
    zero_absent list value store d x u e = rw (d.has x u, e) zero_plus_zero

    -- The upper side of a step.
    pub upper_reduction : (factors values dense : List Float) → factors ≡ map (multiplier k square) (kept s lower k) → values ≡ map (λ j. square k j) (kept s upper k)
        → Dense height (kept s upper k) (λ j. square k j) dense → Reduction s upper n square (eliminated k square) (kept s lower k) (kept s upper k) factors values dense
    unfolding at_side gathered limit
    upper_reduction factors values dense f v d = record {
      headed = λ i x m m' l. (omega (arith, above s n height g lower k i m), omega (arith, g.bounded upper k x m'));
      once = ascending_weaken 0 (suc k) (kept s lower k) (omega arith) (g.ascends lower k);
      factored = ap length f ∙ length-map (kept s lower k) (multiplier k square);
      over_ascends = ascending_weaken 0 (suc k) (kept s upper k) (omega arith) (g.ascends upper k);
      valued = v ∙ map_cong _ _ (kept s upper k) (λ x m. sym (row_has dense d x (above s n height g upper k x m) (in_rows upper k x m)));
      within = λ i x m m' l. slot_upper s i x l (g.meets k i x m m');
      others = λ i x m e. zero_absent (kept s upper k) (λ j. square k j) dense d x (in_rows upper i x m) e;
      room = λ i x m. omega (arith, d.size, in_rows upper i x m);
      becomes = λ t x l m.
          let i = get_or (kept s lower k) t 0 in
          let k<i = above s n height g lower k i (member_at t (kept s lower k) l) in
          let i<x = above s n height g upper i x m in
          eliminated_right_lem k square i x k<i (omega arith)
          ∙ rw (f, get_or_mapped (multiplier k square) (kept s lower k) t nan l, row_has dense d x (omega arith) (in_rows upper i x m));
      stays = λ i x e m. row_stays s n height g square h k i x e;
      sound = λ i x a m. h.sound i x;
    }

    multiplier-has : (store : List Float) → Dense height (kept s lower k) (λ i. divided k square i k) store → (i : ℕ) → k < i → i ≤ height → get_or store i nan ≡ multiplier k square i
    multiplier-has store d i l u = d.has i u ∙ by_test (member i (kept s lower k)) (λ e. rw e (divided_column k square i l))
        (λ e. let z = h.outside i k (no_slot_lower s i k l e) in rw e (sym (multiplier-zero k square i (rw z zero_plus_zero) ∙ z)))

    -- The lower side of a step, the multipliers being there already.
    pub lower_reduction : (factors values dense : List Float) → factors ≡ map (λ j. square k j) (kept s upper k) → values ≡ map (λ i. divided k square i k) (kept s lower k)
        → Dense height (kept s lower k) (λ i. divided k square i k) dense → Reduction s lower n (divided k square) (eliminated k square) (kept s upper k) (kept s lower k) factors values dense
    unfolding at_side gathered limit
    lower_reduction factors values dense f v d = record {
      headed = λ j x m m' l. (omega (arith, above s n height g upper k j m), g.bounded upper k j m);
      once = ascending_weaken 0 (suc k) (kept s upper k) (omega arith) (g.ascends upper k);
      factored = ap length f ∙ length-map (kept s upper k) (λ j. square k j);
      over_ascends = ascending_weaken 0 (suc k) (kept s lower k) (omega arith) (g.ascends lower k);
      valued = v ∙ map_cong _ _ (kept s lower k) (λ x m. divided_column k square x (above s n height g lower k x m) ∙ sym (multiplier-has dense d x (above s n height g lower k x m) (in_rows lower k x m)));
      within = λ j x m m' l. slot_lower s x j l (g.meets k x j m' m);
      others = λ j x m e. zero_absent (kept s lower k) (λ i. divided k square i k) dense d x (in_rows lower j x m) e;
      room = λ j x m. omega (arith, d.size, in_rows lower j x m);
      becomes = λ t x l m.
          let j = get_or (kept s upper k) t 0 in
          let k<j = above s n height g upper k j (member_at t (kept s upper k) l) in
          let j<x = above s n height g lower j x m in
          eliminated_right_lem k square x j (omega arith) k<j
          ∙ rw (f, get_or_mapped (λ j. square k j) (kept s upper k) t nan l, multiplier-has dense d x (omega arith) (in_rows lower j x m), divided_other k square x j (λ q. omega arith))
          (reduced_commutes (multiplier k square x) (square k j) (square x j));
      stays = λ j x e m.
          let j<x = above s n height g lower j x m in
          elim (dec_lt j k) [
            | yes l ↦ eliminated_left k square x j l ∙ sym (divided_other k square x j (λ q. omega arith))
            | no l ↦ elim (dec_lt k j) [
              | yes r ↦ column_stays s n height g square h k x j r e ∙ sym (divided_other k square x j (λ q. omega arith))
              | no r ↦ let q : j ≡ k = omega arith in rw q (eliminated_column k square x (omega arith) ∙ sym (divided_column k square x (omega arith)))
            ]
          ];
      sound = λ j x a m. rw (divided_other k square x j (λ q. omega (arith, above s n height g upper k j a))) (h.sound x j);
    }
