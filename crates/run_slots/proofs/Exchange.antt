-- The exchange of a step stays in the slots.
use mathlib.Core.Bool.{true, false, not, true≢false, false≢true}
use mathlib.Core.Path.{◌≡◌, refl, sym, ap, ◌∙◌}
use Prim.Native.Nat.{ℕ, suc, ◌≤◌, ◌<◌}
use native.Mathlib.Decide.{dec_lt}
use native.Mathlib.Omega.{arith}
use lib.Dec.{eqb}
use lib.Ieee.{Float}
use borrow.Author.Tests.{eqb-true, eqb-false, eq-eqb, ne_eqb, lt-ltb, le-ltb, le-leb}
use Rattle.lists.specs.Functions.{keep}
use Rattle.lists.specs.Sets.{member}
use Rattle.lists.proofs.Members.{by_test, fails}
use Rattle.lists.proofs.Order.{member-low, ascending-keep, ascending_raise}
use Rattle.foundation.specs.Facts.{PlanFacts}
use Rattle.foundation.specs.Closed.{Closed, Held, marked}
use Rattle.foundation.specs.Numbers.{plus_zero, may_pivot, is_plus_zero}
use Rattle.foundation.specs.Pattern.{Pattern}
use Rattle.foundation.specs.Plan.{Planning, Side, lower, upper, list}
use Rattle.foundation.specs.Reference.{eliminated, Going, stepped}
use Rattle.foundation.specs.Slots.{slot_in, has_slot}
use Rattle.foundation.specs.Square.{Square, swap, exchanged}
use Rattle.foundation.specs.Subscripts.{kept}
use Rattle.foundation.proofs.Containment.{chain, contained, held_after_step}
use Rattle.foundation.proofs.FloatSteps.{plus_zero_is, eliminated-above, pivot_not_plus, is_plus_zero_lem, stepped_on}
use Rattle.foundation.proofs.LaidBack.{kept_listed, kept_other, listed_kept}
use Rattle.foundation.proofs.FreeSteps.{exchanged_left, exchanged_other}
use Rattle.run_slots.specs.Index.{limit, Grid}
use Rattle.run_slots.proofs.Grid.{no_slot_upper, no_slot_lower}

-- the plan of a pattern as the steps need it
pub grid-from : (p : Pattern) (s : Planning) → PlanFacts p s → Grid s p.n p.height
unfolding kept list limit
grid-from p s f = record {
  ascends = λ side k. ascending_raise k (suc k) (keep (λ x. not (eqb x k)) (list s side k)) (ascending-keep k (λ x. not (eqb x k)) (list s side k) (f.ascending side k))
      (λ x m. let a = member-low x k (list s side k) (f.ascending side k) (kept_listed s side k x m) in let b = kept_other s side k x m in omega arith);
  bounded = λ side k x m. within side k x (kept_listed s side k x m);
  meets = λ k i j a b. chain f.closed k i j (kept_listed s lower k i a) (kept_listed s upper k j b);
  lower_in_upper = λ k i m high. listed_kept s upper k i (f.lower_in_upper k i (kept_listed s lower k i m) high) (kept_other s lower k i m);
}
  where
    within : (side : Side) (k x : ℕ) → member x (list s side k) ≡ true → x ≤ limit p.n p.height side
    within lower k x m = f.lower_bounded k x m
    within upper k x m = f.upper_bounded k x m

module _ {A : Type 0} (k p : ℕ) (square : Square A) where
  pub exchanged_first : (j : ℕ) → k ≤ j → exchanged k p square k j ≡ square p j
  unfolding exchanged swap
  exchanged_first j l = rw (le-leb k j l, eq-eqb k k refl)

  pub exchanged-second : (j : ℕ) → k ≤ j → exchanged k p square p j ≡ square k j
  unfolding exchanged swap
  exchanged-second j l = rw (le-leb k j l, eq-eqb p p refl) (by_test (eqb p k) (λ e. rw (e, eqb-true p k e)) (λ e. rw e))

pub lower_has : (s : Planning) (i j : ℕ) → j < i → member i (kept s lower j) ≡ true → has_slot s i j ≡ true
unfolding has_slot slot_in list
lower_has s i j l m = rw (ne_eqb i j (λ q. omega arith), le-ltb i j (omega arith), lt-ltb j i l) (kept_listed s lower j i m)

has-slot : (s : Planning) (i j : ℕ) → slot_in s.L s.U i j ≡ true → has_slot s i j ≡ true
unfolding has_slot
has-slot s i j e = e

module _ (s : Planning) (n height : ℕ) (g : Grid s n height) (square : Square Float) (k p : ℕ)
    (out : (i j : ℕ) → has_slot s i j ≡ false → square i j ≡ plus_zero)
    (after : (i j : ℕ) → has_slot s i j ≡ false → eliminated k (exchanged k p square) i j ≡ plus_zero)
    (below : k < p) (row : member p (kept s lower k) ≡ true) where
  -- the exchanged square holds +0 outside the slots
  pub exchanged-outside : (i j : ℕ) → has_slot s i j ≡ false → exchanged k p square i j ≡ plus_zero
  exchanged-outside i j e = elim (dec_lt j k) [
    | yes l ↦ exchanged_left k p square i j l ∙ out i j e
    | no l ↦ by_test (eqb i k)
        (λ t. let q = eqb-true i k t in sym (eliminated-above k (exchanged k p square) i j (omega arith)) ∙ after i j e)
        (λ t. by_test (eqb i p) (λ u. at_second (omega arith) (eqb-true i p u)) (λ u. exchanged_other k p square i j (eqb-false i k t) (eqb-false i p u) ∙ out i j e))
  ]
    where
      has_lower : j ≡ k → has_slot s p j ≡ true
      has_lower same = rw same (lower_has s p k below row)

      at_second : k ≤ j → i ≡ p → exchanged k p square i j ≡ plus_zero
      at_second l q = rw q (exchanged-second k p square j l ∙ elim (dec_lt k j) [
        | yes r ↦ out k j (no_slot_upper s k j r (fails (member j (kept s upper k)) (λ m. true≢false (sym (has-slot s p j (g.meets k p j row m)) ∙ rw q at e))))
        | no r ↦ let same : j ≡ k = omega arith in absurd (true≢false (sym (has_lower same) ∙ rw q at e))
      ])

-- The invariant of the theorem gives both: before the step and after it nothing but +0 stands outside the slots.
module _ (pt : Pattern) (s : Planning) (closed : Closed pt s.L s.U) (k : ℕ) (low : 1 ≤ k) (g : Going) (held : Held pt s.L s.U k (marked is_plus_zero g.square)) where
  pub outside-before : (i j : ℕ) → has_slot s i j ≡ false → g.square i j ≡ plus_zero
  unfolding has_slot
  outside-before i j none = by_test (is_plus_zero (g.square i j)) (λ z. plus_zero_is (g.square i j) z) (λ z. absurd (false≢true (sym none ∙ contained closed held i j (ap not z))))

  module _ (height n p : ℕ) (from : k ≤ p) (may : may_pivot (g.square p k) ≡ true) where
    pub held_next : Held pt s.L s.U (suc k) (marked is_plus_zero (stepped height n k p g).square)
    held_next = held_after_step closed k low held (stepped_on height n k p g from may)

    pub outside-after : (i j : ℕ) → has_slot s i j ≡ false → eliminated k (exchanged k p g.square) i j ≡ plus_zero
    unfolding has_slot stepped
    outside-after i j none = by_test (is_plus_zero (eliminated k (exchanged k p g.square) i j)) (λ z. plus_zero_is _ z) (λ z. absurd (false≢true (sym none ∙ contained closed held_next i j (ap not z))))

    -- the pivot row has its slot in column k
    pub pivot_listed : k < p → member p (kept s lower k) ≡ true
    pivot_listed l = by_test (member p (kept s lower k)) (λ e. e)
        (λ e. absurd (true≢false (sym (is_plus_zero_lem (g.square p k) (outside-before p k (no_slot_lower s p k l e))) ∙ pivot_not_plus (g.square p k) may)))
