-- The right side with rows k and p exchanged, and the exchange at its end.
use mathlib.Core.Bool.{false, true≢false}
use mathlib.Core.List.{List, ◌∷◌, map}
use mathlib.Core.Path.{◌≡◌, refl, sym, ◌∙◌}
use Prim.Native.Nat.{ℕ, ◌-◌, ◌≤◌, ◌<◌}
use native.Mathlib.Omega.{arith}
use lib.Dec.{eqb, ltb}
use lib.Ieee.{Float, nan}
use lib.ListN.{length, get_or, set}
use lib.Seq.{take_all}
use borrow.Author.Tests.{eqb-true, eqb-false, eq-eqb, ne_eqb, ltb-true, ltb-false}
use Rattle.lists.specs.Functions.{update}
use Rattle.lists.specs.Sets.{member, upto}
use Rattle.lists.proofs.Members.{by_test, fails, member_head, member_tail}
use Rattle.lists.proofs.Places.{update_same, update_other, map-upto_at}
use Rattle.foundation.specs.Numbers.{plus_zero}
use Rattle.foundation.specs.Plan.{Planning, upper}
use Rattle.foundation.specs.Reference.{exchanged_right}
use Rattle.foundation.specs.Slots.{has_slot}
use Rattle.foundation.specs.Square.{Square, swap, exchanged}
use Rattle.foundation.specs.Subscripts.{kept}
use Rattle.foundation.proofs.FreeSteps.{exchanged_left, exchanged_other}
use Rattle.run_slots.specs.Index.{Grid}
use Rattle.run_slots.specs.Shows.{SquareStores, ShowsAll}
use Rattle.run_slots.proofs.Mapped.{map-upto-set}
use Rattle.run_slots.proofs.Exchange.{exchanged_first, exchanged-second}
use Rattle.run_slots.proofs.Grid.{no_slot_upper}
use Rattle.run_swap.specs.Swapping.{columns_of, Swapped}
use Rattle.run_swap.proofs.Puts.{shows_all_same}

-- two places of the right side changed are two rows exchanged
pub right_exchanged : (right : ℕ → Float) (height k p : ℕ) (x : List Float) → x ≡ map right (upto height) → 1 ≤ k → k < p → p ≤ height
    → set (set x (k - 1) (get_or x (p - 1) nan)) (p - 1) (get_or x (k - 1) nan) ≡ map (exchanged_right k p right) (upto height)
unfolding exchanged_right swap
right_exchanged right height k p x e low below high =
    let a : get_or x (p - 1) nan ≡ right p = rw e (map-upto_at right height p nan (omega arith) high) in
    let b : get_or x (k - 1) nan ≡ right k = rw e (map-upto_at right height k nan low (omega arith)) in
    let first : set x (k - 1) (right p) ≡ map (update right k (right p)) (upto height) =
    rw e (map-upto-set right (update right k (right p)) height k (right p) low (omega arith) (update_same right k (right p)) (λ y ne. update_other right k (right p) y ne)) in
    rw (a, b, first) (map-upto-set (update right k (right p)) (exchanged_right k p right) height p (right k) (omega arith) high
    (rw (ne_eqb p k (λ q. omega arith), eq-eqb p p refl))
    (λ y ne. by_test (eqb y k)
    (λ f. let q : y ≡ k = eqb-true y k f in rw (q, eq-eqb k k refl) (sym (update_same right k (right p))))
    (λ f. rw (f, ne_eqb y p ne) (sym (update_other right k (right p) y (eqb-false y k f))))))

-- Columns that U_k lacks hold +0 in both rows, so once U_k's are done all are.
module _ (s : Planning) (n height : ℕ) (grid : Grid s n height) (k p : ℕ) (square : Square Float) (right : ℕ → Float)
    (outside : (i j : ℕ) → has_slot s i j ≡ false → square i j ≡ plus_zero) (stays : (i j : ℕ) → has_slot s i j ≡ false → exchanged k p square i j ≡ plus_zero) where
  other_column : (i j : ℕ) → k < j → member j (kept s upper k) ≡ false → exchanged k p square i j ≡ square i j
  other_column i j l m =
      let none = no_slot_upper s k j l m in
      let first : square k j ≡ plus_zero = outside k j none in
      let second : square p j ≡ plus_zero = sym (exchanged_first k p square j (omega arith)) ∙ stays k j none in
      by_test (eqb i k)
      (λ e. let q : i ≡ k = eqb-true i k e in rw q (stays k j none ∙ sym first))
      (λ e. by_test (eqb i p)
      (λ f. let q : i ≡ p = eqb-true i p f in rw q (exchanged-second k p square j (omega arith) ∙ first ∙ sym second))
      (λ f. exchanged_other k p square i j (eqb-false i k e) (eqb-false i p f)))

  all_columns : (i j : ℕ) → exchanged k p square i j ≡ columns_of (k ∷ kept s upper k) (exchanged k p square) square i j
  unfolding columns_of
  all_columns i j =
      by_test (member j (k ∷ kept s upper k))
      (λ e. rw e)
      (λ e. rw e (by_test (ltb j k)
      (λ l. exchanged_left k p square i j (ltb-true j k l))
      (λ l.
      let ne : j ≡ k → ⊥ = λ q. true≢false (sym (rw q (member_head k (kept s upper k))) ∙ e) in
      let ge = ltb-false j k l in
      other_column i j (omega arith) (fails (member j (kept s upper k)) (λ m. true≢false (sym (member_tail j k (kept s upper k) m) ∙ e))))))

  pub exchange_done : (t : ℕ) (z : SquareStores) → length (kept s upper k) ≤ t → Swapped s n height k p t square right z → ShowsAll s n height (exchanged k p square) right z
  exchange_done t z past h = shows_all_same s n height _ right z (rw (take_all t (kept s upper k) past) at h.shows) (exchanged k p square) all_columns
