-- The slots of a plan: where a place has one, and what a step leaves alone.
use mathlib.Core.Bool.{true, false, ◌||◌, true≢false, false≢true, or_comm}
use mathlib.Core.Logic.{⊎_elim}
use mathlib.Core.Path.{◌≡◌, sym, ◌∙◌}
use Prim.Native.Nat.{ℕ, suc, ◌<◌}
use native.Mathlib.Decide.{dec_lt}
use native.Mathlib.Omega.{arith}
use lib.Ieee.{Float}
use borrow.Author.Tests.{ne_eqb, lt-ltb, le-ltb}
use Rattle.lists.specs.Sets.{member}
use Rattle.lists.proofs.Members.{fails, or_true_cases}
use Rattle.lists.proofs.Order.{member-low}
use Rattle.foundation.specs.Numbers.{is_zero}
use Rattle.foundation.specs.Plan.{Planning, Side, lower, upper, list}
use Rattle.foundation.specs.Subscripts.{kept}
use Rattle.foundation.specs.Slots.{slot_in, has_slot}
use Rattle.foundation.specs.Square.{Square}
use Rattle.foundation.specs.Reference.{reduced, eliminated}
use Rattle.foundation.proofs.FloatSteps.{zero_plus_zero, reduced_right, eliminated-above, eliminated_right_lem, eliminated-zero}
use Rattle.foundation.proofs.LaidBack.{listed_kept}
use Rattle.run_slots.specs.Index.{Grid}
use Rattle.run_slots.specs.Shows.{InSlots}
use Rattle.run_slots.proofs.Floats.{product_commutes}

-- the two factors of what is taken off may change places
pub reduced_commutes : (m u place : Float) → reduced m u place ≡ reduced u m place
unfolding reduced
reduced_commutes m u place = rw (product_commutes m u, or_comm (is_zero m) (is_zero u))

module _ (s : Planning) where
  pub slot_upper : (i j : ℕ) → i < j → slot_in s.L s.U i j ≡ true → member j (kept s upper i) ≡ true
  unfolding slot_in list
  slot_upper i j h e = listed_kept s upper i j (from (rw (ne_eqb i j (λ q. omega arith), lt-ltb i j h, le-ltb j i (omega arith)) at e)) (λ q. omega arith)
    where
      from : (member j (s.U i) || false) ≡ true → member j (s.U i) ≡ true
      from t = ⊎_elim (λ a. a) (λ b. absurd (false≢true b)) (or_true_cases (member j (s.U i)) false t)

  pub slot_lower : (i j : ℕ) → j < i → slot_in s.L s.U i j ≡ true → member i (kept s lower j) ≡ true
  unfolding slot_in list
  slot_lower i j h e = listed_kept s lower j i (rw (ne_eqb i j (λ q. omega arith), le-ltb i j (omega arith), lt-ltb j i h) at e) (λ q. omega arith)

  pub no_slot_upper : (i j : ℕ) → i < j → member j (kept s upper i) ≡ false → has_slot s i j ≡ false
  unfolding has_slot
  no_slot_upper i j h e = fails (slot_in s.L s.U i j) (λ t. true≢false (sym (slot_upper i j h t) ∙ e))

  pub no_slot_lower : (i j : ℕ) → j < i → member i (kept s lower j) ≡ false → has_slot s i j ≡ false
  unfolding has_slot
  no_slot_lower i j h e = fails (slot_in s.L s.U i j) (λ t. true≢false (sym (slot_lower i j h t) ∙ e))

module _ (s : Planning) (n height : ℕ) (g : Grid s n height) where
  pub above : (side : Side) (k x : ℕ) → member x (kept s side k) ≡ true → k < x
  above side k x m = member-low x (suc k) (kept s side k) (g.ascends side k) m

  module _ (square : Square Float) (h : InSlots s square) (k : ℕ) where
    -- rows without a slot in column k stay
    pub row_stays : (i j : ℕ) → member i (kept s lower k) ≡ false → eliminated k square i j ≡ square i j
    row_stays i j m = elim (dec_lt k i) [
      | yes l ↦ eliminated-zero k square i j (rw (h.outside i k (no_slot_lower s i k l m)) zero_plus_zero)
      | no l ↦ eliminated-above k square i j (omega arith)
    ]

    -- columns without a slot in row k stay
    pub column_stays : (i j : ℕ) → k < j → member j (kept s upper k) ≡ false → eliminated k square i j ≡ square i j
    column_stays i j l m = elim (dec_lt k i) [
      | yes r ↦ eliminated_right_lem k square i j r l ∙ reduced_right _ _ _ (rw (h.outside k j (no_slot_upper s k j l m)) zero_plus_zero)
      | no r ↦ eliminated-above k square i j (omega arith)
    ]
