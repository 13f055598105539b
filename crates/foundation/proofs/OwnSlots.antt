-- Each place that has a slot has one of its own: what all slots show of a square that differs at one place differs at that place's slot alone.
use mathlib.Core.Bool.{true, cond, ◌&&◌, false≢true}
use mathlib.Core.Path.{◌≡◌, refl, sym, ap, ◌∙◌}
use Prim.Native.Nat.{ℕ, zero, suc, ◌+◌, ◌-◌, ◌≤◌, ◌<◌}
use native.Mathlib.Omega.{arith}
use lib.Dec.{eqb}
use lib.Ieee.{Float, nan}
use borrow.Author.Tests.{eqb-true, eq-eqb, lt-ltb}
use Rattle.lists.specs.Sets.{member, index_of}
use Rattle.lists.proofs.Members.{by_test, and_left, and_right}
use Rattle.lists.proofs.Places.{index_below}
use Rattle.foundation.specs.Claims.{OwnSlots, slot_within, SlotsWithin}
use Rattle.foundation.specs.Numbers.{plus_zero}
use Rattle.foundation.specs.Plan.{Planning, Side, lower, upper}
use Rattle.foundation.specs.Shown.{at_side, shown, shown_diagonal, slot_read}
use Rattle.foundation.specs.Slots.{has_slot, slot_at, slots_of}
use Rattle.foundation.specs.Square.{Square}
use Rattle.foundation.specs.Subscripts.{kept}
use Rattle.foundation.proofs.LaidBack.{SlotCase, diagonal-slot, upper_slot, lower_slot, no_slot, slot-case, slot_none, none_no_slot, shown_reads, diagonal_reads}
use Rattle.foundation.proofs.Starts.{slots_next, slots_grow}

-- a square that is not a number at (i, j), and +0 elsewhere
alone : ℕ → ℕ → Square Float
alone i j a b = cond (eqb a i && eqb b j) nan plus_zero

-- +0 is a number
plus_zero-number : plus_zero ≡ nan → ⊥
unfolding plus_zero
plus_zero-number e = let z : ◌≡◌ {A = ℕ} 0 1 = cc in absurd (omega arith)

-- A slot of the square shows the number at its place.
pub slot_reads :
    (s : Planning) (n : ℕ) (square : Square Float) (i j : ℕ) → 1 ≤ i → i ≤ n → 1 ≤ j → j ≤ n → has_slot s i j ≡ true
    → slot_read (shown s lower n square) (shown s upper n square) (shown_diagonal n square) (slot_at s i j) ≡ square i j
unfolding slot_read at_side
slot_reads s n square i j i-low i-high j_low j-high has = at (slot-case s i j)
  where
    at : SlotCase s i j → slot_read (shown s lower n square) (shown s upper n square) (shown_diagonal n square) (slot_at s i j) ≡ square i j
    at (diagonal-slot e w) = rw w (diagonal_reads n square i i-low i-high ∙ ap (square i) e)
    at (upper_slot h m w) = rw w (shown_reads s upper n square i j i-low i-high m)
    at (lower_slot h m w) = rw w (shown_reads s lower n square j i j_low j-high m)
    at (no_slot without w) = absurd (false≢true (sym without ∙ has))

-- Two places of the square with the same slot are the same place.
pub same_slot :
    (s : Planning) (i j a b : ℕ) → (1 ≤ i) × (1 ≤ j) × (1 ≤ a) × (1 ≤ b) → has_slot s i j ≡ true → slot_at s i j ≡ slot_at s a b
    → (i ≡ a) × (j ≡ b)
unfolding alone plus_zero
same_slot s i j a b (i-low, j_low, a-low, b-low) has same =
    let n : ℕ = i + j + (a + b) in
    let square : Square Float = alone i j in
    let too : has_slot s a b ≡ true = by_test (has_slot s a b) (λ e. e) (λ e. absurd (false≢true (sym (none_no_slot s i j (same ∙ slot_none s a b e)) ∙ has))) in
    let here : square i j ≡ nan = rw (eq-eqb i i refl, eq-eqb j j refl) in
    let there : square a b ≡ nan =
    sym (slot_reads s n square a b a-low (omega arith) b-low (omega arith) too)
    ∙ ap (slot_read (shown s lower n square) (shown s upper n square) (shown_diagonal n square)) (sym same)
    ∙ slot_reads s n square i j i-low (omega arith) j_low (omega arith) has
    ∙ here in
    let is : eqb a i && eqb b j ≡ true = by_test (eqb a i && eqb b j) (λ e. e) (λ e. absurd (plus_zero-number (sym (rw e) ∙ there))) in
    (sym (eqb-true a i (and_left (eqb a i) (eqb b j) is)), sym (eqb-true b j (and_right (eqb a i) (eqb b j) is)))

pub own-slots : OwnSlots
unfolding OwnSlots
own-slots s i j = (
  (
    λ has e. false≢true (sym (none_no_slot s i j e) ∙ has),
    λ some. by_test (has_slot s i j) (λ e. e) (λ e. absurd (some (slot_none s i j e))),
  ),
  λ a b. same_slot s i j a b,
)

-- ---- within the planned slots

-- a kept subscript of list k has its slot among those of the first n lists
side-within :
    (s : Planning) (side : Side) (n k x : ℕ) → 1 ≤ k → k ≤ n → member x (kept s side k) ≡ true
    → slots_of s side (k - 1) + index_of x (kept s side k) < slots_of s side n
side-within s side n zero x low high m = absurd (omega arith)
side-within s side n (suc t) x low high m =
    let before : suc t - 1 ≡ t = omega arith in
    rw before (omega (arith, index_below x (kept s side (suc t)) m, slots_next s side t, slots_grow s side (suc t) n high))

pub slots-within : SlotsWithin
unfolding SlotsWithin slot_within
slots-within s n i j (i-low, j_low, j-high) has = at (slot-case s i j)
  where
    at : SlotCase s i j → slot_within s n (slot_at s i j) ≡ true
    at (diagonal-slot e w) = rw w (lt-ltb (i - 1) n (omega arith))
    at (upper_slot h m w) = rw w (lt-ltb _ _ (side-within s upper n i j i-low (omega arith) m))
    at (lower_slot h m w) = rw w (lt-ltb _ _ (side-within s lower n j i j_low j-high m))
    at (no_slot without w) = absurd (false≢true (sym without ∙ has))
