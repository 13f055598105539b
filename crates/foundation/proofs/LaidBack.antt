-- What the slots show of a square, laid back into a square, is the square: each slot holds its place's number, and every place without one
-- holds +0.
use mathlib.Core.Bool.{true, false, not, ◌&&◌, false≢true}
use mathlib.Core.List.{List, [], ◌∷◌, ◌++◌, map, append_assoc, append-nil}
use mathlib.Core.Path.{◌≡◌, refl, sym, ap, ◌∙◌}
use Prim.Native.Nat.{ℕ, zero, suc, ◌+◌, ◌-◌, ◌≤◌, ◌<◌}
use native.Mathlib.Decide.{dec_lt}
use native.Mathlib.Omega.{arith}
use lib.Dec.{eqb, ltb}
use lib.Ieee.{Float}
use lib.ListN.{length, get_or, length-append, length-map}
use borrow.Author.Tests.{eqb-true, eqb-false, ltb-true, ne_eqb, not-true}
use Rattle.lists.specs.Functions.{chain}
use Rattle.lists.specs.Sets.{member, run, upto, index_of}
use Rattle.lists.proofs.Members.{by_test, and_left, and_right, kept_in, kept_passes, in_keep}
use Rattle.lists.proofs.Places.{upto_snoc, get_or-map_run, index_at, index_below, chain-append, get_or-chain, get_or_mapped}
use Rattle.foundation.specs.Claims.{ZeroOutside, LaidBack}
use Rattle.foundation.specs.Facts.{Plannable, PlanFacts}
use Rattle.foundation.specs.Numbers.{plus_zero}
use Rattle.foundation.specs.Pattern.{Lent, Pattern, pattern_of, pattern_fault}
use Rattle.foundation.specs.Plan.{Planning, Side, lower, upper, list, plan}
use Rattle.foundation.specs.Shown.{at_side, shown, shown_diagonal, slot_read, laid}
use Rattle.foundation.specs.Slots.{slot_in, has_slot, slots_of, none, on_diagonal, in_side, slot_at}
use Rattle.foundation.specs.Square.{Square}
use Rattle.foundation.specs.Subscripts.{kept}
use Rattle.foundation.proofs.FloatRun.{zero-outside-from}

-- ---- the kept lists

-- What is kept is in the list.
pub kept_listed : (s : Planning) (side : Side) (k x : ℕ) → member x (kept s side k) ≡ true → member x (list s side k) ≡ true
unfolding kept
kept_listed s side k x m = kept_in x (λ y. not (eqb y k)) (list s side k) m

-- The list's own number is not kept.
pub kept_other : (s : Planning) (side : Side) (k x : ℕ) → member x (kept s side k) ≡ true → x ≡ k → ⊥
unfolding kept
kept_other s side k x m = eqb-false x k (not-true _ (kept_passes x (λ y. not (eqb y k)) (list s side k) m))

-- Every other member of the list is kept.
pub listed_kept : (s : Planning) (side : Side) (k x : ℕ) → member x (list s side k) ≡ true → (x ≡ k → ⊥) → member x (kept s side k) ≡ true
unfolding kept
listed_kept s side k x m n = in_keep x (λ y. not (eqb y k)) (list s side k) m (ap not (ne_eqb x k n))

-- ---- what a slot shows

-- the numbers up to n are those up to k, k + 1, and others
upto-split : (k n : ℕ) → k < n → (rest : List ℕ) × (upto n ≡ upto k ++ suc k ∷ rest)
upto-split k zero h = absurd (omega arith)
upto-split k (suc m) h =
    elim (dec_lt k m) [
      | yes l ↦
          let (rest, e) = upto-split k m l in
          (rest ++ suc m ∷ [], upto_snoc m ∙ rw e (append_assoc (upto k) (suc k ∷ rest) (suc m ∷ [])))
      | no n ↦
          let e : m ≡ k = omega arith in
          ([], upto_snoc m ∙ rw e)
    ]

module _ (s : Planning) (side : Side) where
  -- No list shows nothing.
  pub shown_none : (square : Square Float) → shown s side 0 square ≡ []
  unfolding shown chain upto run
  shown_none square = refl

  -- One more list shows its places' numbers behind those of the lists before it.
  pub shown_next :
      (k : ℕ) (square : Square Float) → shown s side (suc k) square ≡ shown s side k square ++ map (at_side side square (suc k)) (kept s side (suc k))
  unfolding shown chain
  shown_next k square =
      rw (upto_snoc k, chain-append (λ l. map (at_side side square l) (kept s side l)) (upto k) (suc k ∷ []), append-nil)

  -- The slots of a side's first k lists are as many as those lists show.
  pub slots-shown : (k : ℕ) (square : Square Float) → length (shown s side k square) ≡ slots_of s side k
  unfolding slots_of
  slots-shown zero square = rw (shown_none square)
  slots-shown (suc k) square = rw (shown_next k square, length-append, slots-shown k square, length-map)

  -- A slot of a side shows the number at its place.
  pub shown_reads :
      (n : ℕ) (square : Square Float) (k x : ℕ) → 1 ≤ k → k ≤ n → member x (kept s side k) ≡ true
      → get_or (shown s side n square) (slots_of s side (k - 1) + index_of x (kept s side k)) plus_zero ≡ at_side side square k x
  unfolding shown
  shown_reads n square zero x low high m = absurd (omega arith)
  shown_reads n square (suc t) x low high m =
      let before : suc t - 1 ≡ t = omega arith in
      let (rest, e) = upto-split t n (omega arith) in
      let within : index_of x (kept s side (suc t)) < length (kept s side (suc t)) = index_below x (kept s side (suc t)) m in
      rw (before, e, ← slots-shown t square)
      (get_or-chain (λ l. map (at_side side square l) (kept s side l)) (upto t) (suc t) rest (index_of x (kept s side (suc t))) plus_zero (rw length-map within)
      ∙ get_or_mapped (at_side side square (suc t)) (kept s side (suc t)) (index_of x (kept s side (suc t))) plus_zero within
      ∙ ap (at_side side square (suc t)) (index_at x (kept s side (suc t)) m))

-- A diagonal slot shows the number at its place.
pub diagonal_reads :
    (n : ℕ) (square : Square Float) (i : ℕ) → 1 ≤ i → i ≤ n → get_or (shown_diagonal n square) (i - 1) plus_zero ≡ square i i
unfolding shown_diagonal upto
diagonal_reads n square i low high =
    let same : 1 + (i - 1) ≡ i = omega arith in
    get_or-map_run (λ r. square r r) 1 n (i - 1) plus_zero (omega arith) ∙ ap (λ r. square r r) same

-- ---- where a slot lies

-- The ways in which a place has its slot, or none.
pub data SlotCase (s : Planning) (i j : ℕ) : Type 0 where
  diagonal-slot : i ≡ j → slot_at s i j ≡ on_diagonal (i - 1) → SlotCase s i j
  upper_slot :
      i < j → member j (kept s upper i) ≡ true → slot_at s i j ≡ in_side upper (slots_of s upper (i - 1) + index_of j (kept s upper i)) → SlotCase s i j
  lower_slot :
      j < i → member i (kept s lower j) ≡ true → slot_at s i j ≡ in_side lower (slots_of s lower (j - 1) + index_of i (kept s lower j)) → SlotCase s i j
  no_slot : has_slot s i j ≡ false → slot_at s i j ≡ none → SlotCase s i j

-- Every place is one of them.
pub slot-case : (s : Planning) (i j : ℕ) → SlotCase s i j
unfolding slot_at has_slot slot_in list
slot-case s i j =
    by_test (eqb i j)
    (λ e. diagonal-slot (eqb-true i j e) (rw e))
    (λ ne. by_test (ltb i j && member j (s.U i))
    (λ u.
    let h : i < j = ltb-true i j (and_left (ltb i j) (member j (s.U i)) u) in
    upper_slot h (listed_kept s upper i j (and_right (ltb i j) (member j (s.U i)) u) (omega arith)) (rw (ne, u)))
    (λ nu. by_test (ltb j i && member i (s.L j))
    (λ l.
    let h : j < i = ltb-true j i (and_left (ltb j i) (member i (s.L j)) l) in
    lower_slot h (listed_kept s lower j i (and_right (ltb j i) (member i (s.L j)) l) (omega arith)) (rw (ne, nu, l)))
    (λ nl. no_slot (rw (ne, nu, nl)) (rw (ne, nu, nl)))))

-- A place without a slot has none to read.
pub slot_none : (s : Planning) (i j : ℕ) → has_slot s i j ≡ false → slot_at s i j ≡ none
unfolding slot_at has_slot slot_in
slot_none s i j e =
    by_test (eqb i j)
    (λ t. absurd (false≢true (sym e ∙ rw t)))
    (λ ne. by_test (ltb i j && member j (s.U i))
    (λ t. absurd (false≢true (sym e ∙ rw (ne, t))))
    (λ nu. by_test (ltb j i && member i (s.L j)) (λ t. absurd (false≢true (sym e ∙ rw (ne, nu, t)))) (λ nl. rw (ne, nu, nl))))

-- A place whose slot is none is without one.
pub none_no_slot : (s : Planning) (i j : ℕ) → slot_at s i j ≡ none → has_slot s i j ≡ false
none_no_slot s i j e = at (slot-case s i j)
  where
    at : SlotCase s i j → has_slot s i j ≡ false
    at (diagonal-slot same w) = let z : ◌≡◌ {A = ℕ} 0 1 = cc in absurd (omega arith)
    at (upper_slot h m w) = let z : ◌≡◌ {A = ℕ} 0 1 = cc in absurd (omega arith)
    at (lower_slot h m w) = let z : ◌≡◌ {A = ℕ} 0 1 = cc in absurd (omega arith)
    at (no_slot without w) = without

-- ---- laid back

-- A square that is +0 outside the slots is what its slots show, laid back.
pub laid-back :
    (s : Planning) (n : ℕ) (square : Square Float) → ((i j : ℕ) → has_slot s i j ≡ false → square i j ≡ plus_zero) → (i j : ℕ)
    → 1 ≤ i → 1 ≤ j → j ≤ n
    → laid s (shown s lower n square) (shown s upper n square) (shown_diagonal n square) i j ≡ square i j
unfolding laid slot_read at_side
laid-back s n square outside i j i-low j_low j-high = at (slot-case s i j)
  where
    at : SlotCase s i j → laid s (shown s lower n square) (shown s upper n square) (shown_diagonal n square) i j ≡ square i j
    at (diagonal-slot e w) = rw w (diagonal_reads n square i i-low (omega arith) ∙ ap (square i) e)
    at (upper_slot h m w) = rw w (shown_reads s upper n square i j i-low (omega arith) m)
    at (lower_slot h m w) = rw w (shown_reads s lower n square j i j_low j-high m)
    at (no_slot without w) = rw w (sym (outside i j without))

-- The square is determined by its slots, if what passes can be planned and the plan of such a pattern is as PlanFacts says.
pub laid-back-from :
    ((p : Pattern) → Plannable p → PlanFacts p (plan p)) → ((most : ℕ) (p : Lent) → pattern_fault most p ≡ 0 → Plannable (pattern_of p)) → LaidBack
unfolding LaidBack ZeroOutside
laid-back-from facts passes most p ok choice extent order values right g e i j (i-low, i-high, j_low, j-high) =
    laid-back (plan (pattern_of p)) p.n g.square (zero-outside-from facts passes most p ok choice extent order values right g e) i j i-low j_low j-high
