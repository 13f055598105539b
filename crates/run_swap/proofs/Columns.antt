-- Laws of the exchange column by column.
use mathlib.Core.Bool.{true, false}
use mathlib.Core.List.{List, [], ◌∷◌, ◌++◌}
use mathlib.Core.Path.{◌≡◌, sym, ◌∙◌}
use Prim.Native.Nat.{ℕ, suc, ◌+◌, ◌-◌, ◌≤◌, ◌<◌}
use native.Mathlib.Numerals.{add-one}
use native.Mathlib.Omega.{arith}
use lib.Dec.{eqb}
use lib.Ieee.{Float, nan}
use lib.ListN.{length, get_or, take, set}
use lib.Seq.{take-suc}
use borrow.Author.Tests.{eqb-true, eqb-false}
use Rattle.lists.specs.Sets.{member}
use Rattle.lists.proofs.Members.{by_test, fails, not-member-nil, member_snoc, member_snoc_other, not_in}
use Rattle.lists.proofs.Places.{member_at, not-before}
use Rattle.foundation.specs.Plan.{Planning, lower, upper}
use Rattle.foundation.specs.Square.{Square, exchanged}
use Rattle.foundation.specs.Subscripts.{kept}
use Rattle.foundation.proofs.FreeSteps.{exchanged_other}
use Rattle.run_slots.specs.Index.{limit, Grid}
use Rattle.run_slots.specs.Lists.{SlotOf}
use Rattle.run_slots.specs.Shows.{SquareStores, square_stores, ShowsAll}
use Rattle.run_slots.proofs.Exchange.{exchanged_first, exchanged-second}
use Rattle.run_slots.proofs.Grid.{above, slot_lower, slot_upper}
use Rattle.run_swap.specs.Swapping.{columns_of, Swapped}
use Rattle.run_swap.proofs.Puts.{put, put_here, put_apart, shows_all_same, read_lower, read_upper, read-diagonal, put_lower, put_upper, put_diagonal}

-- ---- one column more

module _ (new old : Square Float) (done : List ℕ) where
  columns-new : (i j : ℕ) → member j done ≡ true → columns_of done new old i j ≡ new i j
  unfolding columns_of
  columns-new i j e = rw e

  columns-old : (i j : ℕ) → member j done ≡ false → columns_of done new old i j ≡ old i j
  unfolding columns_of
  columns-old i j e = rw e

  columns_more : (i j b : ℕ) → (b ≡ j → ⊥) → columns_of (done ++ j ∷ []) new old i b ≡ columns_of done new old i b
  unfolding columns_of
  columns_more i j b ne = rw (member_snoc_other b j done ne)

-- A column of rows k and p changed is two places written.
module _ (k p : ℕ) (square : Square Float) (done : List ℕ) (j : ℕ) (from : k ≤ j) (below : k < p) (fresh : member j done ≡ false) where
  abbrev before : Square Float
  before = columns_of done (exchanged k p square) square

  abbrev after : Square Float
  after = columns_of (done ++ j ∷ []) (exchanged k p square) square

  column_is : (a b : ℕ) → after a b ≡ put p j (before k j) (put k j (before p j) before) a b
  column_is a b =
      by_test (eqb b j)
      (λ e. let q : b ≡ j = eqb-true b j e in rw q (columns-new (exchanged k p square) square (done ++ j ∷ []) a j (member_snoc j done) ∙ row a))
      (λ e.
      let ne = eqb-false b j e in
      columns_more (exchanged k p square) square done a j b ne
      ∙ sym (put_apart p j (before k j) (put k j (before p j) before) a b (λ r q. ne q) ∙ put_apart k j (before p j) before a b (λ r q. ne q)))
    where
      old : (i : ℕ) → before i j ≡ square i j
      old i = columns-old (exchanged k p square) square done i j fresh

      row : (i : ℕ) → exchanged k p square i j ≡ put p j (before k j) (put k j (before p j) before) i j
      row i =
          by_test (eqb i p)
          (λ e. let q : i ≡ p = eqb-true i p e in
          rw q (exchanged-second k p square j from ∙ sym (put_here p j (before k j) (put k j (before p j) before) ∙ old k)))
          (λ e. let np = eqb-false i p e in
          by_test (eqb i k)
          (λ f. let q : i ≡ k = eqb-true i k f in
          rw q (exchanged_first k p square j from
          ∙ sym (put_apart p j (before k j) (put k j (before p j) before) k j (λ r s. omega arith) ∙ put_here k j (before p j) before ∙ old p)))
          (λ f. let nk = eqb-false i k f in
          exchanged_other k p square i j nk np
          ∙ sym (put_apart p j (before k j) (put k j (before p j) before) i j (λ r s. np r) ∙ put_apart k j (before p j) before i j (λ r s. nk r) ∙ old i)))

-- what stands in U_k is a column
pub column_high : (s : Planning) (n height : ℕ) → Grid s n height → (k t : ℕ) → t < length (kept s upper k) → get_or (kept s upper k) t 0 ≤ n
unfolding limit
column_high s n height grid k t inside = grid.bounded upper k (get_or (kept s upper k) t 0) (member_at t (kept s upper k) inside)

module _ (s : Planning) (n height : ℕ) (grid : Grid s n height) (k p : ℕ) (square : Square Float) (right : ℕ → Float) (low : 1 ≤ k) (row : member p (kept s lower k) ≡ true) where
  below : k < p
  below = above s n height grid lower k p row

  -- a column written into some stores
  written : (done : List ℕ) (j : ℕ) → k ≤ j → member j done ≡ false → (z : SquareStores)
      → ShowsAll s n height (put p j (columns_of done (exchanged k p square) square k j) (put k j (columns_of done (exchanged k p square) square p j) (columns_of done (exchanged k p square) square))) right z
      → ShowsAll s n height (columns_of (done ++ j ∷ []) (exchanged k p square) square) right z
  written done j from fresh z g = shows_all_same s n height _ right z g _ (column_is k p square done j from below fresh)

  -- Column k: row k on the diagonal, row p in L.
  pub first_column : k ≤ n → (z : SquareStores) → ShowsAll s n height square right z → (q : ℕ) → SlotOf s lower k p q
      → Swapped s n height k p 0 square right (square_stores (set z.lower_slots q (get_or z.diagonal (k - 1) nan)) z.upper_slots (set z.diagonal (k - 1) (get_or z.lower_slots q nan)) z.right_side)
  first_column high z h q w = record { shows = written [] k (omega arith) none _ both }
    where
      none : member k [] ≡ false
      none = fails (member k []) (not-member-nil k)

      g : ShowsAll s n height (columns_of [] (exchanged k p square) square) right z
      g = shows_all_same s n height square right z h _ (λ i j. columns-old (exchanged k p square) square [] i j (fails (member j []) (not-member-nil j)))

      both : ShowsAll s n height (put p k (columns_of [] (exchanged k p square) square k k) (put k k (columns_of [] (exchanged k p square) square p k) (columns_of [] (exchanged k p square) square)))
          right (square_stores (set z.lower_slots q (get_or z.diagonal (k - 1) nan)) z.upper_slots (set z.diagonal (k - 1) (get_or z.lower_slots q nan)) z.right_side)
      both =
          rw (read_lower s n height _ right z g p k q low high w, read-diagonal s n height _ right z g k low high)
          (put_lower s n height _ right _ (put_diagonal s n height _ right z g grid k _ low high) grid p k q _ below low high w)

  -- Member t of U_k, its column not yet done.
  module _ (t : ℕ) (inside : t < length (kept s upper k)) (z : SquareStores) (h : Swapped s n height k p t square right z) where
    abbrev j : ℕ
    j = get_or (kept s upper k) t 0

    pub in_row : member j (kept s upper k) ≡ true
    in_row = member_at t (kept s upper k) inside

    pub column_low : k < j
    column_low = above s n height grid upper k j in_row

    last : j ≤ n
    last = column_high s n height grid k t inside

    high : k ≤ n
    high = omega (arith, column_low, last)

    -- row p has a slot there
    pub lower_slot : j < p → member p (kept s lower j) ≡ true
    lower_slot l = slot_lower s p j l (grid.meets k p j row in_row)

    pub upper_slot : p < j → member j (kept s upper p) ≡ true
    upper_slot l = slot_upper s p j l (grid.meets k p j row in_row)

    fresh : member j (k ∷ take t (kept s upper k)) ≡ false
    fresh = not_in j k (take t (kept s upper k)) (λ q. omega (arith, column_low)) (not-before (suc k) t (kept s upper k) (grid.ascends upper k) inside)

    next : (z' : SquareStores)
        → ShowsAll s n height (put p j (columns_of (k ∷ take t (kept s upper k)) (exchanged k p square) square k j) (put k j (columns_of (k ∷ take t (kept s upper k)) (exchanged k p square) square p j) (columns_of (k ∷ take t (kept s upper k)) (exchanged k p square) square))) right z'
        → Swapped s n height k p (t + 1) square right z'
    next z' g =
        let more : take (t + 1) (kept s upper k) ≡ take t (kept s upper k) ++ j ∷ [] = rw add-one (take-suc (kept s upper k) t 0 inside) in
        record { shows = rw more (written (k ∷ take t (kept s upper k)) j (omega (arith, column_low)) fresh z' g) }

    module _ (i : ℕ) (own : SlotOf s upper k j i) where
      -- before p: row p in L
      pub before_column : j < p → (q : ℕ) → SlotOf s lower j p q → Swapped s n height k p (t + 1) square right (square_stores (set z.lower_slots q (get_or z.upper_slots i nan)) (set z.upper_slots i (get_or z.lower_slots q nan)) z.diagonal z.right_side)
      before_column lt q w =
          let from : 1 ≤ j = omega (arith, column_low) in
          next _
          (rw (read_lower s n height _ right z h.shows p j q from last w, read_upper s n height _ right z h.shows k j i low high own)
          (put_lower s n height _ right _ (put_upper s n height _ right z h.shows grid k j i _ column_low low high own) grid p j q _ lt from last w))

      -- p itself: row p on the diagonal
      pub own_column : j ≡ p → Swapped s n height k p (t + 1) square right (square_stores z.lower_slots (set z.upper_slots i (get_or z.diagonal (p - 1) nan)) (set z.diagonal (p - 1) (get_or z.upper_slots i nan)) z.right_side)
      own_column e =
          let from : 1 ≤ p = omega (arith, below) in
          let fits : p ≤ n = omega (arith, e, last) in
          next _
          (rw (read-diagonal s n height _ right z h.shows p from fits, read_upper s n height _ right z h.shows k j i low high own, e)
          (put_diagonal s n height _ right _ (put_upper s n height _ right z h.shows grid k p i _ below low high (rw e at own)) grid p _ from fits))

      -- beyond p: row p in U_p
      pub beyond_column : p < j → (q : ℕ) → SlotOf s upper p j q → Swapped s n height k p (t + 1) square right (square_stores z.lower_slots (set (set z.upper_slots i (get_or z.upper_slots q nan)) q (get_or z.upper_slots i nan)) z.diagonal z.right_side)
      beyond_column lt q w =
          let from : 1 ≤ p = omega (arith, below) in
          let fits : p ≤ n = omega (arith, lt, last) in
          next _
          (rw (read_upper s n height _ right z h.shows p j q from fits w, read_upper s n height _ right z h.shows k j i low high own)
          (put_upper s n height _ right _ (put_upper s n height _ right z h.shows grid k j i _ column_low low high own) grid p j q _ lt from fits w))
