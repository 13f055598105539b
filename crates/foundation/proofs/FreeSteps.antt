-- The free elimination stays in range and in the slots of lists that are closed: each step that is taken is a step on places, whatever
-- numbers it brings. And it leaves the columns before its k.
use mathlib.Core.Bool.{Bool, true, false, not, ◌&&◌, false≢true, and-false}
use mathlib.Core.List.{List}
use mathlib.Core.Logic.{◌⊎◌, inl, inr}
use mathlib.Core.Path.{◌≡◌, refl, sym, ap, ◌∙◌}
use Prim.Native.Nat.{ℕ, suc, ◌≤◌, ◌<◌}
use native.Mathlib.Decide.{dec_lt}
use native.Mathlib.Omega.{arith}
use lib.Dec.{eqb, ltb, leb}
use lib.ListN.{take}
use borrow.Author.Tests.{eqb-true, eqb-false, leb-true, eq-eqb, ne_eqb, lt-ltb, le-ltb, le-leb, lt-leb, not-true}
use Rattle.lists.specs.Sets.{member}
use Rattle.lists.proofs.Members.{by_test, and_left, and_right}
use Rattle.lists.proofs.Order.{member-low}
use Rattle.foundation.specs.Closed.{Closed, Places, Involved, StepOn, Held, marked}
use Rattle.foundation.specs.Claims.{SlotsSuffice, MultipliersStay}
use Rattle.foundation.specs.Facts.{Plannable, PlanFacts}
use Rattle.foundation.specs.Free.{FreeStep, FreeState, free_start, taken, replaced, free_step, free_run}
use Rattle.foundation.specs.Pattern.{Lent, Pattern, present, pattern_of, pattern_fault}
use Rattle.foundation.specs.Plan.{plan}
use Rattle.foundation.specs.Slots.{slot_in, has_slot}
use Rattle.foundation.specs.Square.{Square, swap, placed, exchanged}
use Rattle.foundation.proofs.Containment.{held_at_start, held_after_step, contained}
use Rattle.foundation.proofs.Inside.{Inside, inside-after_step}
use Rattle.foundation.proofs.StepLists.{run_keeps}

-- ---- the exchange of two rows

-- Row k gets row p.
pub swap_first : (k p : ℕ) → swap k p k ≡ p
unfolding swap
swap_first k p = rw (eq-eqb k k refl)

-- Every other row gets itself.
pub swap_other : (k p i : ℕ) → (i ≡ k → ⊥) → (i ≡ p → ⊥) → swap k p i ≡ i
unfolding swap
swap_other k p i nk np = rw (ne_eqb i k nk, ne_eqb i p np)

-- What is so of rows k, p and i is so of the row that i gets.
pub swap-one_of {ℓ} : (P : ℕ → Type ℓ) (k p i : ℕ) → P k → P p → P i → P (swap k p i)
unfolding swap
swap-one_of P k p i at-k at_p at_i =
    by_test (eqb i k) (λ e. rw e at_p) (λ e. by_test (eqb i p) (λ t. rw (e, t) at-k) (λ t. rw (e, t) at_i))

module _ {ℓ} {A : Type ℓ} where
  -- The exchange leaves the columns before k.
  pub exchanged_left : (k p : ℕ) (square : Square A) (i j : ℕ) → j < k → exchanged k p square i j ≡ square i j
  unfolding exchanged
  exchanged_left k p square i j h = rw (lt-leb k j h)

  -- From column k on, each row is that of its exchanged number.
  pub exchanged_right_lem : (k p : ℕ) (square : Square A) (i j : ℕ) → k ≤ j → exchanged k p square i j ≡ square (swap k p i) j
  unfolding exchanged
  exchanged_right_lem k p square i j h = rw (le-leb k j h)

  -- Rows other than k and p stay.
  pub exchanged_other : (k p : ℕ) (square : Square A) (i j : ℕ) → (i ≡ k → ⊥) → (i ≡ p → ⊥) → exchanged k p square i j ≡ square i j
  exchanged_other k p square i j nk np =
      elim (dec_lt j k) [
        | yes l ↦ exchanged_left k p square i j l
        | no n ↦ exchanged_right_lem k p square i j (omega arith) ∙ ap (λ r. square r j) (swap_other k p i nk np)
      ]

-- A row from k on with an occupied place in column k is involved.
pub pivot_involved : (k p : ℕ) (before : Places) → k ≤ p → before p k ≡ true → Involved k before p
pivot_involved k p before h o = elim (dec_lt k p) [ yes l ↦ inr (l, o) | no n ↦ inl (omega arith) ]

-- ---- a step in two halves

-- the same number is marked alike
pub marked_alike {ℓ} : {A : Type ℓ} (blank : A → Bool) {x y : A} → x ≡ y → not (blank x) ≡ not (blank y)
marked_alike blank e = ap (λ z. not (blank z)) e

-- The second half of step k, from the square after the exchange to the square after the step: only rows below k that are marked in column
-- k change, from column k on; there a place becomes marked only if it was, or row k is in its column, and in column k only if it was.
pub record Clears {ℓ} {A : Type ℓ} (blank : A → Bool) (k : ℕ) (between after : Square A) : Type ℓ where
  pub left : (i j : ℕ) → j < k → after i j ≡ between i j
  pub above : (i j : ℕ) → i ≤ k → after i j ≡ between i j
  pub unmarked : (i j : ℕ) → blank (between i k) ≡ true → after i j ≡ between i j
  pub spread :
      (i j : ℕ) → k < i → k < j → blank (after i j) ≡ false → (blank (between i j) ≡ false) ⊎ (blank (between k j) ≡ false)
  pub column : (i : ℕ) → k < i → blank (after i k) ≡ false → blank (between i k) ≡ false

module _ {ℓ} {A : Type ℓ} (blank : A → Bool) (k p : ℕ) (square after : Square A) (low : k ≤ p) (pivot : blank (square p k) ≡ false) (clears : Clears blank k (exchanged k p square) after) where
  -- columns before k stay, and so do rows that are not involved
  pub earlier_stay : (i j : ℕ) → j < k → after i j ≡ square i j
  earlier_stay i j h = clears.left i j h ∙ exchanged_left k p square i j h

  pub others_stay : (i j : ℕ) → (Involved k (marked blank square) i → ⊥) → after i j ≡ square i j
  others_stay i j nv = elim (dec_lt k i) [ yes l ↦ clears.unmarked i j (empty l) | no n ↦ clears.above i j (omega arith) ] ∙ stays j
    where
      stays : (c : ℕ) → exchanged k p square i c ≡ square i c
      stays c = exchanged_other k p square i c (λ e. nv (inl e)) (λ e. nv (rw e (pivot_involved k p (marked blank square) low (ap not pivot))))

      empty : k < i → blank (exchanged k p square i k) ≡ true
      empty l = by_test (blank (square i k)) (λ t. ap blank (stays k) ∙ t) (λ t. absurd (nv (inr (l, ap not t))))

  -- What is marked in an involved row afterwards, in row k from column k on, below it right of column k, was marked in that column of an involved row before. That row is k, p or i: what
  -- is so of these three is so of it.
  pub from_involved {μ} :
      (P : ℕ → Type μ) → P k → P p → (i j : ℕ) → Involved k (marked blank square) i → P i → k ≤ j → (k < i → k < j) → blank (after i j) ≡ false
      → (h : ℕ) × Involved k (marked blank square) h × P h × (blank (square h j) ≡ false)
  from_involved P at-k at_p i j v at_i kj right m =
      elim (dec_lt k i) [
        | yes l ↦ spread (clears.spread i j l (right l) m)
        | no n ↦ source i v at_i (ap blank (sym (clears.above i j (omega arith))) ∙ m)
      ]
    where
      source :
          (r : ℕ) → Involved k (marked blank square) r → P r → blank (exchanged k p square r j) ≡ false
          → (h : ℕ) × Involved k (marked blank square) h × P h × (blank (square h j) ≡ false)
      source r w at_r n = (
        swap k p r,
        swap-one_of (Involved k (marked blank square)) k p r (inl refl) (pivot_involved k p (marked blank square) low (ap not pivot)) w,
        swap-one_of P k p r at-k at_p at_r,
        ap blank (sym (exchanged_right_lem k p square r j kj)) ∙ n,
      )

      spread :
          (blank (exchanged k p square i j) ≡ false) ⊎ (blank (exchanged k p square k j) ≡ false)
          → (h : ℕ) × Involved k (marked blank square) h × P h × (blank (square h j) ≡ false)
      spread (inl own) = source i v at_i own
      spread (inr row) = source k (inl refl) at-k row

  -- An exchange with a row that is marked in column k, and then a second half, are a step on places.
  pub step_on : StepOn k (marked blank square) (marked blank after)
  step_on =
      record {
        earlier = λ i j h. marked_alike blank (earlier_stay i j h);
        others = λ i j nv. marked_alike blank (others_stay i j nv);
        within = within_involved;
        pivotal = in_column;
      }
    where
      within_involved :
          (i j : ℕ) → Involved k (marked blank square) i → k < j → marked blank after i j ≡ true
          → (h : ℕ) × Involved k (marked blank square) h × (marked blank square h j ≡ true)
      within_involved i j v kj m =
          let (h, w, any, n) = from_involved (λ r. Unit {0}) tt tt i j v tt (omega arith) (λ l. kj) (not-true _ m) in (h, w, ap not n)

      in_column : (i : ℕ) → k < i → marked blank after i k ≡ true → marked blank square i k ≡ true
      in_column i l m =
          by_test (eqb i p)
          (λ e. rw (eqb-true i p e) (ap not pivot))
          (λ e. marked_alike blank (sym (exchanged_other k p square i k (omega arith) (eqb-false i p e))) ∙ ap not (clears.column i l (not-true _ m)))

-- At the start a place is marked only if it is in the pattern.
pub marked-present {ℓ} :
    {A : Type ℓ} (p : Pattern) (blank : A → Bool) (zero : A) → blank zero ≡ true → (values : Square A) (i j : ℕ)
    → marked blank (placed p zero values) i j ≡ true → present p i j ≡ true
unfolding placed
marked-present p blank zero z values i j m =
    by_test (present p i j) (λ e. e) (λ e. absurd (false≢true (sym (ap not z) ∙ (rw e at m))))

-- ---- the free elimination

module _ {ℓ} {A : Type ℓ} (is_zero : A → Bool) where
  -- The step's numbers come into rows below k that are nonzero in column k, where row k is nonzero; its multipliers into column k.
  pub replaced_clears : (k : ℕ) (step : FreeStep A) (square : Square A) → Clears is_zero k square (replaced is_zero k step square)
  unfolding replaced
  replaced_clears k step square =
      record {
        left = λ i j h.
            by_test (ltb k i && not (is_zero (square i k)))
            (λ e. rw (e, ne_eqb j k (omega arith), le-ltb k j (omega arith)))
            (λ e. rw e);
        above = λ i j h. rw (le-ltb k i h);
        unmarked = λ i j h.
            by_test (ltb k i && not (is_zero (square i k)))
            (λ e. absurd (false≢true (sym (ap not h) ∙ and_right (ltb k i) (not (is_zero (square i k))) e)))
            (λ e. rw e);
        spread = λ i j ki kj m.
            by_test (is_zero (square k j))
            (λ z. by_test (ltb k i && not (is_zero (square i k)))
            (λ e. inl (rw (e, ne_eqb j k (omega arith), z, lt-ltb k j kj, and-false) at m))
            (λ e. inl (rw e at m)))
            inr;
        column = λ i ki m.
            by_test (is_zero (square i k))
            (λ z. absurd (false≢true (sym (rw (lt-ltb k i ki, z) at m) ∙ z)))
            (λ z. z);
      }

  -- what is asked of a step that is taken
  pub taken_parts :
      (p : Pattern) (s : FreeState A) (step : FreeStep A) → taken p is_zero s step ≡ true
      → (s.k ≤ p.n) × (s.k ≤ step.row) × (step.row ≤ p.height) × (is_zero (s.square step.row s.k) ≡ false)
  unfolding taken
  taken_parts p s step e =
      let rest : (leb s.k step.row && leb step.row p.height) && not (is_zero (s.square step.row s.k)) ≡ true =
      and_right (leb s.k p.n) ((leb s.k step.row && leb step.row p.height) && not (is_zero (s.square step.row s.k))) e
      in
      let rows : leb s.k step.row && leb step.row p.height ≡ true =
      and_left (leb s.k step.row && leb step.row p.height) (not (is_zero (s.square step.row s.k))) rest
      in (
        leb-true _ _ (and_left (leb s.k p.n) ((leb s.k step.row && leb step.row p.height) && not (is_zero (s.square step.row s.k))) e),
        leb-true _ _ (and_left (leb s.k step.row) (leb step.row p.height) rows),
        leb-true _ _ (and_right (leb s.k step.row) (leb step.row p.height) rows),
        not-true _ (and_right (leb s.k step.row && leb step.row p.height) (not (is_zero (s.square step.row s.k))) rest),
      )

  -- A step that is taken has its k in the columns and in the rows, and is a step on places.
  pub taken_on :
      (p : Pattern) (s : FreeState A) (step : FreeStep A) → taken p is_zero s step ≡ true
      → (s.k ≤ p.n)
      × (s.k ≤ p.height)
      × StepOn s.k (marked is_zero s.square) (marked is_zero (replaced is_zero s.k step (exchanged s.k step.row s.square)))
  taken_on p s step e =
      let (in_columns, low, high, pivot) = taken_parts p s step e in (
        in_columns,
        omega arith,
        step_on is_zero s.k step.row s.square
            (replaced is_zero s.k step (exchanged s.k step.row s.square))
            low pivot
            (replaced_clears s.k step (exchanged s.k step.row s.square)),
      )

  -- What holds of k and its places, and of the next k after every step on places in range, holds after every list of steps.
  module _ (p : Pattern) (P : ℕ → Places → Type 0) (keeps : (k : ℕ) (before now : Places) → 1 ≤ k → k ≤ p.n → k ≤ p.height → StepOn k before now → P k before → P (suc k) now) where
    abbrev Holds : FreeState A → Type 0
    Holds s = (1 ≤ s.k) × P s.k (marked is_zero s.square)

    -- a taken step is a step on places in range; a refused one changes nothing
    step_keeps : (s : FreeState A) (step : FreeStep A) → Holds s → Holds (free_step p is_zero s step)
    unfolding free_step
    step_keeps s step h =
        by_test (taken p is_zero s step)
        (λ e. let (in_columns, in_rows, on) = taken_on p s step e in rw e (omega arith, keeps s.k _ _ h.0 in_columns in_rows on h.1))
        (λ e. rw e h)

    -- So it holds after every list of steps if it holds of 1 and the given numbers, zero outside the pattern.
    from_start :
        (zero : A) (values : Square A) (steps : List (FreeStep A)) → P 1 (marked is_zero (placed p zero values))
        → Holds (free_run p is_zero (free_start p zero values) steps)
    unfolding free_start free_run
    from_start zero values steps h =
        run_keeps (free_step p is_zero) (free_run p is_zero) (λ s. refl) (λ s step rest. refl) Holds step_keeps (free_start p zero values) steps (omega arith, h)

  -- Whatever steps are tried, each nonzero of the square stands in a slot of the closed lists.
  pub free_contained :
      {p : Pattern} {L U : ℕ → List ℕ} → Closed p L U → ((i j : ℕ) → present p i j ≡ true → 1 ≤ j)
      → (zero : A) → is_zero zero ≡ true → (values : Square A) (steps : List (FreeStep A)) (i j : ℕ)
      → is_zero ((free_run p is_zero (free_start p zero values) steps).square i j) ≡ false → slot_in L U i j ≡ true
  free_contained {p} {L} {U} closed from_one zero z values steps i j m =
      contained closed
      (from_start p (Held p L U) (λ k before now low in_columns in_rows on h. held_after_step closed k low h on) zero values steps
      (held_at_start closed (marked is_zero (placed p zero values)) (marked-present p is_zero zero z values) from_one)).1
      i j (ap not m)

  -- And it stands in the rows and columns of the pattern, if all places of the pattern do.
  pub free_inside :
      (p : Pattern) → Inside p.height p.n (present p) → (zero : A) → is_zero zero ≡ true → (values : Square A) (steps : List (FreeStep A))
      → Inside p.height p.n (marked is_zero (free_run p is_zero (free_start p zero values) steps).square)
  free_inside p within zero z values steps =
      (from_start p (λ k. Inside p.height p.n)
      (λ k before now low in_columns in_rows on. inside-after_step p.height p.n k low in_rows in_columns on)
      zero values steps
      (λ i j m. within i j (marked-present p is_zero zero z values i j m))).1

  -- A step, taken or refused, leaves the columns before k, and k does not fall.
  step_stays :
      (p : Pattern) (s : FreeState A) (step : FreeStep A) (i j : ℕ) → j < s.k
      → (j < (free_step p is_zero s step).k) × ((free_step p is_zero s step).square i j ≡ s.square i j)
  unfolding free_step
  step_stays p s step i j h =
      by_test (taken p is_zero s step)
      (λ e. rw e (
        omega arith,
        (replaced_clears s.k step (exchanged s.k step.row s.square)).left i j h ∙ exchanged_left s.k step.row s.square i j h,
      ))
      (λ e. rw e (h, refl))

  -- So does every list of steps.
  pub columns_stay :
      (p : Pattern) (s : FreeState A) (steps : List (FreeStep A)) (i j : ℕ) → j < s.k → (free_run p is_zero s steps).square i j ≡ s.square i j
  unfolding free_run
  columns_stay p s steps i j h =
      (run_keeps (free_step p is_zero) (free_run p is_zero) (λ r. refl) (λ r step rest. refl) (λ r. (j < r.k) × (r.square i j ≡ s.square i j))
      (λ r step (before, same). let (further, stays) = step_stays p r step i j before in (further, stays ∙ same))
      s steps (h, refl)).1

-- Earlier multipliers stay where they were written.
pub multipliers_stay : MultipliersStay
unfolding MultipliersStay
multipliers_stay p A is_zero = columns_stay is_zero p

-- The places of a pattern that can be planned lie in its rows and in columns 1 to n.
pub present-inside : (p : Pattern) → Plannable p → Inside p.height p.n (present p)
unfolding present
present-inside p able i j e =
    let rows : leb 1 i && leb i p.height ≡ true = and_left (leb 1 i && leb i p.height) (member j (p.row i)) e in
    let in_row : member j (p.row i) ≡ true = and_right (leb 1 i && leb i p.height) (member j (p.row i)) e in
    let from_row : 1 ≤ i = leb-true _ _ (and_left (leb 1 i) (leb i p.height) rows) in
    let to_row : i ≤ p.height = leb-true _ _ (and_right (leb 1 i) (leb i p.height) rows) in
    (from_row, to_row, member-low j 1 (p.row i) (able.ascending i from_row to_row) in_row, able.bounded i j from_row to_row in_row)

-- Columns of a pattern that can be planned count from 1.
pub columns-from-one : (p : Pattern) → Plannable p → (i j : ℕ) → present p i j ≡ true → 1 ≤ j
columns-from-one p able i j e = (present-inside p able i j e).2

-- The slots suffice, if what passes can be planned and the plan of such a pattern is as PlanFacts says.
pub slots_suffice_from :
    ((p : Pattern) → Plannable p → PlanFacts p (plan p)) → ((most : ℕ) (p : Lent) → pattern_fault most p ≡ 0 → Plannable (pattern_of p)) → SlotsSuffice
unfolding SlotsSuffice has_slot pattern_of
slots_suffice_from facts passes most p ok A is_zero zero z values steps t i j m =
    let able : Plannable (pattern_of p) = passes most p ok in
    let (i-low, i-high, j_low, j-high) = free_inside is_zero (pattern_of p) (present-inside (pattern_of p) able) zero z values (take t steps) i j (ap not m) in (
      i-low,
      i-high,
      j_low,
      j-high,
      free_contained is_zero (facts (pattern_of p) able).closed (columns-from-one (pattern_of p) able) zero z values (take t steps) i j m,
    )
