-- The row starts and columns of a load pass 1 to 5.
use mathlib.Core.Bool.{Bool, true, false, cond, ◌&&◌}
use mathlib.Core.List.{List, [], ◌∷◌, ◌++◌}
use mathlib.Core.Path.{◌≡◌, refl, ◌∙◌}
use Prim.Native.Nat.{ℕ, zero, suc, ◌+◌, ◌≤◌, ◌<◌, min}
use native.Mathlib.Omega.{arith}
use lib.Dec.{eqb, ltb, leb}
use lib.ListN.{length, get_or, length-append}
use borrow.Author.Tests.{eqb-true, eqb-false, eq-eqb, ne_eqb, lt-ltb, le-leb, le-ltb}
use Rattle.lists.specs.Sets.{member}
use Rattle.lists.proofs.Members.{by_test, and_left, and_right, member_snoc, member_snoc_other}
use Rattle.lists.proofs.Small.{short_of}
use Rattle.foundation.specs.Pattern.{Lent, lent, lent_square, max_n, max_entries, max_height, row_of, too_large, height_fits, not_falling, starts_fit, entries_fault, first_fault, row_fault, rows_fault, pattern_fault}
use Rattle.foundation.specs.Load.{DrawnRow, entered, asked, row_up_to, with_row, next_row, rows_up_to}
use Rattle.foundation.proofs.LoadRows.{by_place, absent_off, so_far, row_after, load_grows, starts-many}
use Rattle.foundation.proofs.LoadPlaces.{starts_at, rows_at_lem}

-- ---- a row has no fault of 3, 4 or 5

-- the last member, or what stood before the list
abbrev last_or : ℕ → List ℕ → ℕ
last_or before [] = before
last_or before (x ∷ xs) = last_or x xs

last_snoc : (before : ℕ) (xs : List ℕ) (y : ℕ) → last_or before (xs ++ y ∷ []) ≡ y
last_snoc before [] y = refl
last_snoc before (x ∷ xs) y = last_snoc x xs y

-- an entry without fault has the rest without fault
entry_parts : (inside up : Bool) (rest : ℕ) → cond inside (cond up rest 4) 3 ≡ 0 → (inside ≡ true) × (up ≡ true) × (rest ≡ 0)
entry_parts true true rest e = (refl, refl, e)
entry_parts true false rest e = absurd (omega arith)
entry_parts false up rest e = absurd (omega arith)

-- one more entry above the last
snoc_faultless : (n before : ℕ) (xs : List ℕ) (y : ℕ) → entries_fault n before xs ≡ 0 → last_or before xs < y → 1 ≤ y → y ≤ n → entries_fault n before (xs ++ y ∷ []) ≡ 0
unfolding entries_fault
snoc_faultless n before [] y e up least most = rw (le-leb 1 y least, le-leb y n most, lt-ltb before y up)
snoc_faultless n before (x ∷ xs) y e up least most =
    let (inside, above, rest) = entry_parts (leb 1 x && leb x n) (ltb before x) (entries_fault n x xs) e in
    rw (inside, above) (snoc_faultless n x xs y rest up least most)

-- the first j places of a row: no fault, no column above j, and the diagonal once it is passed
record Fine (n row j : ℕ) (columns : List ℕ) : Type 0 where
  pub faultless : entries_fault n 0 columns ≡ 0
  pub no_more : last_or 0 columns ≤ j
  pub diagonal : 1 ≤ row → row ≤ j → member row columns ≡ true

fine_none : (n row : ℕ) → Fine n row 0 []
unfolding entries_fault
fine_none n row = record { faultless = refl; no_more = omega arith; diagonal = λ low high. absurd (omega arith) }

module _ (n row j : ℕ) (columns : List ℕ) (f : Fine n row j columns) where
  earlier : 1 ≤ row → row ≤ suc j → (row ≡ suc j → ⊥) → member row columns ≡ true
  earlier low high off = f.diagonal low (omega (arith, short_of high off))

  fine_present : j < n → Fine n row (suc j) (columns ++ suc j ∷ [])
  fine_present more = record {
    faultless = snoc_faultless n 0 columns (suc j) f.faultless (omega (arith, f.no_more)) (omega arith) more;
    no_more = rw (last_snoc 0 columns (suc j)) (omega arith);
    diagonal = λ low high.
        by_test (eqb row (suc j))
        (λ e. rw (eqb-true row (suc j) e) (member_snoc (suc j) columns))
        (λ e. let off = eqb-false row (suc j) e in member_snoc_other row (suc j) columns off ∙ earlier low high off);
  }

  fine_absent : (row ≡ suc j → ⊥) → Fine n row (suc j) columns
  fine_absent off = record { faultless = f.faultless; no_more = omega (arith, f.no_more); diagonal = λ low high. earlier low high off }

fine_row : (d n row state j : ℕ) → j ≤ n → Fine n row j (row_up_to d row state j).columns
unfolding row_up_to entered asked
fine_row d n row state zero h = fine_none n row
fine_row d n row state (suc j) h =
    let r = row_up_to d row state j in
    let f = fine_row d n row state j (omega arith) in
    by_place d row (suc j) r (λ (q : DrawnRow). Fine n row (suc j) q.columns)
    (λ e. fine_present n row j r.columns f h)
    (λ e. fine_absent n row j r.columns f (absent_off d row (suc j) r.state e))

-- what the judgement asks of a row
abbrev RowFine : ℕ → ℕ → List ℕ → Type 0
RowFine n row columns = first_fault (entries_fault n 0 columns) (cond (member row columns) 0 5) ≡ 0

row_fine : (d n row state : ℕ) → 1 ≤ row → row ≤ n → RowFine n row (row_up_to d row state n).columns
unfolding first_fault
row_fine d n row state low high =
    let f = fine_row d n row state n (omega arith) in
    rw (f.faultless, f.diagonal low high)

-- ---- the row starts

-- not falling, with one more at the end that is not below any other
not-falling_snoc : (low : ℕ) (xs : List ℕ) (y : ℕ) → not_falling low xs ≡ true → ((k : ℕ) → k < length xs → get_or xs k 0 ≤ y) → low ≤ y → not_falling low (xs ++ y ∷ []) ≡ true
unfolding not_falling
not-falling_snoc low [] y e all h = rw (le-leb low y h)
not-falling_snoc low (x ∷ xs) y e all h =
    rw (and_left (leb low x) (not_falling x xs) e)
    (not-falling_snoc x xs y (and_right (leb low x) (not_falling x xs) e) (λ k l. all (suc k) (omega arith)) (all 0 (omega arith)))

starts_rise : (seed n d i : ℕ) → not_falling 0 (so_far seed n d i).starts ≡ true
unfolding rows_up_to next_row with_row not_falling
starts_rise seed n d zero = refl
starts_rise seed n d (suc i) =
    let l = so_far seed n d i in
    let many : length l.starts ≡ suc i = omega (arith, starts-many seed n d i) in
    not-falling_snoc 0 l.starts (length (l.columns ++ (row_after seed n d i).columns)) (starts_rise seed n d i)
    (λ k h. let is = starts_at seed n d i k (omega (arith, many)) in
    omega (arith, is, load_grows seed n d k i (omega (arith, many)), length-append l.columns (row_after seed n d i).columns))
    (omega arith)

-- ---- the judgement

rows_faultless : (p : Lent) (i left : ℕ) → ((k : ℕ) → i ≤ k → k < i + left → row_fault p k ≡ 0) → rows_fault p i left ≡ 0
unfolding rows_fault first_fault
rows_faultless p i zero h = refl
rows_faultless p i (suc left) h = rw (h i (omega arith) (omega arith)) (rows_faultless p (suc i) left (λ k a b. h k (omega arith) (omega arith)))

module _ (seed n d : ℕ) where
  abbrev starts : List ℕ
  starts = (so_far seed n d n).starts

  abbrev columns : List ℕ
  columns = (so_far seed n d n).columns

  -- row k + 1 of the pattern is the load's
  pub row_is : (k : ℕ) → k < n → row_of (lent_square n starts columns) (suc k) ≡ (row_after seed n d k).columns
  unfolding row_of lent
  row_is k h = rw (starts_at seed n d n k (omega arith), starts_at seed n d n (suc k) h) (rows_at_lem seed n d n k h)

  row_faultless : (k : ℕ) → 1 ≤ k → k < 1 + n → row_fault (lent_square n starts columns) k ≡ 0
  unfolding row_fault lent
  row_faultless zero low high = absurd (omega arith)
  row_faultless (suc k) low high = rw (row_is k (omega arith), le-ltb n (suc k) (omega arith)) (row_fine d n (suc k) (so_far seed n d k).state low (omega arith))

  first_start : get_or starts 0 0 ≡ 0
  unfolding rows_up_to
  first_start = starts_at seed n d n 0 (omega arith)

  fits-starts : starts_fit (lent_square n starts columns) ≡ true
  unfolding starts_fit lent
  fits-starts =
      let many : length starts ≡ suc n = omega (arith, starts-many seed n d n) in
      rw (
        eq-eqb (length starts) (suc n) many,
        eq-eqb (get_or starts 0 0) 0 first_start,
        starts_rise seed n d n,
        eq-eqb (get_or starts n 0) (length columns) (starts_at seed n d n n (omega arith)),
      )

  small-enough : (most : ℕ) → 1 ≤ n → n ≤ 1024 → n ≤ most → length columns ≤ 16384 → too_large most (lent_square n starts columns) ≡ false
  unfolding too_large lent max_n max_entries
  small-enough most low high fits few =
      let some : n ≡ 0 → ⊥ = λ e. omega (arith, e) in
      let bound : n ≤ min most 1024 = omega arith in
      rw (ne_eqb n 0 some, le-ltb (min most 1024) n bound, le-ltb 16384 (length columns) few)

  fits-height : n ≤ 1024 → height_fits (lent_square n starts columns) ≡ true
  unfolding height_fits lent max_height
  fits-height high = rw (le-leb n n (omega arith), le-leb n 2048 (omega arith))

  pub passes : (most : ℕ) → 1 ≤ n → n ≤ 1024 → n ≤ most → length columns ≤ 16384 → pattern_fault most (lent_square n starts columns) ≡ 0
  unfolding pattern_fault lent
  passes most low high fits few = rw (small-enough most low high fits few, fits-height high, fits-starts) (rows_faultless (lent_square n starts columns) 1 n row_faultless)
