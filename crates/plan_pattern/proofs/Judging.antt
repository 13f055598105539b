-- The judgement's definitions, read as the code works: one place of a list at a time, one row at a time.
use mathlib.Core.Path.{◌≡◌, refl, sym, ap, ◌∙◌}
use mathlib.Core.Bool.{true, false, ◌&&◌, ◌||◌, and-true, and-false}
use mathlib.Core.List.{List}
use Prim.Native.Nat.{ℕ, zero, suc, ◌+◌, ◌-◌, ◌≤◌, ◌<◌, min}
use native.Mathlib.Numerals.{add-one}
use native.Mathlib.Omega.{arith}
use lib.Dec.{eqb, ltb}
use lib.ListN.{length, get_or, take, drop, drop_of_length-le}
use lib.Seq.{drop-cons}
use borrow.Author.Tests.{eqb-true, le-leb, lt-leb, lt-ltb, le-ltb, eq-eqb, ne_eqb}
use Rattle.lists.specs.Sets.{member}
use Rattle.lists.proofs.Members.{and_left, and_right, or_left, or_right}
use Rattle.lists.proofs.Places.{slice_part}
use Rattle.foundation.specs.Pattern.{Lent, lent, row_of, not_falling, starts_fit, entries_fault, first_fault, row_fault, rows_fault, too_large, height_fits, max_n, max_entries, max_height, pattern_fault}
use Rattle.foundation.proofs.Passing.{rising}

-- ---- one place of a list that is read from the front

module _ (xs : List ℕ) (i : ℕ) (here : i < length xs) where
  pub falls_here : (low : ℕ) → get_or xs i 0 < low → not_falling low (drop i xs) ≡ false
  unfolding not_falling
  falls_here low f = rw (drop-cons xs i 0, lt-leb low (get_or xs i 0))

  pub rises_here : (low : ℕ) → low ≤ get_or xs i 0 → not_falling low (drop i xs) ≡ not_falling (get_or xs i 0) (drop (i + 1) xs)
  unfolding not_falling
  rises_here low f = rw (add-one, drop-cons xs i 0, le-leb low (get_or xs i 0))

  pub below_here : (n before : ℕ) → get_or xs i 0 < 1 → entries_fault n before (drop i xs) ≡ 3
  unfolding entries_fault
  below_here n before f = rw (drop-cons xs i 0, lt-leb 1 (get_or xs i 0))

  pub above_here : (n before : ℕ) → 1 ≤ get_or xs i 0 → n < get_or xs i 0 → entries_fault n before (drop i xs) ≡ 3
  unfolding entries_fault
  above_here n before l f = rw (drop-cons xs i 0, le-leb 1 (get_or xs i 0), lt-leb (get_or xs i 0) n)

  pub again_here : (n before : ℕ) → 1 ≤ get_or xs i 0 → get_or xs i 0 ≤ n → get_or xs i 0 ≤ before → entries_fault n before (drop i xs) ≡ 4
  unfolding entries_fault
  again_here n before l h f = rw (drop-cons xs i 0, le-leb 1 (get_or xs i 0), le-leb (get_or xs i 0) n, le-ltb before (get_or xs i 0))

  pub passes_here : (n before : ℕ) → 1 ≤ get_or xs i 0 → get_or xs i 0 ≤ n → before < get_or xs i 0 → entries_fault n before (drop i xs) ≡ entries_fault n (get_or xs i 0) (drop (i + 1) xs)
  unfolding entries_fault
  passes_here n before l h f = rw (add-one, drop-cons xs i 0, le-leb 1 (get_or xs i 0), le-leb (get_or xs i 0) n, lt-ltb before (get_or xs i 0))

  pub has_here : (x : ℕ) → get_or xs i 0 ≡ x → member x (drop i xs) ≡ true
  unfolding member
  has_here x e = rw (drop-cons xs i 0, eq-eqb x (get_or xs i 0) (sym e))

  pub lacks_here : (x : ℕ) → (get_or xs i 0 ≡ x → ⊥) → member x (drop i xs) ≡ member x (drop (i + 1) xs)
  unfolding member
  lacks_here x n = rw (add-one, drop-cons xs i 0, ne_eqb x (get_or xs i 0) (λ e. n (sym e)))

-- ---- the list's end

module _ (xs : List ℕ) (i : ℕ) (past : length xs ≤ i) where
  pub falls_nowhere : (low : ℕ) → not_falling low (drop i xs) ≡ true
  unfolding not_falling
  falls_nowhere low = rw (drop_of_length-le xs past)

  pub faults_nowhere : (n before : ℕ) → entries_fault n before (drop i xs) ≡ 0
  unfolding entries_fault
  faults_nowhere n before = rw (drop_of_length-le xs past)

  pub has_nowhere : (x : ℕ) → member x (drop i xs) ≡ false
  unfolding member
  has_nowhere x = rw (drop_of_length-le xs past)

-- ---- starts that fit

-- what refusal 2 leaves
pub record Fitted (height : ℕ) (starts columns : List ℕ) : Type 0 where
  pub count : length starts ≡ suc height
  pub rising : not_falling 0 starts ≡ true
  pub last : get_or starts height 0 ≡ length columns

pub fitted : (n height : ℕ) (starts columns : List ℕ) → starts_fit (lent n height starts columns) ≡ true → Fitted height starts columns
unfolding starts_fit lent
fitted n height starts columns e =
    let count = eqb (length starts) (suc height) in
    let first = eqb (get_or starts 0 0) 0 in
    let rising = not_falling 0 starts in
    let last = eqb (get_or starts height 0) (length columns) in
    let rest = and_right first (rising && last) (and_right count (first && (rising && last)) e) in
    record {
      count = eqb-true (length starts) (suc height) (and_left count (first && (rising && last)) e);
      rising = and_left rising last rest;
      last = eqb-true (get_or starts height 0) (length columns) (and_right rising last rest);
    }

-- the tests of refusal 2, in the order of the code
module _ (n height : ℕ) (starts columns : List ℕ) where
  pub count_fails : (length starts ≡ height + 1 → ⊥) → starts_fit (lent n height starts columns) ≡ false
  unfolding starts_fit lent
  count_fails d = rw (ne_eqb (length starts) (suc height) (λ e. d (e ∙ sym (add-one height))))

  module _ (count : length starts ≡ height + 1) where
    pub first_fails : (get_or starts 0 0 ≡ 0 → ⊥) → starts_fit (lent n height starts columns) ≡ false
    unfolding starts_fit lent
    first_fails d = rw (eq-eqb (length starts) (suc height) (count ∙ add-one height), ne_eqb (get_or starts 0 0) 0 d)

    module _ (first : get_or starts 0 0 ≡ 0) where
      pub last_fails : (get_or starts height 0 ≡ length columns → ⊥) → starts_fit (lent n height starts columns) ≡ false
      unfolding starts_fit lent
      last_fails d = rw (eq-eqb (length starts) (suc height) (count ∙ add-one height), eq-eqb (get_or starts 0 0) 0 first, ne_eqb (get_or starts height 0) (length columns) d) (and-false (not_falling 0 starts))

      pub rising_left : get_or starts height 0 ≡ length columns → starts_fit (lent n height starts columns) ≡ not_falling 0 starts
      unfolding starts_fit lent
      rising_left e = rw (eq-eqb (length starts) (suc height) (count ∙ add-one height), eq-eqb (get_or starts 0 0) 0 first, eq-eqb (get_or starts height 0) (length columns) e) (and-true (not_falling 0 starts))

-- ---- one row after the other

module _ (p : Lent) (i left : ℕ) where
  row_stops : (fault : ℕ) → entries_fault p.n 0 (row_of p i) ≡ fault → (fault ≡ 0 → ⊥) → rows_fault p i (suc left) ≡ fault
  unfolding rows_fault row_fault first_fault
  row_stops zero e d = absurd (d refl)
  row_stops (suc fault) e d = rw e

  row_lacks : entries_fault p.n 0 (row_of p i) ≡ 0 → ltb p.n i || member i (row_of p i) ≡ false → rows_fault p i (suc left) ≡ 5
  unfolding rows_fault row_fault first_fault
  row_lacks e m = rw (e, m)

  row_passes : entries_fault p.n 0 (row_of p i) ≡ 0 → ltb p.n i || member i (row_of p i) ≡ true → rows_fault p i (suc left) ≡ rows_fault p (suc i) left
  unfolding rows_fault row_fault first_fault
  row_passes e m = rw (e, m)

pub rows-done : (p : Lent) (i left : ℕ) → left ≡ 0 → rows_fault p i left ≡ 0
unfolding rows_fault
rows-done p i left e = rw e

-- row i + 1, as the part of the columns that is lent
abbrev pub part : List ℕ → List ℕ → ℕ → List ℕ
part starts columns i = take (get_or starts (i + 1) 0 - get_or starts i 0) (drop (get_or starts i 0) columns)

module _ (height : ℕ) (starts columns : List ℕ) (f : Fitted height starts columns) (i : ℕ) (here : i < height) where
  pub row_order : get_or starts i 0 ≤ get_or starts (i + 1) 0
  row_order = let k = f.count in rising 0 starts i (i + 1) f.rising (omega arith) (omega arith)

  pub row_within : get_or starts (i + 1) 0 ≤ length columns
  row_within =
      let k = f.count in
      let e = f.last in
      let h = rising 0 starts (i + 1) height f.rising (omega arith) (omega arith) in
      omega arith

  one_more : height - i ≡ suc (height - (i + 1))
  one_more = omega arith

  module _ (n : ℕ) where
    row_lent : part starts columns i ≡ row_of (lent n height starts columns) (i + 1)
    unfolding row_of lent
    row_lent = slice_part (get_or starts i 0) (get_or starts (i + 1) 0) columns row_order ∙ rw add-one

    module _ (fault : ℕ) (found : fault ≡ entries_fault n 0 (part starts columns i)) where
      read : entries_fault n 0 (row_of (lent n height starts columns) (i + 1)) ≡ fault
      read = sym (found ∙ ap (entries_fault n 0) row_lent)

      pub rows-stop : (fault ≡ 0 → ⊥) → rows_fault (lent n height starts columns) (i + 1) (height - i) ≡ fault
      unfolding lent
      rows-stop d = rw one_more (row_stops (lent n height starts columns) (i + 1) (height - (i + 1)) fault read d)

      pub rows_lack : fault ≡ 0 → false ≡ (ltb n (i + 1) || member (i + 1) (part starts columns i)) → rows_fault (lent n height starts columns) (i + 1) (height - i) ≡ 5
      unfolding lent
      rows_lack e m = rw one_more (row_lacks (lent n height starts columns) (i + 1) (height - (i + 1)) (read ∙ e) (sym (m ∙ ap (λ row. ltb n (i + 1) || member (i + 1) row) row_lent)))

      pub rows_pass : fault ≡ 0 → true ≡ (ltb n (i + 1) || member (i + 1) (part starts columns i))
          → rows_fault (lent n height starts columns) (i + 1) (height - i) ≡ rows_fault (lent n height starts columns) ((i + 1) + 1) (height - (i + 1))
      unfolding lent
      rows_pass e m =
          rw (one_more, add-one (i + 1)) (row_passes (lent n height starts columns) (i + 1) (height - (i + 1)) (read ∙ e) (sym (m ∙ ap (λ row. ltb n (i + 1) || member (i + 1) row) row_lent)))

-- ---- refusals 1 to 5

module _ (most n height : ℕ) (starts columns : List ℕ) where
  large : too_large most (lent n height starts columns) ≡ true → pattern_fault most (lent n height starts columns) ≡ 1
  unfolding pattern_fault
  large e = rw e

  pub no_columns : n ≡ 0 → pattern_fault most (lent n height starts columns) ≡ 1
  unfolding too_large lent
  no_columns e = large (or_left _ _ (eq-eqb n 0 e))

  pub many-columns : most < n → pattern_fault most (lent n height starts columns) ≡ 1
  unfolding too_large max_n lent
  many-columns h = large (or_right (eqb n 0) _ (or_left _ _ (lt-ltb (min most 1024) n (omega arith))))

  pub too_many-columns : 1024 < n → pattern_fault most (lent n height starts columns) ≡ 1
  unfolding too_large max_n lent
  too_many-columns h = large (or_right (eqb n 0) _ (or_left _ _ (lt-ltb (min most 1024) n (omega arith))))

  pub many-entries : 16384 < length columns → pattern_fault most (lent n height starts columns) ≡ 1
  unfolding too_large max_entries lent
  many-entries h = large (or_right (eqb n 0) _ (or_right (ltb (min most max_n) n) _ (lt-ltb 16384 (length columns) h)))

  module _ (rows : n ≡ 0 → ⊥) (few : n ≤ most) (within : n ≤ 1024) (entries : length columns ≤ 16384) where
    small : too_large most (lent n height starts columns) ≡ false
    unfolding too_large max_n max_entries lent
    small = rw (ne_eqb n 0 rows, le-ltb (min most 1024) n (omega arith), le-ltb 16384 (length columns) entries)

    pub too_few-rows : height < n → pattern_fault most (lent n height starts columns) ≡ 25
    unfolding pattern_fault height_fits lent
    too_few-rows h = rw (small, lt-leb n height h)

    pub too_tall : n ≤ height → 2048 < height → pattern_fault most (lent n height starts columns) ≡ 25
    unfolding pattern_fault height_fits max_height lent
    too_tall l h = rw (small, le-leb n height l, lt-leb height 2048 h)

    module _ (tall : n ≤ height) (rows_few : height ≤ 2048) where
      fits : height_fits (lent n height starts columns) ≡ true
      unfolding height_fits max_height lent
      fits = rw (le-leb n height tall, le-leb height 2048 rows_few)

      pub starts-refused : starts_fit (lent n height starts columns) ≡ false → pattern_fault most (lent n height starts columns) ≡ 2
      unfolding pattern_fault
      starts-refused e = rw (small, fits, e)

      pub rows-judged : starts_fit (lent n height starts columns) ≡ true → pattern_fault most (lent n height starts columns) ≡ rows_fault (lent n height starts columns) 1 height
      unfolding pattern_fault lent
      rows-judged e = rw (small, fits, e)
