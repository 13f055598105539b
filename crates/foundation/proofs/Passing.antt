-- What a pattern that passes the judgement 1 to 5 is known to be, and which numbers a fault may have.
use mathlib.Core.Bool.{Bool, true, false, cond, ◌&&◌, ◌||◌, true≢false}
use mathlib.Core.List.{List, [], ◌∷◌}
use mathlib.Core.Logic.{◌⊎◌, inl, inr, ⊎_elim}
use mathlib.Core.Path.{◌≡◌, refl, sym, ap, ◌∙◌}
use Prim.Native.Nat.{ℕ, zero, suc, ◌+◌, ◌-◌, ◌≤◌, ◌<◌, min}
use native.Mathlib.Omega.{arith}
use lib.Dec.{eqb, ltb, leb}
use lib.ListN.{length, get_or}
use lib.Seq.{length-slice}
use borrow.Author.Tests.{eqb-true, eqb-false, ltb-true, ltb-false, leb-true, le-ltb}
use Rattle.lists.specs.Functions.{total}
use Rattle.lists.specs.Sets.{member, Ascending, upto, run}
use Rattle.lists.proofs.Members.{by_test, and_left, and_right, member_cases, not-member-nil}
use Rattle.lists.proofs.Places.{upto_snoc, total-append}
use Rattle.foundation.specs.Pattern.{Lent, row_of, pattern_of, max_n, max_entries, max_height, too_large, height_fits, not_falling, starts_fit, entries_fault, first_fault, row_fault, rows_fault, pattern_fault}
use Rattle.foundation.specs.Facts.{Plannable, entries_of}

-- ---- faults

fault_then : (t : Bool) (fault later : ℕ) → cond t (suc fault) later ≡ 0 → (t ≡ false) × (later ≡ 0)
fault_then true fault later e = absurd (omega arith)
fault_then false fault later e = (refl, e)

fault_else : (t : Bool) (later fault : ℕ) → cond t later (suc fault) ≡ 0 → (t ≡ true) × (later ≡ 0)
fault_else true later fault e = (refl, e)
fault_else false later fault e = absurd (omega arith)

no_fault : (earlier later : ℕ) → first_fault earlier later ≡ 0 → (earlier ≡ 0) × (later ≡ 0)
unfolding first_fault
no_fault zero later e = (refl, e)
no_fault (suc fault) later e = absurd (omega arith)

or_false : (a b : Bool) → a || b ≡ false → (a ≡ false) × (b ≡ false)
or_false true b e = absurd (true≢false e)
or_false false b e = (refl, e)

-- columns without a fault ascend and are n at most
entries_pass : (n before : ℕ) (cs : List ℕ) → entries_fault n before cs ≡ 0 → Ascending (suc before) cs × ((j : ℕ) → member j cs ≡ true → j ≤ n)
unfolding entries_fault Ascending
entries_pass n before [] e = (tt, λ j m. absurd (not-member-nil j m))
entries_pass n before (c ∷ cs) e =
    let (ends, e₁) = fault_else (leb 1 c && leb c n) _ 2 e in
    let (above, e₂) = fault_else (ltb before c) _ 3 e₁ in
    let high : c ≤ n = leb-true c n (and_right (leb 1 c) (leb c n) ends) in
    let rest : Ascending (suc c) cs × ((j : ℕ) → member j cs ≡ true → j ≤ n) = entries_pass n c cs e₂ in
    ((ltb-true before c above, rest.0), λ j m. ⊎_elim (λ (q : j ≡ c). omega arith) (rest.1 j) (member_cases j c cs m))

rows_pass : (p : Lent) (i left : ℕ) → rows_fault p i left ≡ 0 → (j : ℕ) → i ≤ j → j < i + left → row_fault p j ≡ 0
unfolding rows_fault
rows_pass p i zero e j low high = absurd (omega arith)
rows_pass p i (suc left) e j low high =
    let (here, later) = no_fault (row_fault p i) (rows_fault p (suc i) left) e in
    by_test (eqb i j)
    (λ q. rw (eqb-true i j q) at here)
    (λ q. rows_pass p (suc i) left later j (omega (arith, eqb-false i j q)) (omega arith))

module _ (most : ℕ) (p : Lent) (passes : pattern_fault most p ≡ 0) where
  parts : (too_large most p ≡ false) × (height_fits p ≡ true) × (starts_fit p ≡ true) × (rows_fault p 1 p.height ≡ 0)
  unfolding pattern_fault
  parts =
      let (small, e) = fault_then (too_large most p) 0 _ passes in
      let (tall, e') = fault_else (height_fits p) _ 24 e in
      let (fit, rows) = fault_else (starts_fit p) _ 1 e' in
      (small, tall, fit, rows)

  -- A pattern that passes has starts that fit.
  pub passes_starts : starts_fit p ≡ true
  passes_starts = parts.2

  -- A pattern that passes has as many rows as columns, or more, and no more than 2,048.
  pub passes_height : (p.n ≤ p.height) × (p.height ≤ max_height)
  unfolding height_fits
  passes_height =
      (leb-true _ _ (and_left (leb p.n p.height) (leb p.height max_height) parts.1), leb-true _ _ (and_right (leb p.n p.height) (leb p.height max_height) parts.1))

  -- A pattern that passes has a size from 1 to the largest, at most 1,024, and no more than 16,384 entries.
  pub passes_small : (1 ≤ p.n) × (p.n ≤ most) × (p.n ≤ max_n) × (length p.columns ≤ max_entries)
  unfolding too_large max_n max_entries
  passes_small =
      let (some, e) = or_false (eqb p.n 0) _ parts.0 in
      let (low, high) = or_false (ltb (min most max_n) p.n) _ e in
      let few : p.n ≤ min most 1024 = ltb-false (min most 1024) p.n low in
      (omega (arith, eqb-false p.n 0 some), omega arith, omega arith, ltb-false max_entries (length p.columns) high)

  row_passes : (i : ℕ) → 1 ≤ i → i ≤ p.height → (entries_fault p.n 0 (row_of p i) ≡ 0) × (ltb p.n i || member i (row_of p i) ≡ true)
  unfolding row_fault
  row_passes i low high =
      let (entries, own) = no_fault _ _ (rows_pass p 1 p.height parts.3 i low (omega arith)) in
      (entries, (fault_else (ltb p.n i || member i (row_of p i)) 0 4 own).0)

  -- A pattern that passes can be planned.
  pub passes_plannable : Plannable (pattern_of p)
  unfolding pattern_of
  passes_plannable = record {
    ascending = λ i low high. (entries_pass p.n 0 (row_of p i) (row_passes i low high).0).0;
    bounded = λ i j low high. (entries_pass p.n 0 (row_of p i) (row_passes i low high).0).1 j;
    diagonal = λ i low high. rw (le-ltb p.n i high) at (row_passes i low (omega (arith, passes_height))).1;
    tall = passes_height.0;
  }

-- ---- the numbers of the faults: 1 to 5, and 25

cond-le : (t : Bool) (a b c : ℕ) → a ≤ c → b ≤ c → cond t a b ≤ c
cond-le true a b c x y = x
cond-le false a b c x y = y

first_le : (a b c : ℕ) → a ≤ c → b ≤ c → first_fault a b ≤ c
unfolding first_fault
first_le zero b c x y = y
first_le (suc a) b c x y = x

entries-small : (n before : ℕ) (cs : List ℕ) → entries_fault n before cs ≤ 5
unfolding entries_fault
entries-small n before [] = omega arith
entries-small n before (c ∷ cs) =
    cond-le (leb 1 c && leb c n) _ 3 5 (cond-le (ltb before c) _ 4 5 (entries-small n c cs) (omega arith)) (omega arith)

rows-small : (p : Lent) (i left : ℕ) → rows_fault p i left ≤ 5
unfolding rows_fault row_fault
rows-small p i zero = omega arith
rows-small p i (suc left) =
    first_le (first_fault (entries_fault p.n 0 (row_of p i)) (cond (ltb p.n i || member i (row_of p i)) 0 5)) (rows_fault p (suc i) left) 5
    (first_le _ _ 5 (entries-small p.n 0 (row_of p i)) (cond-le (ltb p.n i || member i (row_of p i)) 0 5 5 (omega arith) (omega arith)))
    (rows-small p (suc i) left)

-- A fault of a pattern has a number up to 5, or is 25.
pub fault-known : (most : ℕ) (p : Lent) → (pattern_fault most p ≤ 5) ⊎ (pattern_fault most p ≡ 25)
unfolding pattern_fault
fault-known most p =
    by_test (too_large most p) (λ e. inl (rw e (omega arith)))
    (λ e. by_test (height_fits p)
    (λ h. inl (rw (e, h) (cond-le (starts_fit p) _ 2 5 (rows-small p 1 p.height) (omega arith))))
    (λ h. inr (rw (e, h))))

-- 25 alone of them is above 5
pub fault-small : (most : ℕ) (p : Lent) → pattern_fault most p ≤ 25
fault-small most p = ⊎_elim (λ (h : pattern_fault most p ≤ 5). omega arith) (λ (h : pattern_fault most p ≡ 25). omega arith) (fault-known most p)

-- ---- entries

-- numbers that do not fall are none below the bound
pub rising-low : (low : ℕ) (xs : List ℕ) (i : ℕ) → not_falling low xs ≡ true → i < length xs → low ≤ get_or xs i 0
unfolding not_falling
rising-low low [] i e h = absurd (omega arith)
rising-low low (x ∷ xs) zero e h = leb-true low x (and_left (leb low x) (not_falling x xs) e)
rising-low low (x ∷ xs) (suc i) e h =
    omega (arith, leb-true low x (and_left (leb low x) (not_falling x xs) e), rising-low x xs i (and_right (leb low x) (not_falling x xs) e) (omega arith))

-- nor is a later one below an earlier one
pub rising : (low : ℕ) (xs : List ℕ) (i j : ℕ) → not_falling low xs ≡ true → i ≤ j → j < length xs → get_or xs i 0 ≤ get_or xs j 0
unfolding not_falling
rising low [] i j e l h = absurd (omega arith)
rising low (x ∷ xs) zero zero e l h = omega arith
rising low (x ∷ xs) zero (suc j) e l h = rising-low x xs j (and_right (leb low x) (not_falling x xs) e) (omega arith)
rising low (x ∷ xs) (suc i) zero e l h = absurd (omega arith)
rising low (x ∷ xs) (suc i) (suc j) e l h = rising x xs i j (and_right (leb low x) (not_falling x xs) e) (omega arith) (omega arith)

module _ (p : Lent) (fit : starts_fit p ≡ true) where
  starts_parts : (length p.starts ≡ suc p.height) × (get_or p.starts 0 0 ≡ 0) × (not_falling 0 p.starts ≡ true) × (get_or p.starts p.height 0 ≡ length p.columns)
  unfolding starts_fit
  starts_parts =
      let e₁ = and_right (eqb (length p.starts) (suc p.height)) _ fit in
      let e₂ = and_right (eqb (get_or p.starts 0 0) 0) _ e₁ in (
        eqb-true _ _ (and_left (eqb (length p.starts) (suc p.height)) _ fit),
        eqb-true _ _ (and_left (eqb (get_or p.starts 0 0) 0) _ e₁),
        and_left (not_falling 0 p.starts) _ e₂,
        eqb-true _ _ (and_right (not_falling 0 p.starts) _ e₂),
      )

  row_length : (m : ℕ) → suc m ≤ p.height → length (row_of p (suc m)) ≡ get_or p.starts (suc m) 0 - get_or p.starts m 0
  unfolding row_of
  row_length m h =
      let (count, zeroth, up, end) = starts_parts in
      length-slice (get_or p.starts m 0) (get_or p.starts (suc m) 0) p.columns
      (omega (arith, rising 0 p.starts (suc m) p.height up h (omega arith)))

  -- Where starts fit, the first m rows hold as many entries as the start behind them says.
  pub rows_before : (m : ℕ) → m ≤ p.height → total (λ i. length (row_of p i)) (upto m) ≡ get_or p.starts m 0
  unfolding total upto run
  rows_before zero h = sym starts_parts.1
  rows_before (suc m) h =
      let (count, zeroth, up, end) = starts_parts in
      let size : ℕ → ℕ = λ i. length (row_of p i) in
      let split : total size (upto (suc m)) ≡ total size (upto m) + total size (suc m ∷ []) =
      ap (total size) (upto_snoc m) ∙ total-append size (upto m) (suc m ∷ []) in
      omega (arith, split, rows_before m (omega arith), row_length m h, rising 0 p.starts m (suc m) up (omega arith) (omega arith))

-- A pattern that passes has as many entries as columns are lent.
pub passes_entries : (most : ℕ) (p : Lent) → pattern_fault most p ≡ 0 → entries_of (pattern_of p) ≡ length p.columns
unfolding entries_of pattern_of
passes_entries most p passes =
    let fit = passes_starts most p passes in
    rows_before p fit p.height (omega arith) ∙ (starts_parts p fit).3
