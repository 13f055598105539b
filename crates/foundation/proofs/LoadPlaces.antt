-- Where the rows of a load stand in the stores, and the places of a row in that row.
use mathlib.Core.Bool.{Bool, true, false}
use mathlib.Core.List.{List, [], ◌∷◌, ◌++◌}
use mathlib.Core.Path.{◌≡◌, refl, sym, ap, ◌∙◌}
use Prim.Native.Nat.{ℕ, zero, suc, ◌+◌, ◌≤◌, ◌<◌}
use native.Mathlib.Omega.{arith}
use lib.Dec.{eqb, ltb}
use lib.ListN.{length, get_or, drop, length-append, get_or-append}
use lib.Seq.{slice, take-append-le, take-length, drop_at, get_or_at, get_or-append-add}
use borrow.Author.Tests.{eqb-true, eqb-false, ltb-true, ltb-false, lt-ltb, le-ltb}
use Rattle.lists.specs.Functions.{keep}
use Rattle.lists.specs.Sets.{member}
use Rattle.lists.proofs.Members.{by_test, fails, not-member-nil, member_snoc, member_snoc_other}
use Rattle.lists.proofs.Kept.{keep_all}
use Rattle.foundation.specs.Numbers.{plus_zero}
use Rattle.foundation.specs.Draw.{drawn, drawn_value}
use Rattle.foundation.specs.Load.{DrawnRow, entered, present_by, asked_state, asked, row_up_to, with_row, next_row, rows_up_to}
use Rattle.foundation.proofs.LoadRows.{by_place, place_present, row_as_many, row_grows, load_grows, so_far, row_after, load_as_many, right_many, starts-many}

-- up to a number, or that number
last_or : {P : Type 0} (k i : ℕ) → k < suc i → (k < i → P) → (k ≡ i → P) → P
last_or k i h before here = by_test (ltb k i) (λ e. before (ltb-true k i e)) (λ e. here (omega (arith, ltb-false k i e)))

-- ---- rows in the stores

-- a part of the front, and the part behind it
slice_front : (a e : ℕ) (xs ys : List ℕ) → e ≤ length xs → slice a e (xs ++ ys) ≡ slice a e xs
slice_front a e xs ys h = ap (drop a) (take-append-le e xs ys h)

slice_back : (xs ys : List ℕ) → slice (length xs) (length (xs ++ ys)) (xs ++ ys) ≡ ys
slice_back xs ys = ap (drop (length xs)) (take-length (xs ++ ys)) ∙ drop_at xs ys (length xs) refl

module _ (seed n d : ℕ) where
  -- how many entries there are before a row
  abbrev pub before : ℕ → ℕ
  before k = length (so_far seed n d k).columns

  pub before_next : (k : ℕ) → before (suc k) ≡ before k + length (row_after seed n d k).columns
  unfolding rows_up_to next_row with_row
  before_next k = length-append (so_far seed n d k).columns (row_after seed n d k).columns

  -- each row start
  pub starts_at : (i k : ℕ) → k ≤ i → get_or (so_far seed n d i).starts k 0 ≡ before k
  unfolding rows_up_to next_row with_row
  starts_at zero k h = let e : k ≡ 0 = omega arith in rw e refl
  starts_at (suc i) k h =
      let l = so_far seed n d i in
      let end = length (l.columns ++ (row_after seed n d i).columns) in
      let many : length l.starts ≡ suc i = omega (arith, starts-many seed n d i) in
      last_or k (suc i) (omega arith)
      (λ low. get_or-append l.starts (end ∷ []) 0 k (omega (arith, many)) ∙ starts_at i k (omega arith))
      (λ e. rw e (get_or_at l.starts end [] 0 (suc i) many))

  -- the columns of each row
  pub rows_at_lem : (i k : ℕ) → k < i → slice (before k) (before (suc k)) (so_far seed n d i).columns ≡ (row_after seed n d k).columns
  unfolding rows_up_to next_row with_row
  rows_at_lem zero k h = absurd (omega arith)
  rows_at_lem (suc i) k h =
      let l = so_far seed n d i in
      last_or k i h
      (λ low. slice_front (before k) (before (suc k)) l.columns (row_after seed n d i).columns (load_grows seed n d (suc k) i low) ∙ rows_at_lem i k low)
      (λ e. rw e (slice_back l.columns (row_after seed n d i).columns))

  -- its values, and its right side
  pub values_at : (i k m : ℕ) → k < i → m < length (row_after seed n d k).values
      → get_or (so_far seed n d i).values (before k + m) plus_zero ≡ get_or (row_after seed n d k).values m plus_zero
  unfolding rows_up_to next_row with_row
  values_at zero k m h inside = absurd (omega arith)
  values_at (suc i) k m h inside =
      let l = so_far seed n d i in
      let r = row_after seed n d i in
      let many = row_as_many d (suc k) (so_far seed n d k).state n in
      last_or k i h
      (λ low. get_or-append l.values r.values plus_zero (before k + m)
      (omega (arith, inside, many, before_next k, load_grows seed n d (suc k) i low, load_as_many seed n d i)) ∙ values_at i k m low inside)
      (λ e. rw (e, ← load_as_many seed n d i) (get_or-append-add l.values r.values m plus_zero))

  pub right_at_lem : (i k : ℕ) → k < i → get_or (so_far seed n d i).right k plus_zero ≡ drawn_value (drawn (row_after seed n d k).state)
  unfolding rows_up_to next_row with_row
  right_at_lem zero k h = absurd (omega arith)
  right_at_lem (suc i) k h =
      let l = so_far seed n d i in
      let v = drawn_value (drawn (row_after seed n d i).state) in
      last_or k i h
      (λ low. get_or-append l.right (v ∷ []) plus_zero k (omega (arith, right_many seed n d i)) ∙ right_at_lem i k low)
      (λ e. rw e (get_or_at l.right v [] plus_zero i (right_many seed n d i)))

-- ---- places in a row

-- one more that does not pass a test
keep_drops : (t : ℕ → Bool) (xs : List ℕ) (y : ℕ) → t y ≡ false → keep t (xs ++ y ∷ []) ≡ keep t xs
unfolding keep
keep_drops t [] y e = rw e
keep_drops t (x ∷ xs) y e = by_test (t x) (λ h. rw h (ap (λ (l : List ℕ). x ∷ l) (keep_drops t xs y e))) (λ h. rw h (keep_drops t xs y e))

module _ (d row state : ℕ) where
  abbrev pub placed : ℕ → DrawnRow
  placed j = row_up_to d row state j

  -- no column is above the last place
  row_low : (j x : ℕ) → member x (placed j).columns ≡ true → x ≤ j
  unfolding row_up_to entered asked
  row_low zero x = λ h. absurd (not-member-nil x h)
  row_low (suc j) x =
      by_place d row (suc j) (placed j) (λ (q : DrawnRow). member x q.columns ≡ true → x ≤ suc j)
      (λ _ h. by_test (eqb x (suc j))
      (λ e. omega (arith, eqb-true x (suc j) e))
      (λ e. omega (arith, row_low j x (sym (member_snoc_other x (suc j) (placed j).columns (eqb-false x (suc j) e)) ∙ h))))
      (λ _ h. omega (arith, row_low j x h))

  -- the columns before a place are those that were there when it was asked
  pub row_front : (j m : ℕ) → j ≤ m → keep (λ c. ltb c (suc j)) (placed m).columns ≡ (placed j).columns
  unfolding row_up_to entered asked keep
  row_front j zero h = let e : j ≡ 0 = omega arith in rw e refl
  row_front j (suc m) h =
      last_or j (suc m) (omega arith)
      (λ low. by_place d row (suc m) (placed m) (λ (q : DrawnRow). keep (λ c. ltb c (suc j)) q.columns ≡ (placed j).columns)
      (λ _. keep_drops (λ c. ltb c (suc j)) (placed m).columns (suc m) (le-ltb (suc m) (suc j) (omega arith)) ∙ row_front j m (omega arith))
      (λ _. row_front j m (omega arith)))
      (λ e. rw e (keep_all (λ c. ltb c (suc (suc m))) (placed (suc m)).columns (λ x is. lt-ltb x (suc (suc m)) (omega (arith, row_low (suc m) x is)))))

  -- a place is in the row just where it was found present
  pub row_member : (j m : ℕ) → j < m → member (suc j) (placed m).columns ≡ present_by d row (suc j) (placed j).state
  unfolding row_up_to entered asked
  row_member j zero h = absurd (omega arith)
  row_member j (suc m) h =
      last_or j m h
      (λ low. by_place d row (suc m) (placed m) (λ (q : DrawnRow). member (suc j) q.columns ≡ present_by d row (suc j) (placed j).state)
      (λ _. member_snoc_other (suc j) (suc m) (placed m).columns (λ e. omega (arith, e)) ∙ row_member j m low)
      (λ _. row_member j m low))
      (λ e. rw e (by_place d row (suc m) (placed m) (λ (q : DrawnRow). member (suc m) q.columns ≡ present_by d row (suc m) (placed m).state)
      (λ is. member_snoc (suc m) (placed m).columns ∙ sym is)
      (λ is. fails (member (suc m) (placed m).columns) (λ there. omega (arith, row_low m (suc m) there)) ∙ sym is)))

  -- its value stands behind those that were there
  pub longer : (j : ℕ) → present_by d row (suc j) (placed j).state ≡ true → length (placed j).columns < length (placed (suc j)).columns
  unfolding row_up_to entered asked
  longer j is = rw (place_present d row (suc j) (placed j) is) (omega (arith, length-append (placed j).columns (suc j ∷ [])))

  pub row_value : (j m : ℕ) → j < m → present_by d row (suc j) (placed j).state ≡ true
      → get_or (placed m).values (length (placed j).columns) plus_zero ≡ drawn_value (drawn (asked_state row (suc j) (placed j).state))
  unfolding row_up_to entered asked
  row_value j zero h is = absurd (omega arith)
  row_value j (suc m) h is =
      let at = length (placed j).columns in
      last_or j m h
      (λ low. by_place d row (suc m) (placed m) (λ (q : DrawnRow). get_or q.values at plus_zero ≡ drawn_value (drawn (asked_state row (suc j) (placed j).state)))
      (λ _. get_or-append (placed m).values (drawn_value (drawn (asked_state row (suc m) (placed m).state)) ∷ []) plus_zero at
      (omega (arith, longer j is, row_grows d row state (suc j) m low, row_as_many d row state m)) ∙ row_value j m low is)
      (λ _. row_value j m low is))
      (λ e. here j m e is)
    where
      here : (j m : ℕ) → j ≡ m → present_by d row (suc j) (placed j).state ≡ true
          → get_or (placed (suc m)).values (length (placed j).columns) plus_zero ≡ drawn_value (drawn (asked_state row (suc j) (placed j).state))
      here j m e is = rw (sym e, place_present d row (suc j) (placed j) is)
          (get_or_at (placed j).values (drawn_value (drawn (asked_state row (suc j) (placed j).state))) [] plus_zero (length (placed j).columns) (row_as_many d row state j))
