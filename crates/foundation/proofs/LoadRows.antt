-- Rows and loads as they are drawn: what a place adds, and that neither takes anything away.
use mathlib.Core.Bool.{true, false, true≢false}
use mathlib.Core.List.{[], ◌∷◌, ◌++◌}
use mathlib.Core.Path.{◌≡◌, refl}
use Prim.Native.Nat.{ℕ, zero, suc, ◌+◌, ◌≤◌}
use native.Mathlib.Numerals.{add-one}
use native.Mathlib.Omega.{arith}
use lib.Dec.{leb}
use lib.ListN.{length, length-append}
use borrow.Author.Tests.{eq-eqb, leb-true, leb-false}
use Rattle.lists.proofs.Members.{by_test}
use Rattle.foundation.specs.Draw.{drawn, drawn_value}
use Rattle.foundation.specs.Load.{DrawnRow, entered, present_by, asked_state, asked, next_place, row_up_to, Load, with_row, next_row, rows_up_to}

-- ---- a place

module _ (d row column : ℕ) (r : DrawnRow) where
  pub place_present : present_by d row column r.state ≡ true → next_place d row column r ≡ entered column (asked row column r)
  unfolding next_place
  place_present e = rw e

  pub place_absent : present_by d row column r.state ≡ false → next_place d row column r ≡ asked row column r
  unfolding next_place
  place_absent e = rw e

  -- what holds of the row with the entry and of the row without it holds of the row with one place more
  pub by_place : (P : DrawnRow → Type 0)
      → (present_by d row column r.state ≡ true → P (entered column (asked row column r)))
      → (present_by d row column r.state ≡ false → P (asked row column r))
      → P (next_place d row column r)
  by_place P present absent =
      by_test (present_by d row column r.state) (λ e. rw (place_present e) (present e)) (λ e. rw (place_absent e) (absent e))

-- the diagonal's place is present
pub absent_off : (d row column state : ℕ) → present_by d row column state ≡ false → row ≡ column → ⊥
unfolding present_by
absent_off d row column state e on = true≢false (rw (eq-eqb row column on) at e)

-- ---- a row

pub row_next : (d row state j : ℕ) → row_up_to d row state (j + 1) ≡ next_place d row (j + 1) (row_up_to d row state j)
unfolding row_up_to
row_next d row state j = rw (add-one j)

-- as many values as columns
place_as_many : (d row column : ℕ) (r : DrawnRow) → length r.values ≡ length r.columns
    → length (next_place d row column r).values ≡ length (next_place d row column r).columns
unfolding asked entered
place_as_many d row column r e =
    by_place d row column r (λ (q : DrawnRow). length q.values ≡ length q.columns)
    (λ _. omega (arith, e, length-append r.columns (column ∷ []), length-append r.values (drawn_value (drawn (asked_state row column r.state)) ∷ [])))
    (λ _. e)

pub row_as_many : (d row state j : ℕ) → length (row_up_to d row state j).values ≡ length (row_up_to d row state j).columns
unfolding row_up_to
row_as_many d row state zero = refl
row_as_many d row state (suc j) = place_as_many d row (suc j) (row_up_to d row state j) (row_as_many d row state j)

-- no fewer columns than before
place_grows : (d row column : ℕ) (r : DrawnRow) → length r.columns ≤ length (next_place d row column r).columns
unfolding asked entered
place_grows d row column r =
    by_place d row column r (λ (q : DrawnRow). length r.columns ≤ length q.columns)
    (λ _. omega (arith, length-append r.columns (column ∷ [])))
    (λ _. omega arith)

-- a number of steps that never falls from one to the next does not fall at all
never_falls : (f : ℕ → ℕ) → ((k : ℕ) → f k ≤ f (suc k)) → (i m : ℕ) → i ≤ m → f i ≤ f m
never_falls f step i zero h = let e : i ≡ 0 = omega arith in rw e (omega arith)
never_falls f step i (suc m) h =
    by_test (leb i m)
    (λ e. let before = never_falls f step i m (leb-true i m e) in omega (arith, before, step m))
    (λ e. let same : i ≡ suc m = omega (arith, leb-false i m e) in rw same (omega arith))

pub row_grows : (d row state j n : ℕ) → j ≤ n → length (row_up_to d row state j).columns ≤ length (row_up_to d row state n).columns
unfolding row_up_to
row_grows d row state j n h = never_falls (λ (k : ℕ). length (row_up_to d row state k).columns) (λ k. place_grows d row (suc k) (row_up_to d row state k)) j n h

-- ---- a load

pub rows_next : (seed n d i : ℕ) → rows_up_to seed n d (i + 1) ≡ next_row n d (i + 1) (rows_up_to seed n d i)
unfolding rows_up_to
rows_next seed n d i = rw (add-one i)

row_adds : (r : DrawnRow) (l : Load) → length l.columns ≤ length (with_row r l).columns
unfolding with_row
row_adds r l = omega (arith, length-append l.columns r.columns)

pub load_grows : (seed n d i m : ℕ) → i ≤ m → length (rows_up_to seed n d i).columns ≤ length (rows_up_to seed n d m).columns
unfolding rows_up_to next_row
load_grows seed n d i m h =
    never_falls (λ (k : ℕ). length (rows_up_to seed n d k).columns)
    (λ k. row_adds (row_up_to d (suc k) (rows_up_to seed n d k).state n) (rows_up_to seed n d k)) i m h

module _ (seed n d : ℕ) where
  abbrev pub so_far : ℕ → Load
  so_far i = rows_up_to seed n d i

  abbrev pub row_after : ℕ → DrawnRow
  row_after i = row_up_to d (suc i) (so_far i).state n

  pub load_as_many : (i : ℕ) → length (so_far i).values ≡ length (so_far i).columns
  unfolding rows_up_to next_row with_row
  load_as_many zero = refl
  load_as_many (suc i) =
      omega (
        arith,
        load_as_many i,
        row_as_many d (suc i) (so_far i).state n,
        length-append (so_far i).values (row_after i).values,
        length-append (so_far i).columns (row_after i).columns,
      )

  pub right_many : (i : ℕ) → length (so_far i).right ≡ i
  unfolding rows_up_to next_row with_row
  right_many zero = refl
  right_many (suc i) = omega (arith, right_many i, length-append (so_far i).right (drawn_value (drawn (row_after i).state) ∷ []))

  pub starts-many : (i : ℕ) → length (so_far i).starts ≡ i + 1
  unfolding rows_up_to next_row with_row
  starts-many zero = refl
  starts-many (suc i) =
      omega (arith, starts-many i, length-append (so_far i).starts (length ((so_far i).columns ++ (row_after i).columns) ∷ []))
