-- What a step does beside the two sides: the multipliers, the right side and the diagonal.
use Rattle.std.specs.Prelude.{true, false, cond, List, map, ◌≡◌, ℕ, suc, ◌*◌, ◌≤◌, ◌<◌, Float}
use Rattle.lists.specs.Functions.{all}
use Rattle.lists.specs.Sets.{member, upto, Ascending}
use Rattle.foundation.specs.Numbers.{is_zero, finite, quotient}
use Rattle.foundation.specs.Reference.{multiplier, eliminated, eliminated_right}
use Rattle.foundation.specs.Shown.{shown_diagonal}
use Rattle.foundation.specs.Square.{Square}
use Rattle.run_slots.specs.Flags.{flagged, nonzeros, with_diagonal}

-- Document 01, "Elimination": "m = entry / pivot replaces it; a zero entry stays."
unfoldable pub over_pivot : Float → Float → Float
over_pivot pivot v = cond (is_zero v) v (quotient v pivot)

-- numbers by row, those of some rows written anew
unfoldable pub rewritten : List ℕ → (ℕ → Float) → (ℕ → Float) → ℕ → Float
rewritten rows new old i = cond (member i rows) (new i) (old i)

-- A store of n places, for the rows 1 to n (all rows of the right side; of the diagonal those that have one), in which those of some rows are written anew; the flag tells whether they are finite.
pub record Rewritten (old new : ℕ → Float) (rows : List ℕ) (n flag : ℕ) (store : List Float) (r : ℕ) : Type 0 where
  pub is : store ≡ map (rewritten rows new old) (upto n)
  pub flags : r ≡ flagged flag (all (λ i. finite (new i)) rows)

-- Step k's column below the pivot, its row, the diagonal and the right side are those of a square of n columns and `height` rows; rows that are
-- not listed have a zero in column k.
pub record ColumnAsks (part : List Float) (rows columns : List ℕ) (row d x : List Float) (k : ℕ) : Type 0 where
  pub n : ℕ
  pub height : ℕ
  pub square : Square Float
  pub right : ℕ → Float
  pub low : 1 ≤ k
  pub high : k ≤ n
  pub few : n ≤ 1024
  pub tall : n ≤ height
  pub rows_few : height ≤ 2048
  pub rows_ascend : Ascending (suc k) rows
  pub rows-bounded : (i : ℕ) → member i rows ≡ true → i ≤ height
  pub columns_ascend : Ascending (suc k) columns
  pub columns-bounded : (j : ℕ) → member j columns ≡ true → j ≤ n
  pub within : (i : ℕ) → member i rows ≡ true → i ≤ n → member i columns ≡ true
  pub part_is : part ≡ map (λ i. square i k) rows
  pub row_is : row ≡ map (λ j. square k j) columns
  pub diagonal : d ≡ shown_diagonal n square
  pub rights : x ≡ map right (upto height)
  pub others : (i : ℕ) → k < i → member i rows ≡ false → is_zero (square i k) ≡ true

-- The multipliers, the diagonal and the right side after the step; what is finite, and the step's updates.
pub record ColumnLeaves (part : List Float) (rows columns : List ℕ) (row d x : List Float) (k : ℕ) (part' d' x' : List Float) (flag updates : ℕ)
    (w : ColumnAsks part rows columns row d x k) : Type 0 where
  pub part_is : part' ≡ map (multiplier k w.square) rows
  pub diagonal : d' ≡ shown_diagonal w.n (eliminated k w.square)
  pub rights : x' ≡ map (eliminated_right k (multiplier k w.square) w.right) (upto w.height)
  pub flags : flag ≡ flagged (flagged (flagged 0 (all finite (map (multiplier k w.square) rows)))
      (all (λ i. finite (eliminated_right k (multiplier k w.square) w.right i)) rows)) (all (λ i. finite (eliminated k w.square i i)) (with_diagonal w.n rows))
  pub counts : updates ≡ nonzeros (map (multiplier k w.square) rows) * nonzeros (map (λ j. w.square k j) columns)
  pub few : updates ≤ 2097152
