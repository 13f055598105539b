-- Laws of a step's column, right side and diagonal: what the loops leave is the reference's.
use mathlib.Core.Bool.{true, and-true, and-false}
use mathlib.Core.List.{List, map, map-map}
use mathlib.Core.Path.{◌≡◌, sym, ap, ◌∙◌}
use Prim.Native.Nat.{ℕ, suc, ◌-◌, ◌*◌, ◌≤◌, ◌<◌}
use native.Mathlib.Decide.{dec_lt}
use native.Mathlib.Nat.{mul-le-mul_left, mul-le-mul_right}
use native.Mathlib.Omega.{arith}
use lib.Dec.{leb, ltb}
use lib.Ieee.{Float, nan}
use lib.ListN.{length, get_or, length-map}
use Rattle.run_slots.specs.Products.{less_product}
use borrow.Author.Tests.{le-leb, lt-ltb, le-ltb}
use Rattle.lists.specs.Functions.{all}
use Rattle.lists.specs.Sets.{member, upto, Ascending}
use Rattle.lists.proofs.Members.{by_test, all_cong, kept_in, member-keep, upto-high}
use Rattle.lists.proofs.Order.{member-low, ascending_weaken, ascending-length}
use Rattle.lists.proofs.Places.{length-map-upto, map-upto_at}
use Rattle.foundation.specs.Numbers.{is_zero, finite}
use Rattle.foundation.specs.Reference.{multiplier, reduced, eliminated, eliminated_right}
use Rattle.foundation.specs.Shown.{shown_diagonal}
use Rattle.foundation.proofs.FloatSteps.{multiplier-zero, eliminated-above, eliminated_right_lem, eliminated-zero}
use Rattle.run_slots.specs.Flags.{flagged, nonzeros, with_diagonal}
use Rattle.run_slots.proofs.Mapped.{map_cong}
use Rattle.run_stretch.specs.Stretches.{Below}
use Rattle.run_column.specs.Column.{over_pivot, rewritten, Rewritten, ColumnAsks, ColumnLeaves}

-- counts up to a and b make a product up to a times b
few-product : (a b c1 c2 : ℕ) → c1 ≤ a → c2 ≤ b → c1 * c2 ≤ a * b
few-product a b c1 c2 l r =
    let x : c1 * c2 ≤ c1 * b = mul-le-mul_left {m = c2} {n = b} c1 r in
    let y : c1 * b ≤ a * b = mul-le-mul_right {m = c1} {n = a} b l in
    omega arith

module _ (part : List Float) (rows columns : List ℕ) (row d x : List Float) (k : ℕ) (w : ColumnAsks part rows columns row d x k) where
  pub d_size : length d ≡ w.n
  unfolding shown_diagonal
  d_size = ap length w.diagonal ∙ length-map-upto (λ i. w.square i i) w.n

  pub x_size : length x ≡ w.height
  x_size = ap length w.rights ∙ length-map-upto w.right w.height

  pub pivot_inside : k - 1 < length d
  pivot_inside = let l = w.low in let h = w.high in omega (arith, d_size)

  row_size : length row ≡ length columns
  row_size = ap length w.row_is ∙ length-map columns (λ j. w.square k j)

  part_size : length part ≡ length rows
  part_size = ap length w.part_is ∙ length-map rows (λ i. w.square i k)

  rows_below : Below (suc (length x)) rows
  unfolding Below
  rows_below i m = omega (arith, w.rows-bounded i m, x_size)

  rows-from : Ascending 1 rows
  rows-from = ascending_weaken 1 (suc k) rows (omega arith) w.rows_ascend

  above : (i : ℕ) → member i rows ≡ true → k < i
  above i m = member-low i (suc k) rows w.rows_ascend m

  few_of : (last : ℕ) (xs : List ℕ) → k ≤ last → Ascending (suc k) xs → ((y : ℕ) → member y xs ≡ true → y ≤ last) → length xs ≤ last
  few_of last xs l asc bounded = omega (arith, ascending-length (suc k) (suc last) xs (omega arith) asc (λ y m. omega (arith, bounded y m)))

  part_few : length part ≤ 2048
  part_few = let h = w.high in let t = w.tall in omega (arith, part_size, few_of w.height rows (omega arith) w.rows_ascend w.rows-bounded, w.rows_few)

  row_few : length row ≤ 1024
  row_few = omega (arith, row_size, few_of w.n columns w.high w.columns_ascend w.columns-bounded, w.few)

  -- the entries over the pivot are the multipliers
  module _ (part' : List Float) (divided : part' ≡ map (over_pivot (get_or d (k - 1) nan)) part) where
    pub multipliers : part' ≡ map (multiplier k w.square) rows
    unfolding over_pivot multiplier shown_diagonal
    multipliers =
        let pivot : get_or d (k - 1) nan ≡ w.square k k
        = ap (λ (zs : List Float). get_or zs (k - 1) nan) w.diagonal ∙ map-upto_at (λ i. w.square i i) w.n k nan w.low w.high in
        divided ∙ rw (pivot, w.part_is) (map-map (over_pivot (w.square k k)) (λ i. w.square i k) rows)

    factors_size : length part' ≡ length rows
    factors_size = ap length multipliers ∙ length-map rows (multiplier k w.square)

    pub right_asks : (length part' ≡ length rows) × (1 ≤ k) × (k ≤ length x) × Ascending 1 rows × Below (suc (length x)) rows
    right_asks = let l = w.low in let h = w.high in let t = w.tall in (factors_size, l, omega (arith, x_size), rows-from, rows_below)

    pub diagonal-asks : (length part' ≡ length rows) × (length row ≡ length columns) × Ascending 1 rows × Ascending 0 columns
        × ((i : ℕ) → member i rows ≡ true → i ≤ length d → member i columns ≡ true)
    diagonal-asks =
        (factors_size, row_size, rows-from, ascending_weaken 0 (suc k) columns (omega arith) w.columns_ascend, rw d_size w.within)

  -- a row's right side
  right_at_lem : (i : ℕ) → rewritten rows (λ i. less_product (multiplier k w.square i) (w.right k) (w.right i)) w.right i ≡ eliminated_right k (multiplier k w.square) w.right i
  unfolding rewritten less_product eliminated_right
  right_at_lem i = by_test (member i rows)
      (λ m. rw (m, lt-ltb k i (above i m)) (by_test (is_zero (multiplier k w.square i)) (λ z. rw z) (λ z. rw z)))
      (λ m. rw m (elim (dec_lt k i) [
        | yes l ↦ let z = w.others i l m in rw (ap is_zero (multiplier-zero k w.square i z) ∙ z, and-false (ltb k i))
        | no l ↦ rw (le-ltb k i (omega arith))
      ]))

  right_in : (i : ℕ) → member i rows ≡ true → less_product (multiplier k w.square i) (w.right k) (w.right i) ≡ eliminated_right k (multiplier k w.square) w.right i
  unfolding rewritten
  right_in i m = sym (rw m) ∙ right_at_lem i

  -- the rows with a place on the diagonal are rows, and all up to n
  diagonal_row : (i : ℕ) → member i (with_diagonal w.n rows) ≡ true → member i rows ≡ true
  unfolding with_diagonal
  diagonal_row i m = kept_in i (λ j. leb j w.n) rows m

  diagonal-rows : (i : ℕ) → i ≤ w.n → member i (with_diagonal w.n rows) ≡ member i rows
  unfolding with_diagonal
  diagonal-rows i u = member-keep i (λ j. leb j w.n) rows ∙ rw (le-leb i w.n u, and-true (member i rows))

  -- a row's place there
  diagonal_in : (i : ℕ) → member i rows ≡ true → reduced (multiplier k w.square i) (w.square k i) (w.square i i) ≡ eliminated k w.square i i
  diagonal_in i m = sym (eliminated_right_lem k w.square i i (above i m) (above i m))

  diagonal_at : (i : ℕ) → i ≤ w.n → rewritten (with_diagonal w.n rows) (λ i. reduced (multiplier k w.square i) (w.square k i) (w.square i i)) (λ i. w.square i i) i ≡ eliminated k w.square i i
  unfolding rewritten
  diagonal_at i u = by_test (member i rows)
      (λ m. rw (diagonal-rows i u, m) (diagonal_in i m))
      (λ m. rw (diagonal-rows i u, m) (elim (dec_lt k i) [
        | yes l ↦ sym (eliminated-zero k w.square i i (w.others i l m))
        | no l ↦ sym (eliminated-above k w.square i i (omega arith))
      ]))

  -- the product fits
  pub product-fits : (c1 c2 : ℕ) → c1 ≤ length part → c2 ≤ length row → c1 * c2 ≤ 2097152
  product-fits c1 c2 l r = few-product 2048 1024 c1 c2 (omega (arith, part_few)) (omega (arith, row_few))

  -- and so does one count times itself
  pub square-fits : (c1 : ℕ) → c1 ≤ length part → c1 * c1 ≤ 4194304
  square-fits c1 l = few-product 2048 2048 c1 c1 (omega (arith, part_few)) (omega (arith, part_few))

  -- all four loops together
  pub column_leaves : (part' d' x' : List Float) (f1 c1 f2 f3 c2 : ℕ)
      → (part' ≡ map (over_pivot (get_or d (k - 1) nan)) part) × (f1 ≡ flagged 0 (all finite part')) × (c1 ≡ nonzeros part') × (c1 ≤ length part)
      → ((f m : ℕ → Float) → x ≡ map f (upto (length x)) → part' ≡ map m rows → Rewritten f (λ i. less_product (m i) (f k) (f i)) rows (length x) f1 x' f2)
      → ((f m u : ℕ → Float) → d ≡ map f (upto (length d)) → part' ≡ map m rows → row ≡ map u columns → Rewritten f (λ i. reduced (m i) (u i) (f i)) (with_diagonal (length d) rows) (length d) f2 d' f3)
      → (c2 ≡ nonzeros row) × (c2 ≤ length row)
      → ColumnLeaves part rows columns row d x k part' d' x' f3 (c1 * c2) w
  unfolding shown_diagonal
  column_leaves part' d' x' f1 c1 f2 f3 c2 (e1, e2, e3, e4) rights diagonals (e5, e6) =
      let m = multipliers part' e1 in
      let r = rights w.right (multiplier k w.square) (rw x_size w.rights) m in
      let g = diagonals (λ i. w.square i i) (multiplier k w.square) (λ j. w.square k j) (rw d_size w.diagonal) m w.row_is in
      record {
        part_is = m;
        diagonal = g.is ∙ rw d_size (map_cong _ _ (upto w.n) (λ i q. diagonal_at i (upto-high i w.n q)));
        rights = r.is ∙ rw x_size (map_cong _ _ (upto w.height) (λ i q. right_at_lem i));
        flags = g.flags ∙ rw (
          d_size,
          r.flags,
          e2,
          m,
          all_cong (λ i. finite (less_product (multiplier k w.square i) (w.right k) (w.right i))) (λ i. finite (eliminated_right k (multiplier k w.square) w.right i)) rows (λ i q. ap finite (right_in i q)),
          all_cong (λ i. finite (reduced (multiplier k w.square i) (w.square k i) (w.square i i))) (λ i. finite (eliminated k w.square i i)) (with_diagonal w.n rows) (λ i q. ap finite (diagonal_in i (diagonal_row i q))),
        );
        counts = rw (e3, e5, m, w.row_is);
        few = product-fits c1 c2 e4 e6;
      }
