-- Refusals 10, 11 and 12 as loops and tests find them.
use mathlib.Core.Bool.{Bool, true, false, ◌&&◌}
use mathlib.Core.List.{List}
use mathlib.Core.Path.{◌≡◌, sym, ◌∙◌}
use Prim.Native.Nat.{ℕ, suc, ◌+◌, ◌≤◌, ◌<◌}
use native.Mathlib.Numerals.{add-one}
use lib.Dec.{eqb, leb}
use lib.Ieee.{Float, nan, fin, binary64, sub, ne}
use lib.IntN.{pos}
use lib.ListN.{length, drop, get_or, drop_of_length-le}
use lib.Seq.{drop-cons}
use borrow.Author.Tests.{eq-eqb, ne_eqb, le-leb, lt-leb, not-true, not-false}
use Rattle.lists.specs.Functions.{all}
use Rattle.foundation.specs.Numbers.{finite}
use Rattle.foundation.specs.Pattern.{Lent}
use Rattle.foundation.specs.Plan.{Planning}
use Rattle.foundation.specs.RunCall.{Lending, lending_fits, rows_in_range}
use Rattle.run_slots.proofs.Floats.{self_difference}
use Rattle.run_judge.specs.Sizes.{Sizes}

-- ---- 10

module _ (n height entries values right solution pivots diagonal lower_places upper_places lower_slots upper_slots : ℕ) where
  -- an answer that is the definition's, whatever is lent with these sizes
  abbrev pub Fits : Bool → Type 0
  Fits answer =
      (p : Lent) (s : Planning) (w : Lending) → Sizes p s w n height entries values right solution pivots diagonal lower_places upper_places lower_slots upper_slots
      → answer ≡ lending_fits p s w

  by-numbers : (p : Lent) (s : Planning) (w : Lending) → Sizes p s w n height entries values right solution pivots diagonal lower_places upper_places lower_slots upper_slots
      → lending_fits p s w
      ≡ eqb values entries && (eqb right height && (eqb solution height && (eqb pivots n && (eqb diagonal n && (leb lower_slots lower_places && leb upper_slots upper_places)))))
  unfolding lending_fits
  by-numbers p s w z =
      rw (z.lower_slots_lem, z.upper_slots_lem, z.width, z.tall_is, z.entries_are, z.values_are, z.right_are, z.solution_is, z.pivots_are, z.diagonal_is, z.lower_places_lem, z.upper_places_lem)

  pub not-values : (values ≡ entries → ⊥) → Fits false
  not-values f p s w z = sym (by-numbers p s w z ∙ rw (ne_eqb values entries f))

  module _ (a : values ≡ entries) where
    pub not_right : (right ≡ height → ⊥) → Fits false
    not_right f p s w z = sym (by-numbers p s w z ∙ rw (eq-eqb values entries a, ne_eqb right height f))

    module _ (b : right ≡ height) where
      pub not-solution : (solution ≡ height → ⊥) → Fits false
      not-solution f p s w z = sym (by-numbers p s w z ∙ rw (eq-eqb values entries a, eq-eqb right height b, ne_eqb solution height f))

      module _ (c : solution ≡ height) where
        pub not-pivots : (pivots ≡ n → ⊥) → Fits false
        not-pivots f p s w z = sym (by-numbers p s w z ∙ rw (eq-eqb values entries a, eq-eqb right height b, eq-eqb solution height c, ne_eqb pivots n f))

        module _ (d : pivots ≡ n) where
          pub not-diagonal : (diagonal ≡ n → ⊥) → Fits false
          not-diagonal f p s w z =
              sym (by-numbers p s w z ∙ rw (eq-eqb values entries a, eq-eqb right height b, eq-eqb solution height c, eq-eqb pivots n d, ne_eqb diagonal n f))

          module _ (e : diagonal ≡ n) where
            pub not_lower : lower_places < lower_slots → Fits false
            not_lower f p s w z =
                sym (by-numbers p s w z
                ∙ rw (eq-eqb values entries a, eq-eqb right height b, eq-eqb solution height c, eq-eqb pivots n d, eq-eqb diagonal n e, lt-leb lower_slots lower_places f))

            pub rests_on_upper : lower_slots ≤ lower_places → Fits (leb upper_slots upper_places)
            rests_on_upper f p s w z =
                sym (by-numbers p s w z
                ∙ rw (eq-eqb values entries a, eq-eqb right height b, eq-eqb solution height c, eq-eqb pivots n d, eq-eqb diagonal n e, le-leb lower_slots lower_places f))

-- ---- 11

module _ (values : List Float) (q : ℕ) (so : all finite (drop q values) ≡ all finite values) where
  ahead : q < length values → all finite values ≡ finite (get_or values q nan) && all finite (drop (suc q) values)
  unfolding all
  ahead l = sym so ∙ rw (drop-cons values q nan l)

  pub finite-turn : q < length values → ne (sub binary64 (get_or values q nan) (get_or values q nan)) (fin false 0 (pos 0)) ≡ false
      → all finite (drop (q + 1) values) ≡ all finite values
  unfolding ne
  finite-turn l t =
      let f : finite (get_or values q nan) ≡ true = sym (self_difference (get_or values q nan)) ∙ not-false _ t in
      rw (add-one q) (sym (ahead l ∙ rw f))

  pub finite-stop : q < length values → ne (sub binary64 (get_or values q nan) (get_or values q nan)) (fin false 0 (pos 0)) ≡ true → false ≡ all finite values
  unfolding ne
  finite-stop l t =
      let f : finite (get_or values q nan) ≡ false = sym (self_difference (get_or values q nan)) ∙ not-true _ t in
      sym (ahead l ∙ rw f)

  pub finite_end : length values ≤ q → true ≡ all finite values
  unfolding all
  finite_end l = rw (drop_of_length-le values l) at so

-- ---- 12

module _ (height : ℕ) (rows : List ℕ) (q : ℕ) (so : rows_in_range height (q + 1) (drop q rows) ≡ rows_in_range height 1 rows) where
  next_row_lem : q < length rows
      → rows_in_range height 1 rows ≡ (leb (q + 1) (get_or rows q 0) && leb (get_or rows q 0) height) && rows_in_range height (suc (q + 1)) (drop (suc q) rows)
  unfolding rows_in_range
  next_row_lem l = sym so ∙ rw (drop-cons rows q 0 l)

  pub row_low : q < length rows → get_or rows q 0 < q + 1 → false ≡ rows_in_range height 1 rows
  row_low l f = sym (next_row_lem l ∙ rw (lt-leb (q + 1) (get_or rows q 0) f))

  pub row_high : q < length rows → q + 1 ≤ get_or rows q 0 → height < get_or rows q 0 → false ≡ rows_in_range height 1 rows
  row_high l f g = sym (next_row_lem l ∙ rw (le-leb (q + 1) (get_or rows q 0) f, lt-leb (get_or rows q 0) height g))

  pub row_fits : q < length rows → q + 1 ≤ get_or rows q 0 → get_or rows q 0 ≤ height → rows_in_range height (q + 1 + 1) (drop (q + 1) rows) ≡ rows_in_range height 1 rows
  row_fits l f g =
      let e : rows_in_range height 1 rows ≡ rows_in_range height (suc (q + 1)) (drop (q + 1) rows) =
      next_row_lem l ∙ rw (le-leb (q + 1) (get_or rows q 0) f, le-leb (get_or rows q 0) height g, add-one q) in
      rw (add-one (q + 1)) (sym e)

  pub rows_end : length rows ≤ q → true ≡ rows_in_range height 1 rows
  unfolding rows_in_range
  rows_end l = rw (drop_of_length-le rows l) at so
