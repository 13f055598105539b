-- A row of back substitution over a kept list is the reference's over all columns, and is sound exactly where its solution is finite.
use mathlib.Core.Bool.{Bool, true, false, not, ◌&&◌, true≢false, beq}
use mathlib.Core.List.{List, [], ◌∷◌, map}
use mathlib.Core.Path.{◌≡◌, refl, sym, ap, ◌∙◌}
use Prim.Native.Nat.{ℕ, suc, ◌+◌, ◌-◌, ◌≤◌, ◌<◌}
use native.Mathlib.Numerals.{add-one}
use native.Mathlib.Omega.{arith}
use lib.Ieee.{Float, nan, inf, fin, binary64, sub, add, neg, div}
use lib.ListN.{length, drop, get_or, drop_of_length-le}
use lib.Seq.{drop-cons}
use Rattle.run_slots.specs.Products.{less_product}
use Rattle.lists.specs.Functions.{keep}
use Rattle.lists.specs.Sets.{member, upto, run, Ascending, between}
use Rattle.lists.proofs.Members.{by_test, member_head, member_tail, between-low}
use Rattle.lists.proofs.Order.{member-low}
use Rattle.lists.proofs.Places.{get_or-map_run}
use Rattle.foundation.specs.Numbers.{is_zero, finite, product, difference, quotient}
use Rattle.foundation.specs.Reference.{Checked, substituted, solved_row}
use Rattle.foundation.specs.Square.{Square}
use Rattle.run_slots.proofs.Floats.{difference-finite}
use Rattle.run_slots.proofs.Sound.{between-members}
use Rattle.run_solve.specs.Rows.{less_all}

-- ---- what is not finite stays so

first_finite : (a b : Float) → finite a ≡ false → finite (difference a b) ≡ false
unfolding finite difference sub add neg
first_finite nan b e = refl
first_finite (inf s) nan e = refl
first_finite (inf s) (inf t) e = by_test (beq s (not t)) (λ q. rw q) (λ q. rw q)
first_finite (inf s) (fin t n d) e = refl
first_finite (fin s m x) b e = absurd (true≢false e)

quotient-finite : (a b : Float) → finite b ≡ true → finite a ≡ false → finite (quotient a b) ≡ false
unfolding finite quotient div
quotient-finite nan b h e = refl
quotient-finite (inf s) nan h e = refl
quotient-finite (inf s) (inf t) h e = refl
quotient-finite (inf s) (fin t n d) h e = refl
quotient-finite (fin s m x) b h e = absurd (true≢false e)

one-zero : (u x value : Float) → is_zero u ≡ true → less_product u x value ≡ value
unfolding less_product
one-zero u x value z = rw z

-- ---- the reference's row

module _ (row solution : ℕ → Float) where
  -- columns that are zero may be left out
  skips : (t : ℕ → Bool) (xs : List ℕ) (c : Checked) → ((x : ℕ) → member x xs ≡ true → t x ≡ false → is_zero (row x) ≡ true)
      → substituted row solution c xs ≡ substituted row solution c (keep t xs)
  unfolding substituted keep
  skips t [] c none = refl
  skips t (x ∷ xs) c none =
      by_test (t x)
      (λ e. rw e (skips t xs _ (λ z m. none z (member_tail z x xs m))))
      (λ e. rw (e, none x (member_head x xs) e) (skips t xs c (λ z m. none z (member_tail z x xs m))))

  -- the row's kept columns in place of all
  sparse : (c : Checked) (a b : ℕ) (xs : List ℕ) → Ascending a xs → ((x : ℕ) → member x xs ≡ true → x ≤ b)
      → ((x : ℕ) → a ≤ x → member x xs ≡ false → is_zero (row x) ≡ true) → substituted row solution c (between a b) ≡ substituted row solution c xs
  sparse c a b xs h under none =
      skips (λ x. member x xs) (between a b) c (λ x m e. none x (between-low x a b m) e)
      ∙ ap (substituted row solution c) (between-members a b xs h under)

  -- the number and its soundness after one column that is not zero
  unfoldable less : Checked → ℕ → Checked
  less c j =
      let taken = product (row j) (solution j) in
      record { value = difference c.value taken; sound = c.sound && (finite taken && finite (difference c.value taken)) }

  passed : (c : Checked) (j : ℕ) (js : List ℕ) → is_zero (row j) ≡ true → substituted row solution c (j ∷ js) ≡ substituted row solution c js
  unfolding substituted
  passed c j js z = rw z

  taken : (c : Checked) (j : ℕ) (js : List ℕ) → is_zero (row j) ≡ false → substituted row solution c (j ∷ js) ≡ substituted row solution (less c j) js
  unfolding substituted less
  taken c j js z = rw z

  -- a number that is not finite stays so
  stays : (c : Checked) (js : List ℕ) → finite c.value ≡ false → finite (substituted row solution c js).value ≡ false
  unfolding substituted less
  stays c [] e = e
  stays c (j ∷ js) e =
      by_test (is_zero (row j))
      (λ z. rw (passed c j js z) (stays c js e))
      (λ z. rw (taken c j js z) (stays (less c j) js (first_finite c.value (product (row j) (solution j)) e)))

  less_sound : (c : Checked) (j : ℕ) → c.sound ≡ true → finite (less c j).value ≡ true → (less c j).sound ≡ true
  unfolding less
  less_sound c j s e =
      let t = product (row j) (solution j) in
      by_test (finite t) (λ f. rw (s, f, e)) (λ f. absurd (true≢false (sym e ∙ difference-finite c.value t f)))

  -- a row whose number comes out finite was finite all the way
  through : (c : Checked) (js : List ℕ) → c.sound ≡ true → finite (substituted row solution c js).value ≡ true
      → (substituted row solution c js).sound ≡ true
  unfolding substituted
  through c [] s e = s
  through c (j ∷ js) s e =
      by_test (is_zero (row j))
      (λ z. rw (passed c j js z) (through c js s (rw (passed c j js z) at e)))
      (λ z. rw (taken c j js z) (through (less c j) js
      (by_test (finite (less c j).value) (λ f. less_sound c j s f) (λ f. absurd (true≢false (sym (rw (taken c j js z) at e) ∙ stays (less c j) js f))))
      (rw (taken c j js z) at e)))

  -- ---- over the slots

  one-taken : (c : Checked) (j : ℕ) → is_zero (row j) ≡ false → less_product (row j) (solution j) c.value ≡ (less c j).value
  unfolding less_product less
  one-taken c j z = rw z

  next_all : (u : Float) (j : ℕ) (us : List Float) (js : List ℕ) (n : ℕ) (value : Float) → 1 ≤ j → j ≤ n
      → less_all (u ∷ us) (j ∷ js) (map solution (upto n)) value ≡ less_all us js (map solution (upto n)) (less_product u (solution j) value)
  unfolding less_all upto
  next_all u j us js n value low high =
      let at : 1 + (j - 1) ≡ j = omega arith in
      let read : get_or (map solution (run 1 n)) (j - 1) nan ≡ solution j = get_or-map_run solution 1 n (j - 1) nan (omega arith) ∙ rw at in
      ap (λ (x : Float). less_all us js (map solution (run 1 n)) (less_product u x value)) read

  -- a row's slots and subscripts read as the reference's row does
  less_all_lem : (n : ℕ) (js : List ℕ) (c : Checked) → ((j : ℕ) → member j js ≡ true → (1 ≤ j) × (j ≤ n))
      → less_all (map row js) js (map solution (upto n)) c.value ≡ (substituted row solution c js).value
  unfolding less_all substituted
  less_all_lem n [] c inside = refl
  less_all_lem n (j ∷ js) c inside =
      let b = inside j (member_head j js) in
      let rest : (z : ℕ) → member z js ≡ true → (1 ≤ z) × (z ≤ n) = λ z m. inside z (member_tail z j js m) in
      let first = next_all (row j) j (map row js) js n c.value b.0 b.1 in
      by_test (is_zero (row j))
      (λ z. rw (passed c j js z) (first ∙ rw (one-zero (row j) (solution j) c.value z) (less_all_lem n js c rest)))
      (λ z. rw (taken c j js z) (first ∙ rw (one-taken c j z) (less_all_lem n js (less c j) rest)))

-- ---- a row solved

-- a row is sound exactly where its solution is finite
pub solved-sound : (n : ℕ) (square : Square Float) (solution : ℕ → Float) (i : ℕ) → finite (square i i) ≡ true
    → (solved_row n square solution i).sound ≡ finite (solved_row n square solution i).value
unfolding solved_row
solved-sound n square solution i own =
    let c = substituted (square i) solution (record { value = solution i; sound = true }) (between (suc i) n) in
    let x = quotient c.value (square i i) in
    by_test (finite x)
    (λ e. rw (
      e,
      through (square i) solution (record { value = solution i; sound = true }) (between (suc i) n) refl
          (by_test (finite c.value) (λ f. f) (λ f. absurd (true≢false (sym e ∙ quotient-finite c.value (square i i) own f)))),
    ))
    (λ e. rw e (by_test c.sound (λ f. rw f) (λ f. rw f)))

-- a row over its kept columns is the reference's
pub solved-value : (n : ℕ) (square : Square Float) (solution : ℕ → Float) (i : ℕ) (js : List ℕ) → Ascending (suc i) js → ((j : ℕ) → member j js ≡ true → j ≤ n)
    → ((j : ℕ) → suc i ≤ j → member j js ≡ false → is_zero (square i j) ≡ true)
    → quotient (less_all (map (square i) js) js (map solution (upto n)) (solution i)) (square i i) ≡ (solved_row n square solution i).value
unfolding solved_row
solved-value n square solution i js asc under none =
    let c : Checked = record { value = solution i; sound = true } in
    rw (sparse (square i) solution c (suc i) n js asc under none, less_all_lem (square i) solution n js c (λ j m. (omega (arith, member-low j (suc i) js asc m), under j m)))

-- ---- the loop over a row's columns

-- one column: what is still to come
pub less_turn : (us : List Float) (js : List ℕ) (solution : List Float) (own value next : Float) (q : ℕ) → length us ≡ length js → q < length us
    → less_all (drop q us) (drop q js) solution value ≡ less_all us js solution own
    → next ≡ less_product (get_or us q nan) (get_or solution (get_or js q 0 - 1) nan) value
    → less_all (drop (q + 1) us) (drop (q + 1) js) solution next ≡ less_all us js solution own
unfolding less_all
less_turn us js solution own value next q e l so n =
    let m : q < length js = omega arith in
    rw (add-one q, n) (rw (drop-cons us q nan l, drop-cons js q 0 m) at so)

-- no column is left
pub less_end : (us : List Float) (js : List ℕ) (solution : List Float) (own value diagonal : Float) (q : ℕ) → length us ≤ q
    → less_all (drop q us) (drop q js) solution value ≡ less_all us js solution own → div binary64 value diagonal ≡ quotient (less_all us js solution own) diagonal
unfolding less_all quotient
less_end us js solution own value diagonal q l so = ap (λ (v : Float). div binary64 v diagonal) (rw (drop_of_length-le us l) at so)
