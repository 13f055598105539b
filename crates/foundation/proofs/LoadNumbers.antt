-- Which draw decides each place of a load, and gives each value and each right side.
use mathlib.Core.Bool.{true, cond}
use mathlib.Core.List.{List}
use mathlib.Core.Path.{◌≡◌, sym, ap, ◌∙◌}
use Prim.Native.Nat.{ℕ, zero, suc, ◌+◌, ◌*◌, ◌%◌, ◌^◌, ◌<◌}
use native.Mathlib.Omega.{arith}
use lib.Dec.{eqb, ltb, leb}
use lib.ListN.{length, get_or}
use borrow.Author.Tests.{ne_eqb, eqb-true, eqb-false, lt-ltb, le-ltb, leb-true, leb-false}
use Rattle.lists.specs.Sets.{member}
use Rattle.lists.proofs.Members.{by_test}
use Rattle.lists.proofs.Small.{less_one}
use Rattle.foundation.specs.Pattern.{Lent, lent, lent_square, row_of}
use Rattle.foundation.specs.Numbers.{plus_zero}
use Rattle.foundation.specs.Draw.{mixed, drawn, drawn_value}
use Rattle.foundation.specs.Load.{present_by, asked_state, with_row, next_row, rows_up_to, load_of}
use Rattle.foundation.specs.Claims.Loads.{pattern_left, draw_number, entries_before, draws_before, PlacesDrawn, ValuesDrawn, RightSidesDrawn}
use Rattle.foundation.proofs.LoadRows.{so_far, row_after, row_as_many, row_grows, load_grows}
use Rattle.foundation.proofs.LoadPlaces.{before, before_next, starts_at, values_at, right_at_lem, placed, row_front, row_member, longer, row_value}
use Rattle.foundation.proofs.LoadPattern.{row_is}
use Rattle.foundation.proofs.LoadDraws.{after, steps_on, asked_on, asked_off, RowDraws, row_draws, load-draws}
use Rattle.foundation.proofs.LoadAnswers.{granted-load}
use Rattle.foundation.proofs.Loads.{starts_stand, right_stand, columns-front, value_at_lem}

-- what is drawn after so many draws
drawn-after : (seed draws state : ℕ) → state ≡ after seed draws → drawn state ≡ draw_number seed (draws + 1)
unfolding drawn draw_number
drawn-after seed draws state e = ap mixed (steps_on seed draws e)

-- before the next column, or up to this one
next_test : (a b : ℕ) → ltb a (suc b) ≡ leb a b
next_test a b = by_test (leb a b) (λ e. lt-ltb a (suc b) (omega (arith, leb-true a b e)) ∙ sym e) (λ e. le-ltb a (suc b) (omega (arith, leb-false a b e)) ∙ sym e)

module _ (seed n d k l : ℕ) (small : seed < 2 ^ 32) (row_in : k < n) (column_in : l < n) where
  -- the pattern, the state before row k + 1, and the row before column l + 1
  abbrev pattern : Lent
  pattern = lent_square n (so_far seed n d n).starts (so_far seed n d n).columns

  abbrev first : ℕ
  first = (so_far seed n d k).state

  count_before : entries_before pattern (suc k) (suc l) ≡ before seed n d k + length (placed d (suc k) first l).columns
  unfolding entries_before lent
  count_before =
      rw (less_one k, starts_at seed n d n k (omega arith), row_is seed n d k row_in) (ap (λ (xs : List ℕ). before seed n d k + length xs) (row_front d (suc k) first l n (omega arith)))

  reached : RowDraws seed (suc k) (k * n + before seed n d k) l (placed d (suc k) first l)
  reached = row_draws seed d (suc k) (k * n + before seed n d k) first l (omega arith) (load-draws seed n d k small (omega arith))

  draws-before : draws_before pattern (suc k) (suc l) ≡ reached.draws
  unfolding draws_before lent
  draws-before =
      let made = reached.as_many in
      let is = count_before in
      rw (less_one k, less_one l, next_test (suc k) l) (omega (arith, made, is))

  state_is : (placed d (suc k) first l).state ≡ after seed (draws_before pattern (suc k) (suc l))
  state_is = reached.state_is ∙ ap (after seed) (sym draws-before)

  place_drawn : (suc k ≡ suc l → ⊥) → member (suc l) (row_of pattern (suc k)) ≡ eqb (draw_number seed (draws_before pattern (suc k) (suc l) + 1) % d) 0
  unfolding present_by
  place_drawn off =
      ap (member (suc l)) (row_is seed n d k row_in) ∙ row_member d (suc k) first l n column_in
      ∙ rw (ne_eqb (suc k) (suc l) off) (ap (λ (z : ℕ). eqb (z % d) 0) (drawn-after seed _ _ state_is))

  -- the draw that gives the value of a present place
  asked_draw : drawn (asked_state (suc k) (suc l) (placed d (suc k) first l).state) ≡ draw_number seed (draws_before pattern (suc k) (suc l) + cond (eqb (suc k) (suc l)) 1 2)
  asked_draw =
      let draws = draws_before pattern (suc k) (suc l) in
      let state = (placed d (suc k) first l).state in
      by_test (eqb (suc k) (suc l))
      (λ e. rw e (drawn-after seed draws _ (asked_on (suc k) (suc l) state (eqb-true (suc k) (suc l) e) ∙ state_is)))
      (λ e. let two : draws + 1 + 1 ≡ draws + 2 = omega arith in
      rw e (drawn-after seed (draws + 1) _ (asked_off (suc k) (suc l) state (eqb-false (suc k) (suc l) e) ∙ steps_on seed draws state_is) ∙ ap (draw_number seed) two))

  module _ (is : member (suc l) (row_of pattern (suc k)) ≡ true) where
    present : present_by d (suc k) (suc l) (placed d (suc k) first l).state ≡ true
    present = sym (row_member d (suc k) first l n column_in) ∙ sym (ap (member (suc l)) (row_is seed n d k row_in)) ∙ is

    -- its value stands in its row
    in_row : length (placed d (suc k) first l).columns < length (row_after seed n d k).columns
    in_row = omega (arith, longer d (suc k) first l present, row_grows d (suc k) first (suc l) n column_in)

    in_load : entries_before pattern (suc k) (suc l) < length (so_far seed n d n).columns
    in_load = omega (arith, count_before, in_row, before_next seed n d k, load_grows seed n d (suc k) n row_in)

    value-drawn : get_or (so_far seed n d n).values (entries_before pattern (suc k) (suc l)) plus_zero
        ≡ drawn_value (draw_number seed (draws_before pattern (suc k) (suc l) + cond (eqb (suc k) (suc l)) 1 2))
    value-drawn =
        ap (λ (m : ℕ). get_or (so_far seed n d n).values m plus_zero) count_before
        ∙ values_at seed n d n k _ row_in (omega (arith, in_row, row_as_many d (suc k) first n))
        ∙ row_value d (suc k) first l n column_in present ∙ ap drawn_value asked_draw

right_drawn : (seed n d k : ℕ) → seed < 2 ^ 32 → k < n
    → get_or (so_far seed n d n).right k plus_zero ≡ drawn_value (draw_number seed (suc k * n + get_or (so_far seed n d n).starts (suc k) 0))
unfolding rows_up_to next_row with_row drawn draw_number
right_drawn seed n d k small h =
    right_at_lem seed n d n k h
    ∙ ap (λ (z : ℕ). drawn_value (mixed z)) (load-draws seed n d (suc k) small h)
    ∙ ap (λ (m : ℕ). drawn_value (mixed (after seed (suc k * n + m)))) (sym (starts_at seed n d n (suc k) h))

-- ---- the claims, of what the call leaves

pub places-drawn : PlacesDrawn
unfolding PlacesDrawn pattern_left load_of
places-drawn seed n d w count zero j e small (low, high, left, right) off = absurd (omega arith)
places-drawn seed n d w count (suc k) zero e small (low, high, left, right) off = absurd (omega arith)
places-drawn seed n d w count (suc k) (suc l) e small (low, high, left, right) off =
    let g = granted-load seed n d w count e in
    rw (starts_stand g, columns-front g) (place_drawn seed n d k l small high right off)

pub values-drawn : ValuesDrawn
unfolding ValuesDrawn pattern_left load_of
values-drawn seed n d w count zero j e small (low, high, left, right) is = absurd (omega arith)
values-drawn seed n d w count (suc k) zero e small (low, high, left, right) is = absurd (omega arith)
values-drawn seed n d w count (suc k) (suc l) e small (low, high, left, right) is =
    let g = granted-load seed n d w count e in
    let there = rw (starts_stand g, columns-front g) at is in
    rw (starts_stand g, columns-front g)
    (value_at_lem g _ (omega (arith, in_load seed n d k l small high right there, g.count_is)) ∙ value-drawn seed n d k l small high right there)

pub right_sides_drawn : RightSidesDrawn
unfolding RightSidesDrawn load_of
right_sides_drawn seed n d w count zero e (low, high) small = absurd (omega arith)
right_sides_drawn seed n d w count (suc k) e (low, high) small =
    let g = granted-load seed n d w count e in
    rw (starts_stand g, right_stand g, less_one k) (right_drawn seed n d k small high)
