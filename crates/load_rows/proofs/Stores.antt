-- A load laid row by row: what the four stores hold of it so far, and that a load which passes them stays past them.
use mathlib.Core.List.{List, [], ◌∷◌, ◌++◌}
use mathlib.Core.Path.{◌≡◌, refl, sym, ap, subst, ◌∙◌}
use Prim.Native.Nat.{ℕ, ◌+◌, ◌-◌, ◌≤◌, ◌<◌}
use native.Mathlib.Numerals.{add-one}
use native.Mathlib.Omega.{arith}
use lib.Dec.{leb}
use lib.Ieee.{Float}
use lib.ListN.{length, set, replicate, length-append, length-set, length-replicate}
use borrow.Author.Tests.{leb-true, leb-false}
use Rattle.lists.specs.Functions.{padded}
use Rattle.lists.proofs.Members.{by_test}
use Rattle.lists.proofs.Places.{padded-nil, length-padded}
use Rattle.lists.proofs.Laying.{padded-set, sets-padded}
use Rattle.foundation.specs.Numbers.{plus_zero}
use Rattle.foundation.specs.Draw.{stepped, mixed, drawn, drawn_value}
use Rattle.foundation.specs.Load.{DrawnRow, row_up_to, Load, with_row, next_row, rows_up_to, load_of}
use Rattle.foundation.proofs.LoadRows.{row_as_many, rows_next, load_grows, load_as_many, right_many, starts-many}
use Rattle.load_rows.specs.Laid.{RowIn, RowLaid, LoadLaid, Blank}

-- the first i rows of a load of n rows are in the stores
pub record Holds (l : Load) (n i room : ℕ) (starts columns : List ℕ) (values right : List Float) (state filled : ℕ) : Type 0 where
  pub here : filled ≡ length l.columns
  pub inside : filled ≤ room
  pub within : i ≤ n
  pub state_is : state ≡ l.state
  pub starts_are : starts ≡ padded 0 (n + 1) l.starts
  pub columns_are : columns ≡ padded 0 room l.columns
  pub values_are : values ≡ padded plus_zero room l.values
  pub right_are : right ≡ padded plus_zero n l.right
  pub long_starts : length starts ≡ n + 1
  pub long_columns : length columns ≡ room
  pub long_values : length values ≡ room
  pub long_right : length right ≡ n

first_start : (n : ℕ) → replicate {A = ℕ} (n + 1) 0 ≡ padded 0 (n + 1) (0 ∷ [])
unfolding padded
first_start n = let e : n + 1 - 1 ≡ n = omega arith in rw (e, add-one n)

pub load-starts : (seed n d room : ℕ) {starts columns : List ℕ} {values right : List Float} → Blank room n starts columns values right
    → Holds (rows_up_to seed n d 0) n 0 room starts columns values right seed 0
unfolding rows_up_to
load-starts seed n d room b = record {
  here = refl;
  inside = omega arith;
  within = omega arith;
  state_is = refl;
  starts_are = b.starts_blank ∙ first_start n;
  columns_are = b.columns_blank ∙ sym (padded-nil 0 room);
  values_are = b.values_blank ∙ sym (padded-nil plus_zero room);
  right_are = b.right_blank ∙ sym (padded-nil plus_zero n);
  long_starts = ap length b.starts_blank ∙ length-replicate (n + 1) 0;
  long_columns = ap length b.columns_blank ∙ length-replicate room 0;
  long_values = ap length b.values_blank ∙ length-replicate room plus_zero;
  long_right = ap length b.right_blank ∙ length-replicate n plus_zero;
}

-- one more at the end of what is laid
at_end : {A : Type 0} (b : A) (room : ℕ) (xs : List A) (v : A) (i : ℕ) → length xs ≡ i → i < room → set (padded b room xs) i v ≡ padded b room (xs ++ v ∷ [])
at_end b room xs v i e h = rw (sym e) (padded-set b room xs v (omega arith))

-- ---- one row more

module _ (seed n d i : ℕ) {room : ℕ} {starts columns columns' : List ℕ} {values values' right : List Float} {state filled entries st : ℕ}
    (g : Holds (rows_up_to seed n d i) n i room starts columns values right state filled)
    (laid : RowLaid (row_up_to d (i + 1) state n) (length columns) filled entries st columns columns' values values') where
  abbrev load : Load
  load = rows_up_to seed n d i

  -- the row from the load's own state
  abbrev row : DrawnRow
  row = row_up_to d (i + 1) load.state n

  own : RowLaid row room filled entries st columns columns' values values'
  own = rw (g.state_is, g.long_columns) at laid

  -- it fits where no more than the places was answered
  fitted : entries ≤ room → (filled + length row.columns ≤ room) × RowIn row filled entries st columns columns' values values'
  fitted h =
      by_test (leb (filled + length row.columns) room)
      (λ e. let low : filled + length row.columns ≤ room = leb-true _ _ e in (low, own.fits low))
      (λ e. absurd (omega (arith, own.over (leb-false _ _ e))))

  -- the stores behind it, as the code makes them: a step, a draw and its value for the right side
  pub load_goes_on : (next : ℕ) (v : Float) → entries ≤ room → i < n → next ≡ stepped st → v ≡ drawn_value (mixed next)
      → Holds (rows_up_to seed n d (i + 1)) n (i + 1) room (set starts (i + 1) entries) columns' values' (set right i v) next entries
  unfolding next_row with_row drawn
  load_goes_on next v h more stepping drew =
      let (fits, inside) = fitted h in
      let many = load_as_many seed n d i in
      let row_many = row_as_many d (i + 1) load.state n in
      let both = length-append load.columns row.columns in
      let total : entries ≡ length (load.columns ++ row.columns) = omega (arith, inside.end, g.here, both) in
      let place : filled ≡ length load.values = omega (arith, g.here, many) in
      let croom : length load.columns + length row.columns ≤ room = omega (arith, g.here) in
      let vroom : length load.values + length row.values ≤ room = omega (arith, g.here, many, row_many) in
      let cs : columns' ≡ padded 0 room (load.columns ++ row.columns) = inside.columns_are ∙ rw (g.columns_are, g.here) (sets-padded 0 room load.columns row.columns croom) in
      let vs : values' ≡ padded plus_zero room (load.values ++ row.values) = inside.values_are ∙ rw (g.values_are, place) (sets-padded plus_zero room load.values row.values vroom) in
      let moved : next ≡ stepped row.state = stepping ∙ ap stepped inside.state_is in
      let value : v ≡ drawn_value (mixed (stepped row.state)) = drew ∙ ap (λ (z : ℕ). drawn_value (mixed z)) moved in
      rw (rows_next seed n d i) (record {
        here = total;
        inside = h;
        within = omega arith;
        state_is = moved;
        starts_are = rw (g.starts_are, total) (at_end 0 (n + 1) load.starts (length (load.columns ++ row.columns)) (i + 1) (starts-many seed n d i) (omega arith));
        columns_are = cs;
        values_are = vs;
        right_are = rw (g.right_are, value) (at_end plus_zero n load.right (drawn_value (mixed (stepped row.state))) i (right_many seed n d i) more);
        long_starts = length-set starts (i + 1) entries ∙ g.long_starts;
        long_columns = ap length cs ∙ length-padded 0 room (load.columns ++ row.columns) (omega (arith, both));
        long_values = ap length vs ∙ length-padded plus_zero room (load.values ++ row.values) (omega (arith, length-append load.values row.values));
        long_right = length-set right i v ∙ g.long_right;
      })

  -- a row that passes the places: so does the load
  row_total : room < entries → room < length (rows_up_to seed n d (i + 1)).columns
  unfolding next_row with_row
  row_total h =
      rw (rows_next seed n d i)
      (by_test (leb (filled + length row.columns) room)
      (λ e. let low : filled + length row.columns ≤ room = leb-true _ _ e in absurd (omega (arith, (own.fits low).end)))
      (λ e. let high : room < filled + length row.columns = leb-false _ _ e in omega (arith, g.here, length-append load.columns row.columns)))

  pub load_passes : (starts'' columns'' : List ℕ) (values'' right'' : List Float) → room < entries → i < n
      → LoadLaid (load_of seed n d) entries room n starts'' columns'' values'' right''
  unfolding load_of
  load_passes starts'' columns'' values'' right'' h more =
      let total = row_total h in
      let grown = load_grows seed n d (i + 1) n (omega arith) in
      record { fits = λ fits. absurd (omega (arith, total, grown, fits)); over = λ _. h }

-- ---- all rows

pub load-ends : (seed n d i : ℕ) {room : ℕ} {starts columns : List ℕ} {values right : List Float} {state filled : ℕ}
    → Holds (rows_up_to seed n d i) n i room starts columns values right state filled
    → n ≤ i
    → LoadLaid (load_of seed n d) filled room n starts columns values right
unfolding load_of
load-ends seed n d i {room = room} {starts = starts} {columns = columns} {values = values} {right = right} {state = state} {filled = filled} g high =
    let all : i ≡ n = omega (arith, g.within) in
    let k = subst (λ (m : ℕ). Holds (rows_up_to seed n d m) n i room starts columns values right state filled) all g in
    record {
      fits = λ _. record { end = k.here; starts_are = k.starts_are; columns_are = k.columns_are; values_are = k.values_are; right_are = k.right_are };
      over = λ h. absurd (omega (arith, k.here, k.inside, h));
    }
