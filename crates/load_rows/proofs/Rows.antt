-- A row laid place by place: what the stores hold of it so far, and that a row which passes them stays past them.
use mathlib.Core.Bool.{Bool, true, false}
use mathlib.Core.List.{List, [], ◌∷◌}
use mathlib.Core.Path.{◌≡◌, refl, sym, ap, ◌∙◌}
use Prim.Native.Nat.{ℕ, ◌+◌, ◌≤◌, ◌<◌}
use native.Mathlib.Omega.{arith}
use lib.Ieee.{Float}
use lib.ListN.{length, set, length-append, length-set}
use lib.Seq.{sets}
use Rattle.lists.proofs.Laying.{sets_snoc}
use Rattle.foundation.specs.Draw.{stepped, mixed, drawn, drawn_value}
use Rattle.foundation.specs.Load.{DrawnRow, entered, present_by, asked_state, asked, row_up_to}
use Rattle.foundation.proofs.LoadRows.{place_present, place_absent, row_next, row_as_many, row_grows}
use Rattle.load_rows.specs.Laid.{RowLaid}

-- the first j places of a row are laid from `filled` on, in stores of `room` places
pub record RowAt (d row state room filled j : ℕ) (columns₀ columns : List ℕ) (values₀ values : List Float) (at end : ℕ) : Type 0 where
  pub here : end ≡ filled + length (row_up_to d row state j).columns
  pub inside : end ≤ room
  pub state_is : at ≡ (row_up_to d row state j).state
  pub columns_are : columns ≡ sets columns₀ filled (row_up_to d row state j).columns
  pub values_are : values ≡ sets values₀ filled (row_up_to d row state j).values
  pub long_columns : length columns ≡ room
  pub long_values : length values ≡ room

pub row_starts : (d row state filled : ℕ) (columns : List ℕ) (values : List Float) → filled ≤ length columns → length values ≡ length columns
    → RowAt d row state (length columns) filled 0 columns columns values values state filled
unfolding row_up_to
row_starts d row state filled columns values inside long = record {
  here = omega arith;
  inside = inside;
  state_is = refl;
  columns_are = refl;
  values_are = refl;
  long_columns = refl;
  long_values = long;
}

-- what `ask` says of a place
abbrev pub Answered : ℕ → ℕ → ℕ → ℕ → ℕ → Bool → Type 0
Answered d row column at s present = (s ≡ asked_state row column at) × (present ≡ present_by d row column at)

module _ {d row state room filled j : ℕ} {columns₀ columns : List ℕ} {values₀ values : List Float} {at end s : ℕ} {present : Bool}
    (g : RowAt d row state room filled j columns₀ columns values₀ values at end) (a : Answered d row (j + 1) at s present) where
  abbrev laid : DrawnRow
  laid = row_up_to d row state j

  known : present_by d row (j + 1) laid.state ≡ present
  known = ap (present_by d row (j + 1)) (sym g.state_is) ∙ sym a.1

  reached : s ≡ asked_state row (j + 1) laid.state
  reached = a.0 ∙ ap (asked_state row (j + 1)) g.state_is

  without : present ≡ false → row_up_to d row state (j + 1) ≡ asked row (j + 1) laid
  without e = row_next d row state j ∙ place_absent d row (j + 1) laid (known ∙ e)

  with_entry : present ≡ true → row_up_to d row state (j + 1) ≡ entered (j + 1) (asked row (j + 1) laid)
  with_entry e = row_next d row state j ∙ place_present d row (j + 1) laid (known ∙ e)

  pub row_skips : present ≡ false → RowAt d row state room filled (j + 1) columns₀ columns values₀ values s end
  unfolding asked
  row_skips e = record {
    here = rw (without e) g.here;
    inside = g.inside;
    state_is = rw (without e) reached;
    columns_are = rw (without e) g.columns_are;
    values_are = rw (without e) g.values_are;
    long_columns = g.long_columns;
    long_values = g.long_values;
  }

  -- one more entry, with the value that is drawn next
  pub row_writes : present ≡ true → (next : ℕ) (v : Float) → next ≡ stepped s → v ≡ drawn_value (mixed next) → end < room
      → RowAt d row state room filled (j + 1) columns₀ (set columns end (j + 1)) values₀ (set values end v) next (end + 1)
  unfolding asked entered drawn
  row_writes e next v stepping drew free =
      let moved : next ≡ stepped (asked_state row (j + 1) laid.state) = stepping ∙ ap stepped reached in
      let value : v ≡ drawn_value (mixed (stepped (asked_state row (j + 1) laid.state))) = drew ∙ ap (λ (z : ℕ). drawn_value (mixed z)) moved in
      let place : end ≡ filled + length laid.values = omega (arith, g.here, row_as_many d row state j) in
      record {
        here = rw (with_entry e) (omega (arith, g.here, length-append laid.columns ((j + 1) ∷ [])));
        inside = omega arith;
        state_is = rw (with_entry e) moved;
        columns_are = rw (with_entry e, g.columns_are, g.here) (sets_snoc columns₀ filled laid.columns (j + 1));
        values_are = rw (with_entry e, g.values_are, place, value) (sets_snoc values₀ filled laid.values (drawn_value (mixed (stepped (asked_state row (j + 1) laid.state)))));
        long_columns = length-set columns end (j + 1) ∙ g.long_columns;
        long_values = length-set values end v ∙ g.long_values;
      }

  -- an entry that finds no place: the row passes the store, and so does all of it
  passes_now : present ≡ true → room ≤ end → room < filled + length (row_up_to d row state (j + 1)).columns
  unfolding asked entered
  passes_now e over = rw (with_entry e) (omega (arith, g.here, length-append laid.columns ((j + 1) ∷ [])))

  pub row_passes : (n : ℕ) (columns' : List ℕ) (values' : List Float) → present ≡ true → room ≤ end → j + 1 ≤ n
      → RowLaid (row_up_to d row state n) room filled (room + 1) s columns₀ columns' values₀ values'
  row_passes n columns' values' e over more =
      let passed = passes_now e over in
      let grown = row_grows d row state (j + 1) n more in
      record { fits = λ fits. absurd (omega (arith, passed, grown, fits)); over = λ _. omega arith }

pub row_ends : {d row state room filled j n : ℕ} {columns₀ columns : List ℕ} {values₀ values : List Float} {at end : ℕ} → j ≤ n → n ≤ j
    → RowAt d row state room filled j columns₀ columns values₀ values at end
    → RowLaid (row_up_to d row state n) room filled end at columns₀ columns values₀ values
row_ends {j = j} {n = n} low high g =
    let all : n ≡ j = omega arith in
    rw all (record {
      fits = λ _. record { end = g.here; state_is = g.state_is; columns_are = g.columns_are; values_are = g.values_are };
      over = λ h. absurd (omega (arith, g.here, g.inside, h));
    })
