-- A test load (document 02, Ticket 6): a row as a fold over its columns, the load as a fold over its rows. Where the load would be refused is judged by LoadCall.
use Rattle.std.specs.Prelude.{Bool, cond, ◌||◌, List, [], ◌∷◌, ◌++◌, ℕ, zero, suc, ◌%◌, eqb, Float, length}
use Rattle.foundation.specs.Draw.{stepped, drawn, drawn_value}

-- ---- a row

-- a row as far as it is drawn: the state, and the columns and values of its entries
pub record DrawnRow : Type 0 where
  pub state : ℕ
  pub columns : List ℕ
  pub values : List Float

-- "one draw gives the value": the row with an entry in a column
unfoldable pub entered : ℕ → DrawnRow → DrawnRow
entered column r =
    record {
      state = stepped r.state;
      columns = r.columns ++ column ∷ [];
      values = r.values ++ drawn_value (drawn r.state) ∷ [];
    }

-- "off the diagonal, one draw, and the place is present if the draw divides by d without rest"; on the diagonal it is present: whether a place is, by the state before it
unfoldable pub present_by : ℕ → ℕ → ℕ → ℕ → Bool
present_by d row column state = eqb row column || eqb (drawn state % d) 0

-- "off the diagonal, one draw": the state once that is known; the diagonal takes none
unfoldable pub asked_state : ℕ → ℕ → ℕ → ℕ
asked_state row column state = cond (eqb row column) state (stepped state)

unfoldable pub asked : ℕ → ℕ → DrawnRow → DrawnRow
asked row column r = record { state = asked_state row column r.state; columns = r.columns; values = r.values }

-- one place more: "if present, or on the diagonal, one draw gives the value"
unfoldable pub next_place : ℕ → ℕ → ℕ → DrawnRow → DrawnRow
next_place d row column r =
    let absent = asked row column r in
    let present = entered column absent in
    cond (present_by d row column r.state) present absent

-- "for each column": the first columns of a row, as many as the last number says, from the state before the row
unfoldable pub row_up_to : ℕ → ℕ → ℕ → ℕ → DrawnRow
row_up_to d row state zero = record { state = state; columns = []; values = [] }
row_up_to d row state (suc column) = next_place d row (suc column) (row_up_to d row state column)

-- ---- all rows

-- a load as far as it is drawn: the state, and what stands in the four stores
pub record Load : Type 0 where
  pub state : ℕ
  pub starts : List ℕ
  pub columns : List ℕ
  pub values : List Float
  pub right : List Float

-- one row more: "After each row one draw gives the right side likewise."
unfoldable pub with_row : DrawnRow → Load → Load
with_row r l =
    record {
      state = stepped r.state;
      starts = l.starts ++ length (l.columns ++ r.columns) ∷ [];
      columns = l.columns ++ r.columns;
      values = l.values ++ r.values;
      right = l.right ++ drawn_value (drawn r.state) ∷ [];
    }

-- each row goes on from the state that the last one left
unfoldable pub next_row : ℕ → ℕ → ℕ → Load → Load
next_row n d row l = with_row (row_up_to d row l.state n) l

-- "For each row": the first rows of a load of n columns, as many as the last number says. The seed is the first state.
unfoldable pub rows_up_to : ℕ → ℕ → ℕ → ℕ → Load
rows_up_to seed n d zero = record { state = seed; starts = 0 ∷ []; columns = []; values = []; right = [] }
rows_up_to seed n d (suc row) = next_row n d (suc row) (rows_up_to seed n d row)

-- the load of a seed
unfoldable pub load_of : ℕ → ℕ → ℕ → Load
load_of seed n d = rows_up_to seed n d n
