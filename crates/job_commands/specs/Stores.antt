-- The stores that a job is read into.
use Rattle.std.specs.Prelude.{◌≡◌, List, ℕ, Float}
use Rattle.job_commands.specs.declared.stores.LentStores.{LentStores}

-- the five stores that a job is read into
pub record JobStores : Type 0 where
  pub starts : List ℕ
  pub columns : List ℕ
  pub values : List Float
  pub right : List Float
  pub rows : List ℕ

abbrev pub stores_of : (starts columns : List ℕ) (values right : List Float) (rows : List ℕ) → JobStores
stores_of starts columns values right rows = record { starts = starts; columns = columns; values = values; right = right; rows = rows }

-- the stores with others for entries, for a row's end, for P
abbrev pub with_entries : JobStores → List ℕ → List Float → JobStores
with_entries s columns values = stores_of s.starts columns values s.right s.rows

abbrev pub with_ends : JobStores → List ℕ → List Float → JobStores
with_ends s starts right = stores_of starts s.columns s.values right s.rows

abbrev pub with_rows : JobStores → List ℕ → JobStores
with_rows s rows = stores_of s.starts s.columns s.values s.right rows

-- what stands in stores that are lent
abbrev pub lists_in : LentStores → JobStores
lists_in s = stores_of s.starts.now s.columns.now s.values.now s.right.now s.rows.now

-- the same stores are lent as before, whatever stands in them
pub record SameStores (old new : LentStores) : Type 0 where
  pub same_starts : new.starts.ghost_name ≡ old.starts.ghost_name
  pub same_columns : new.columns.ghost_name ≡ old.columns.ghost_name
  pub same_values : new.values.ghost_name ≡ old.values.ghost_name
  pub same_right : new.right.ghost_name ≡ old.right.ghost_name
  pub same_rows : new.rows.ghost_name ≡ old.rows.ghost_name
