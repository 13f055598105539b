-- What the rows of a load leave in the stores, by the number of places that columns and values have (`room`).
use Rattle.std.specs.Prelude.{List, ◌≡◌, ℕ, ◌+◌, ◌≤◌, ◌<◌, Float, length, replicate}
use Rattle.std.proofs.lemmas.List.Edits.{sets}
use Rattle.lists.specs.Functions.{padded}
use Rattle.foundation.specs.Numbers.{plus_zero}
use Rattle.foundation.specs.Load.{DrawnRow, Load}

-- a row laid from place `filled` on: where its entries end, the state after it, and the two stores
pub record RowIn (r : DrawnRow) (filled entries state : ℕ) (columns columns' : List ℕ) (values values' : List Float) : Type 0 where
  pub end : entries ≡ filled + length r.columns
  pub state_is : state ≡ r.state
  pub columns_are : columns' ≡ sets columns filled r.columns
  pub values_are : values' ≡ sets values filled r.values

-- it is laid where it fits; else more than the places is answered, and the stores are to be cleared
pub record RowLaid (r : DrawnRow) (room filled entries state : ℕ) (columns columns' : List ℕ) (values values' : List Float) : Type 0 where
  pub fits : filled + length r.columns ≤ room → RowIn r filled entries state columns columns' values values'
  pub over : room < filled + length r.columns → room < entries

-- a load in stores that were zero
pub record LoadIn (l : Load) (entries room n : ℕ) (starts columns : List ℕ) (values right : List Float) : Type 0 where
  pub end : entries ≡ length l.columns
  pub starts_are : starts ≡ padded 0 (n + 1) l.starts
  pub columns_are : columns ≡ padded 0 room l.columns
  pub values_are : values ≡ padded plus_zero room l.values
  pub right_are : right ≡ padded plus_zero n l.right

pub record LoadLaid (l : Load) (entries room n : ℕ) (starts columns : List ℕ) (values right : List Float) : Type 0 where
  pub fits : length l.columns ≤ room → LoadIn l entries room n starts columns values right
  pub over : room < length l.columns → room < entries

-- stores for n rows, all zero
pub record Blank (room n : ℕ) (starts columns : List ℕ) (values right : List Float) : Type 0 where
  pub starts_blank : starts ≡ replicate (n + 1) 0
  pub columns_blank : columns ≡ replicate room 0
  pub values_blank : values ≡ replicate room plus_zero
  pub right_blank : right ≡ replicate n plus_zero
