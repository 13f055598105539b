-- A text written into a store of bytes.
use Rattle.std.specs.Prelude.{◌≡◌, List, ◌++◌, ℕ, ◌+◌, length, take, drop}

-- `text` stands from place `at` on and ends at `end`; before and beyond it the store is as it was
pub record Appended (was : List ℕ) (at : ℕ) (text now : List ℕ) (end : ℕ) : Type 0 where
  pub size : length now ≡ length was
  pub ends : end ≡ at + length text
  pub written : take end now ≡ take at was ++ text
  pub beyond : drop end now ≡ drop end was
