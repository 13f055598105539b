-- Where a merge in place stands.
use Rattle.std.specs.Prelude.{List, ◌++◌, ◌≡◌, ℕ, ◌+◌, ◌≤◌, length, take, drop}
use Rattle.lists.specs.Sets.{union}

-- A first list stands in the store from `read` on to the end, and `later` is what is left of a second: with so many numbers written at the front, their union is
-- still to come, and then `whole` stands there.
pub record Merging (read written : ℕ) (store whole later : List ℕ) : Type 0 where
  pub inside : read ≤ length store
  pub room : written + length (union (drop read store) later) ≤ length store
  pub same : take written store ++ union (drop read store) later ≡ whole
