-- How much of a new list stands at its store's end already.
use Rattle.std.specs.Prelude.{List, ℕ, ◌≤◌, length}
use Rattle.lists.specs.Sets.{Ascending}

-- the used part of a store lies inside it, and the new list ascends
pub record EndAsks (new subs : List ℕ) (end : ℕ) : Type 0 where
  pub inside : end ≤ length subs
  pub ascends : Ascending 0 new
