-- `run_request::row_asked` meets its contract. Assumes nothing.
use mathlib.Core.List.{List}
use mathlib.Core.Path.{◌≡◌}
use Prim.Native.Nat.{ℕ, ◌-◌}
use native.Mathlib.Omega.{arith}
use borrow.Author.Rules.{rules}
use lib.ListN.{get_or}
use Rattle.run_slots.specs.Handing.{asked}
use Rattle.answers.specs.Runs.{chosen_by}
use Rattle.answers.specs.declared.PivotChoice.{PivotChoice}
use Rattle.answers.specs.declared.PivotChoice.TheVariants.{Largest, Listed}
use Rattle.run_request.proofs.row_asked.Goals as goal

pub offset_bounds-rows-k : goal.offset_bounds-rows-k
offset_bounds-rows-k c = let high = c.requires.1 c.in-Listed.is in search rules

pub bounds-rows-k : goal.bounds-rows-k
bounds-rows-k c = omega (arith, c.requires.1 c.in-Listed.is)

listed-asked : (choice : PivotChoice) (rows : List ℕ) (k : ℕ) → choice ≡ Listed → get_or rows (k - 1) 0 ≡ asked (chosen_by choice rows) k
unfolding asked chosen_by
listed-asked choice rows k e = rw e

largest-asked : (choice : PivotChoice) (rows : List ℕ) (k : ℕ) → choice ≡ Largest → 0 ≡ asked (chosen_by choice rows) k
unfolding asked chosen_by
largest-asked choice rows k e = rw e

pub returns-in-Listed : goal.returns-in-Listed
returns-in-Listed c = listed-asked _ _ _ c.in-Listed.is

pub returns-in-Largest : goal.returns-in-Largest
returns-in-Largest c = largest-asked _ _ _ c.in-Largest.is
