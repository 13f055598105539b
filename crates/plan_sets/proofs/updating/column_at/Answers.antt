-- `column_at` meets its contract: what lies before the row's end lies inside the columns.
use Prim.Native.Nat.{◌<◌}
use native.Mathlib.Omega.{arith}
use lib.ListN.{length}
use borrow.Author.Tests.{lt-ltb, le-ltb}
use Rattle.lists.proofs.Small.{index-fits}
use Rattle.plan_sets.proofs.updating.column_at.Goals as goal
use Rattle.plan_sets.proofs.updating.column_at.Lts as lts
use Rattle.plan_sets.proofs.updating.column_at.Reads as reads

abbrev Else-starts-row : Type 0
Else-starts-row = lts.Else1 reads.Pre reads.Post

-- the place lies inside the columns
inside : (c : Else-starts-row) → c.args.at < length c.args.columns.now
inside c = omega (arith, c.if-starts-row.false, c.requires.1)

pub offset_bounds-starts-row : goal.offset_bounds-starts-row
offset_bounds-starts-row c = index-fits c.requires.0 c.well_formed.1.1.0.1

pub bounds-starts-row : goal.bounds-starts-row
bounds-starts-row c = c.requires.0

pub returns-then-starts-row : goal.returns-then-starts-row
returns-then-starts-row c = rw (le-ltb _ _ c.if-starts-row.true)

pub offset_bounds-columns-at : goal.offset_bounds-columns-at
offset_bounds-columns-at c = index-fits (inside c.before) c.well_formed.1.1.1.0.1

pub bounds-columns-at : goal.bounds-columns-at
bounds-columns-at c = inside c.before.before

pub returns : goal.returns
returns c = rw (lt-ltb _ _ c.if-starts-row.false)
