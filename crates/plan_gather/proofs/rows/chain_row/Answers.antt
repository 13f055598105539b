-- `chain_row` meets its contract: a row that is not empty has its least column first, and joins that column's chain.
use mathlib.Core.Path.{refl}
use Prim.Native.Nat.{◌<◌}
use native.Mathlib.Omega.{arith}
use borrow.Author.Rules.{scaled_Fits}
use lib.ListN.{length}
use Rattle.foundation.specs.Pattern.{lent}
use Rattle.lists.proofs.Small.{before-fits, before_below}
use Rattle.plan_gather.specs.Ready.{lent_by}
use Rattle.plan_gather.proofs.Chaining.{RowPlace, starts_size, row_place, rows_pass, rows-turn}
use Rattle.plan_gather.proofs.rows.chain_row.Goals as goal
use Rattle.plan_gather.proofs.rows.chain_row.Lts as lts
use Rattle.plan_gather.proofs.rows.chain_row.Reads as reads
use Rattle.plan_gather.proofs.rows.chain_row.Tie as tie

abbrev Start : Type 0
Start = lts.Start tie.the-claims reads.Pre reads.Post tie.handed_clauses

abbrev Else-starts-i : Type 0
Else-starts-i = lts.Else1 tie.the-claims reads.Pre reads.Post tie.handed_clauses

-- row i has a start, and one behind it
inside : (c : Start) → c.args.i < length c.args.starts.now
unfolding lent_by lent
inside c = omega (arith, c.requires.ready.2, starts_size _ c.requires.ready.0)

-- what is read of row i
place : (c : Else-starts-i) → RowPlace c.args.n c.args.starts.now c.args.columns.now
    c.args.i
unfolding lent_by lent
place c =
    row_place _ c.requires.ready.0 c.args.i c.requires.ready.1 c.requires.ready.2 c.if-starts-i.false

pub overflow_sub-at : goal.overflow_sub-at
overflow_sub-at c = c.requires.ready.1

pub offset_bounds-starts-i : goal.offset_bounds-starts-i
offset_bounds-starts-i c = before-fits (inside c.before.before.before.before.before) c.well_formed.1.1.0.1

pub bounds-starts-i : goal.bounds-starts-i
bounds-starts-i c = before_below (inside c.before.before.before.before.before.before)

pub offset_bounds-starts-i-2 : goal.offset_bounds-starts-i-2
offset_bounds-starts-i-2 c = scaled_Fits _ _ _ (inside c.before.before.before.before.before.before) c.well_formed.1.1.0.1

pub bounds-starts-i-2 : goal.bounds-starts-i-2
bounds-starts-i-2 c = inside c.before.before.before.before.before.before.before

pub returns-then-starts-i : goal.returns-then-starts-i
unfolding lent_by lent
returns-then-starts-i c =
    rows_pass _ c.requires.ready.0 c.args.i c.requires.ready.1 c.requires.ready.2 c.if-starts-i.true c.requires.chained

pub offset_bounds-columns-at : goal.offset_bounds-columns-at
offset_bounds-columns-at c = scaled_Fits _ _ _ (place c.before).in_columns c.well_formed.1.1.1.0.1

pub bounds-columns-at : goal.bounds-columns-at
bounds-columns-at c = (place c.before.before).in_columns

-- The chain: by arithmetic, so that code with another step's chain here asks the same and is refused by the contract.
pub push-requires : goal.push-requires
push-requires c =
    let chains = c.requires.chained in
    (omega (arith, (place c.before.before.before.before).column_high, c.requires.ready.1, c.requires.ready.2, chains.within, chains.heads_size), omega (arith, c.requires.ready.2, chains.links_size))

pub returns : goal.returns
unfolding lent_by lent
returns c =
    let e = c.push.ensures in
    rows-turn _ c.requires.ready.0 c.args.i c.requires.ready.1 c.requires.ready.2 c.if-starts-i.false _ _ _ _ _ refl e.0 e.1 c.requires.chained
