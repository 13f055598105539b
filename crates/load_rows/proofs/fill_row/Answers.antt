-- `fill_row` meets its contract. The loop's invariant: the first j places of the row are laid from `filled` on.
use native.Mathlib.Omega.{arith}
use borrow.Author.Rules.{rules}
use Rattle.load_rows.proofs.Rows.{row_starts, row_skips, row_writes, row_passes, row_ends}
use Rattle.load_rows.proofs.fill_row.Goals as goal

pub loop-j-init : goal.loop-j-init
loop-j-init c =
    (omega arith, row_starts c.args.d c.args.row c.args.state c.args.filled c.args.columns.now c.args.values.now c.requires.1 c.requires.2)

pub ask-asked-requires : goal.ask-asked-requires
ask-asked-requires c = c.requires.0

pub loop-j-preserved-then-not-present : goal.loop-j-preserved-then-not-present
loop-j-preserved-then-not-present c =
    let l = c.loop-j in
    (search rules, row_skips l.invariant.1 c.ask-asked.ensures c.if-not-present.true)

pub returns-then-room-end : goal.returns-then-room-end
returns-then-room-end c =
    row_passes c.loop-j.invariant.1 c.ask-asked.ensures c.args.n c.loop-j.columns c.loop-j.values c.if-not-present.false c.if-room-end.true (search rules)

pub loop-j-preserved : goal.loop-j-preserved
loop-j-preserved c =
    let l = c.loop-j in (
      search rules,
      row_writes l.invariant.1 c.ask-asked.ensures c.if-not-present.false c.step-current.result c.value_at.result c.step-current.ensures
          c.value_at.ensures c.if-room-end.false,
    )

pub returns : goal.returns
returns c = let l = c.loop-j in row_ends l.invariant.0 c.loop-j-test.false l.invariant.1
