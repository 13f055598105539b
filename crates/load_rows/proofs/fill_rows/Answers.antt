-- `fill_rows` meets its contract. The loop's invariant: the first i rows of the load are in the stores, zeros beyond.
use mathlib.Core.Path.{sym, ◌∙◌}
use native.Mathlib.Omega.{arith}
use Rattle.load_rows.proofs.Stores.{load-starts, load_goes_on, load_passes, load-ends}
use Rattle.load_rows.proofs.fill_rows.Goals as goal

-- the stores as they were lent hold no row
pub loop-i-init : goal.loop-i-init
loop-i-init c = load-starts c.args.seed c.args.n c.args.d _ c.requires.1

pub fill_row-end-requires : goal.fill_row-end-requires
fill_row-end-requires c =
    let g = c.loop-i.invariant in
    (c.requires.0, omega (arith, g.inside, g.long_columns), g.long_values ∙ sym g.long_columns)

pub returns-then-room-entries : goal.returns-then-room-entries
returns-then-room-entries c =
    let a = c.args in
    load_passes a.seed a.n a.d c.loop-i.i c.loop-i.invariant c.fill_row-end.ensures _ _ _ _ c.if-room-entries.true c.loop-i-test.true

pub offset_bounds-right-i : goal.offset_bounds-right-i
offset_bounds-right-i c = record { fits = omega (arith, c.loop-i.invariant.long_right) }

pub bounds-right-i : goal.bounds-right-i
bounds-right-i c = omega (arith, c.loop-i.invariant.long_right, c.loop-i-test.true)

pub offset_bounds-starts-row : goal.offset_bounds-starts-row
offset_bounds-starts-row c = record { fits = omega (arith, c.loop-i.invariant.long_starts) }

pub bounds-starts-row : goal.bounds-starts-row
bounds-starts-row c = omega (arith, c.loop-i.invariant.long_starts, c.loop-i-test.true)

pub loop-i-preserved : goal.loop-i-preserved
loop-i-preserved c =
    let a = c.args in
    load_goes_on a.seed a.n a.d c.loop-i.i c.loop-i.invariant c.fill_row-end.ensures c.step-state.result c.value_at.result
    c.if-room-entries.false c.loop-i-test.true c.step-state.ensures c.value_at.ensures

pub returns : goal.returns
returns c =
    let a = c.args in
    load-ends a.seed a.n a.d c.loop-i.i c.loop-i.invariant c.loop-i-test.false
