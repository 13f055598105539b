-- `sizes_fit` meets its contract.
use Rattle.load_judge.proofs.Sizes.{columns_off, values_off, starts_off, right_decides}
use Rattle.load_judge.proofs.sizes_fit.Goals as goal

pub returns-then-columns-ne-PLACES : goal.returns-then-columns-ne-PLACES
returns-then-columns-ne-PLACES c = let a = c.args in columns_off a.n a.starts a.columns a.values a.right c.if-columns-ne-PLACES.true

pub returns-then-values-ne-PLACES : goal.returns-then-values-ne-PLACES
returns-then-values-ne-PLACES c =
    let a = c.args in values_off a.n a.starts a.columns a.values a.right c.if-columns-ne-PLACES.false c.if-values-ne-PLACES.true

pub returns-then-starts-n : goal.returns-then-starts-n
returns-then-starts-n c =
    let a = c.args in starts_off a.n a.starts a.columns a.values a.right c.if-columns-ne-PLACES.false c.if-values-ne-PLACES.false c.if-starts-n.true

pub returns : goal.returns
returns c =
    let a = c.args in right_decides a.n a.starts a.columns a.values a.right c.if-columns-ne-PLACES.false c.if-values-ne-PLACES.false c.if-starts-n.false
