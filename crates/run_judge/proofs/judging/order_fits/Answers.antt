-- `judging::order_fits` meets its contract. Assumes nothing.
use Rattle.run_judge.proofs.Tests.{order_first, order-second}
use Rattle.run_judge.proofs.judging.order_fits.Goals as goal

pub returns-then-not-list_fits : goal.returns-then-not-list_fits
returns-then-not-list_fits c p width tall = order_first p _ _ _ (c.list_fits.ensures p width tall) c.if-not-list_fits.true

pub returns : goal.returns
returns c p width tall =
    order-second p _ _ _ _ (c.list_fits.ensures p width tall) c.if-not-list_fits.false (c.cut_fits.ensures p width)
