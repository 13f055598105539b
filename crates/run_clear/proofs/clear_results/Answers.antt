-- `run_clear::clear_results` meets its contract: each store is cleared by a call of its own. Assumes nothing.
use mathlib.Core.Path.{◌≡◌}
use lib.Ieee.{Float, of_bits}
use Rattle.foundation.specs.Numbers.{plus_zero}
use Rattle.run_clear.proofs.Stores.{same_stores}
use Rattle.run_clear.proofs.clear_results.Goals as goal

pub returns : goal.returns
unfolding plus_zero of_bits
returns c =
    let same = λ (y : Float) (e : y ≡ plus_zero). e in
    same_stores (c.fill.ensures.after same) (c.fill-2.ensures.after same) (c.fill-3.ensures.after same) (c.fill-4.ensures.after same) c.clear.ensures
