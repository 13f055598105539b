-- `clear_stores` meets its contract: each store is cleared by a call of its own.
use mathlib.Core.Path.{◌≡◌}
use lib.Ieee.{Float, of_bits}
use Rattle.foundation.specs.Numbers.{plus_zero}
use Rattle.loads.proofs.Calls.{same_stores}
use Rattle.loads.proofs.clearing.clear_stores.Goals as goal

pub returns : goal.returns
unfolding plus_zero of_bits
returns c =
    let same = λ (y : Float) (e : y ≡ plus_zero). e in
    same_stores c.clear.ensures c.clear-2.ensures (c.fill.ensures.after same) (c.fill-2.ensures.after same)
