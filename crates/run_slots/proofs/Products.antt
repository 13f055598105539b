-- A product taken off a number, as the code takes it off: by a test for zero.
use mathlib.Core.Bool.{true, false}
use mathlib.Core.Path.{◌≡◌}
use lib.Ieee.{Float, fin, binary64, sub, mul, eq}
use lib.IntN.{pos}
use Rattle.foundation.specs.Numbers.{is_zero, plus_zero, difference, product}
use Rattle.run_slots.specs.Products.{less_product}

pub less_zero : (m x place : Float) → eq m (fin false 0 (pos 0)) ≡ true → place ≡ less_product m x place
unfolding is_zero plus_zero less_product
less_zero m x place e = rw e

pub less_nonzero : (m x place : Float) → eq m (fin false 0 (pos 0)) ≡ false → sub binary64 place (mul binary64 m x) ≡ less_product m x place
unfolding is_zero plus_zero less_product difference product
less_nonzero m x place e = rw e
