-- A product taken off a number, unless its first factor is zero.
use Rattle.std.specs.Prelude.{cond, Float}
use Rattle.foundation.specs.Numbers.{is_zero, product, difference}

-- Document 01, "Elimination": "The right side follows with m not zero"; and in back substitution "subtract u × solution for nonzero u".
unfoldable pub less_product : Float → Float → Float → Float
less_product m x place = cond (is_zero m) place (difference place (product m x))
