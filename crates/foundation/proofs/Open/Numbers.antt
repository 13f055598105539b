-- Numbers f64: `unfolding numbers`.
use lib.Ieee.{add, sub, mul, div, neg, eq, lt, le, of_int, to_bits, of_bits}
use Rattle.foundation.specs.Numbers.{plus_zero, is_zero, finite, magnitude, least_pivot, may_pivot, product, difference, quotient, float_of, bits_of, of_pattern}

unfoldable pub numbers : Unit {0}
unfolding add sub mul div neg eq lt le of_int to_bits of_bits plus_zero is_zero finite magnitude least_pivot may_pivot product difference quotient float_of bits_of of_pattern
numbers = tt
