-- Offsets in degrees, minutes and seconds.
use mathlib.Core.Path.{refl}
use Rattle.foundation.specs.Table.{Holds}
use Rattle.foundation.specs.Cases.Offset.{rounding_cases, reading_cases, text_cases, store_cases, value_cases}
use Rattle.foundation.proofs.Open.Lists.{tables}
use Rattle.foundation.proofs.Open.Numbers.{numbers}
use Rattle.foundation.proofs.Open.Offsets.{offsets}

pub rounding_holds : Holds rounding_cases
unfolding rounding_cases tables numbers offsets
rounding_holds = refl

pub reading_holds : Holds reading_cases
unfolding reading_cases tables numbers offsets
reading_holds = refl

pub texts_hold : Holds text_cases
unfolding text_cases tables numbers offsets
texts_hold = refl

pub stores_hold : Holds store_cases
unfolding store_cases tables numbers offsets
stores_hold = refl

pub values_hold : Holds value_cases
unfolding value_cases tables numbers offsets
values_hold = refl
