-- Test loads.
use mathlib.Core.Path.{refl}
use Rattle.foundation.specs.Table.{Holds}
use Rattle.foundation.specs.Cases.Load.{draw_cases, place_cases, load_cases}
use Rattle.foundation.proofs.Open.Lists.{tables}
use Rattle.foundation.proofs.Open.Numbers.{numbers}
use Rattle.foundation.proofs.Open.Loads.{loads}

pub draws_hold : Holds draw_cases
unfolding draw_cases tables numbers loads
draws_hold = refl

pub places_hold : Holds place_cases
unfolding place_cases tables numbers loads
places_hold = refl

pub loads_hold : Holds load_cases
unfolding load_cases tables numbers loads
loads_hold = refl
