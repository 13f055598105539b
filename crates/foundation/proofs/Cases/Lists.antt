-- The tables of lists, and what tables rest on.
use mathlib.Core.Bool.{false≢true}
use mathlib.Core.Path.{refl}
use Rattle.foundation.specs.Table.{Holds}
use Rattle.foundation.specs.Cases.Lists.{Ground, list_cases}
use Rattle.foundation.proofs.Open.Lists.{tables}

-- what the tables rest on
pub ground : Ground
unfolding Ground tables
ground = (refl, refl, refl, refl, refl, refl, refl, refl, refl, refl, refl, refl, refl, refl, refl, refl, refl, refl, refl, λ e. false≢true e)

pub lists_hold : Holds list_cases
unfolding list_cases tables
lists_hold = refl
