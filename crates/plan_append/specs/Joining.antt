-- Where one row joins the list of the step before.
use Rattle.std.specs.Prelude.{List, [], ◌∷◌, ◌≡◌, ℕ, ◌-◌, ◌≤◌, ◌<◌, length, drop, get_or}
use Rattle.foundation.specs.Pattern.{Lent, pattern_of}
use Rattle.foundation.specs.Plan.{Side, brings}
use Rattle.store_place.specs.Places.{ListAt}
use Rattle.plan_gather.specs.Ready.{plan_of}
use Rattle.plan_gather.specs.Steps.{StepOf}
use Rattle.plan_share.specs.Adding.{RestOf}
use Rattle.plan_append.specs.declared.appended.Last.{Last}
use Rattle.plan_append.specs.declared.appended.Last.TheVariants.{Members, Before}
use Rattle.plan_append.specs.declared.appended.Added.{Added}
use Rattle.plan_append.specs.declared.appended.Added.TheVariants.{Behind, Elsewhere}

-- by the chains: one row was first met at k, and S_k is the one step k-1
pub record ChainsJoin (k row : ℕ) (row_links : List ℕ) (set : ℕ) (set_links : List ℕ) : Type 0 where
  pub row_some : 0 < row
  pub row_last : get_or row_links row 0 ≡ 0
  pub set-some : 0 < set
  pub set_is : set ≡ k - 1
  pub set_last : get_or set_links set 0 ≡ 0

-- by the plan
pub record JoinsLast (p : Lent) (n k row : ℕ) : Type 0 where
  pub step : StepOf p n k
  pub later : 2 ≤ k
  pub rows : (plan_of p).first_met k ≡ row ∷ []
  pub steps : (plan_of p).S k ≡ (k - 1) ∷ []

-- where the list of step k-1 lies, which ends its store; or that it does not
abbrev pub LastAs : Last → ℕ → (starts slots : List ℕ) → ℕ → Type 0
LastAs (Members from to) k starts slots end =
    ListAt starts slots (k - 1) from.0 to.0 (get_or slots (k - 1 - 1) 0) (get_or slots (k - 1) 0) × (to.0 ≡ end)
LastAs Before k starts slots end = Unit

-- what a row adds behind the list of step k-1 is what the list of step k adds to its store
abbrev pub AddedAs : Added → Lent → Side → ℕ → ℕ → Type 0
AddedAs (Behind shared from) p side k row =
    (from ≤ length (brings (pattern_of p) side row)) × RestOf p side k shared (drop from (brings (pattern_of p) side row))
AddedAs Elsewhere p side k row = Unit
