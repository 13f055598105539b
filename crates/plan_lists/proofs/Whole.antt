-- What is known of a whole list by where it is said to lie.
use mathlib.Core.List.{List, ◌∷◌}
use mathlib.Core.Path.{◌≡◌, refl, sym}
use Prim.Native.Nat.{ℕ}
use native.Mathlib.Omega.{arith}
use Rattle.lists.specs.Functions.{empty}
use Rattle.foundation.specs.Pattern.{Lent}
use Rattle.foundation.specs.Plan.{Side, lower, upper}
use Rattle.foundation.specs.Subscripts.{sole_step}
use Rattle.plan_gather.specs.Ready.{plan_of}
use Rattle.plan_gather.specs.Gathering.{GrownIn}
use Rattle.plan_gather.specs.Steps.{kept_steps}
use Rattle.plan_lists.specs.declared.lying.Lies.{Lies}
use Rattle.plan_lists.specs.declared.lying.Lies.TheVariants.{Grown, Row, Sole, Behind}
use Rattle.plan_lists.specs.declared.lying.Lists.{Lists}
use Rattle.plan_lists.specs.Lying.{BroughtAlone, OfSole, AddedBehind, WholeAt, ListsWhole}

-- each of two whole lists is whole
module _ {lists : Lists} {p : Lent} {k row : ℕ} {lowers uppers : List ℕ} (whole : ListsWhole lists p k row lowers uppers) where
  pub lower_whole : WholeAt lists.lower p lower k row lowers
  lower_whole = record { lies_there = whole.at.lower_lies; alone = whole.lower_alone }

  pub upper_whole : WholeAt lists.upper p upper k row uppers
  upper_whole = record { lies_there = whole.at.upper_lies; alone = whole.upper_alone }

module _ {lies : Lies} {p : Lent} {side : Side} {k row : ℕ} {growing : List ℕ} (whole : WholeAt lies p side k row growing) where
  -- in its side's store, as that of a sole step
  pub whole-sole : {l : ℕ} → lies ≡ Sole l → OfSole p side k l (kept_steps p side k)
  whole-sole e = rw e at whole.lies_there

  -- at that store's end, but for what a row adds
  pub whole-behind : {t from : ℕ} → lies ≡ Behind t from → AddedBehind p side k row t from (kept_steps p side k)
  whole-behind e = rw e at whole.lies_there

  -- in the pattern
  pub whole_row : lies ≡ Row → BroughtAlone p side k row (kept_steps p side k)
  whole_row e = rw e at whole.lies_there

  -- in its growing store
  pub whole-grown : {count : ℕ} → lies ≡ Grown count → GrownIn p.height count growing (kept_steps p side k)
  whole-grown e = rw e at whole.lies_there

  pub grown-not-sole : {count : ℕ} → lies ≡ Grown count → sole_step (plan_of p) k ≡ 0
  grown-not-sole e = rw e at whole.alone

-- where a row is first met, there is no sole step
pub met-not-sole : (p : Lent) (k : ℕ) {row : ℕ} {rows : List ℕ} → (plan_of p).first_met k ≡ row ∷ rows → sole_step (plan_of p) k ≡ 0
unfolding sole_step empty
met-not-sole p k e = rw e refl

-- the sole step, and that there is one
module _ {p : Lent} {side : Side} {k l : ℕ} {xs : List ℕ} (of : OfSole p side k l xs) where
  pub sole_is : l ≡ sole_step (plan_of p) k
  sole_is = sym of.sole

  pub sole-some : l ≡ 0 → ⊥
  sole-some e = omega (arith, of.some)
