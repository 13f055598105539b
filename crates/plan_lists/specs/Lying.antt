-- Where the lists of the step at hand lie, and what each place says of its list.
use Rattle.std.specs.Prelude.{List, [], ◌∷◌, ◌≡◌, ℕ, ◌≤◌, ◌<◌, length, drop}
use Rattle.foundation.specs.Pattern.{Lent, pattern_of}
use Rattle.foundation.specs.Plan.{Side, lower, upper, brings, InStep, so_far, after_steps}
use Rattle.foundation.specs.Subscripts.{kept, sole_step}
use Rattle.plan_gather.specs.Ready.{plan_of}
use Rattle.plan_gather.specs.Gathering.{without, omit, GrownIn}
use Rattle.plan_gather.specs.Steps.{counted_reads, kept_steps}
use Rattle.plan_share.specs.Adding.{RestOf}
use Rattle.plan_lists.specs.declared.lying.Lies.{Lies}
use Rattle.plan_lists.specs.declared.lying.Lies.TheVariants.{Grown, Row, Sole, Behind}
use Rattle.plan_lists.specs.declared.lying.Lists.{Lists}

-- one row is first met at k, and xs is what it brings
pub record BroughtAlone (p : Lent) (side : Side) (k row : ℕ) (xs : List ℕ) : Type 0 where
  pub rows : (plan_of p).first_met k ≡ row ∷ []
  pub is : xs ≡ without k (brings (pattern_of p) side row)

-- no row is first met at k, S_k is the one step l, and xs is its list less k
pub record OfSole (p : Lent) (side : Side) (k l : ℕ) (xs : List ℕ) : Type 0 where
  pub some : 0 < l
  pub sole : sole_step (plan_of p) k ≡ l
  pub is : xs ≡ without k (kept (plan_of p) side l)

-- One row is first met at k, and xs is the kept list of k: as many of its members as `shared` says stand at the end of its side's store, and what the row brings from
-- `from` on is to follow them.
pub record AddedBehind (p : Lent) (side : Side) (k row shared from : ℕ) (xs : List ℕ) : Type 0 where
  pub rows : (plan_of p).first_met k ≡ row ∷ []
  pub inside : from ≤ length (brings (pattern_of p) side row)
  pub rest : RestOf p side k shared (drop from (brings (pattern_of p) side row))
  pub is : xs ≡ kept (plan_of p) side k

-- xs lies where it is said
abbrev pub LiesAs : Lies → Lent → Side → (k row : ℕ) → (growing xs : List ℕ) → Type 0
LiesAs (Grown count) p side k row growing xs = GrownIn p.height count growing xs
LiesAs Row p side k row growing xs = BroughtAlone p side k row xs
LiesAs (Sole l) p side k row growing xs = OfSole p side k l xs
LiesAs (Behind shared from) p side k row growing xs = AddedBehind p side k row shared from xs

-- Both lists of step k without k itself, as they are where planning stands as t says, lie where it is said; the columns up to `read` are read (`counted_reads`).
pub record ListsAt (lists : Lists) (p : Lent) (k row : ℕ) (t : InStep) (read : ℕ) (lowers uppers : List ℕ) : Type 0 where
  pub lower_size : length lowers ≡ p.height
  pub upper_size : length uppers ≡ p.height
  pub lower_lies : LiesAs lists.lower p lower k row lowers (omit k (so_far t lower))
  pub upper_lies : LiesAs lists.upper p upper k row uppers (omit k (so_far t upper))
  pub counted : lists.reads ≡ counted_reads p t.known read

-- a list that has grown is not that of a sole step, which is shared
abbrev pub GrownAlone : Lies → Lent → ℕ → Type 0
GrownAlone (Grown count) p k = sole_step (plan_of p) k ≡ 0
GrownAlone Row p k = Unit
GrownAlone (Sole l) p k = Unit
GrownAlone (Behind shared from) p k = Unit

-- The kept list of step k is whole, and lies where it is said.
pub record WholeAt (lies : Lies) (p : Lent) (side : Side) (k row : ℕ) (growing : List ℕ) : Type 0 where
  pub lies_there : LiesAs lies p side k row growing (kept_steps p side k)
  pub alone : GrownAlone lies p k

-- Both lists of step k are whole, after the report's 2.4 or where it was passed over.
pub record ListsWhole (lists : Lists) (p : Lent) (k row : ℕ) (lowers uppers : List ℕ) : Type 0 where
  pub at : ListsAt lists p k row (after_steps (pattern_of p) k) k lowers uppers
  pub lower_alone : GrownAlone lists.lower p k
  pub upper_alone : GrownAlone lists.upper p k
