-- The kept list of a step is laid into its side's stores from where it lies: what is handed to the calls, and what they leave.
use mathlib.Core.List.{List, [], ◌∷◌}
use mathlib.Core.Path.{◌≡◌, refl, ap, ◌∙◌}
use Prim.Native.Nat.{ℕ, ◌+◌, ◌-◌}
use native.Mathlib.Omega.{arith}
use lib.ListN.{length, take, drop, get_or, set}
use Rattle.foundation.specs.Pattern.{Lent, pattern_of}
use Rattle.foundation.specs.Plan.{Side, lower, upper, brings}
use Rattle.foundation.specs.PlanCall.{SideStores}
use Rattle.answers.specs.Stores.{side_stores}
use Rattle.plan_gather.specs.Ready.{lent_by, plan_of}
use Rattle.plan_gather.specs.Contains.{used}
use Rattle.plan_gather.specs.Gathering.{without, GrownIn}
use Rattle.plan_gather.specs.Steps.{SideAt, kept_steps}
use Rattle.plan_lists.specs.declared.lying.Lies.{Lies}
use Rattle.plan_lists.specs.declared.lying.Lies.TheVariants.{Grown, Row, Sole, Behind}
use Rattle.plan_lists.specs.Lying.{BroughtAlone, OfSole, AddedBehind}
use Rattle.plan_share.specs.Adding.{NewList, RestOf, Writable, Written}
use Rattle.plan_share.specs.Sole.{SoleReady, sole_start, sole_slots}
use Rattle.plan_share.specs.declared.write.Placed.{Placed}
use Rattle.plan_share.proofs.Adding.{rest_writable, new-grown}
use Rattle.plan_lists.proofs.Whole.{whole-sole, whole-behind, whole_row, whole-grown, grown-not-sole, met-not-sole}
use Rattle.plan_lists.proofs.Reading.{ColumnsRead, new_brought, columns-from, columns_all as row_columns}
use Rattle.plan_lay.specs.Filled.{Filled}
use Rattle.plan_lay.specs.Placing.{Layable, PlacedAs}
use Rattle.plan_lay.proofs.Filled.{filled_at}
use Rattle.plan_lay.proofs.Placing.{rest-placed, follows, followed}

-- ---- by where the list lies

module _ {lies : Lies} {p : Lent} {side : Side} {n k row : ℕ} {growing : List ℕ} {i : SideStores} {end : ℕ}
    (h : Layable lies p side n k row growing (length i.subs) i end) where
  -- the stores contain the lists of the steps before k
  laid_at : SideAt p side n k i end
  laid_at = filled_at h.step h.filled h.end_is

  -- the list of a sole step is shared
  module _ {l : ℕ} (told : lies ≡ Sole l) where
    of_sole : OfSole p side k l (kept_steps p side k)
    of_sole = whole-sole h.whole told

    pub sole-read : SoleReady k l i.starts i.slot_starts
    sole-read = follows h.step of_sole h.filled

    pub sole-laid :
        {starts' slots' : List ℕ}
        → (starts' ≡ set i.starts (k - 1) (sole_start l i.starts i.slot_starts end)) × (slots' ≡ set i.slot_starts k (sole_slots k l i.slot_starts))
        → (end ≡ used (plan_of p) side k) × Filled (plan_of p) side n k (length i.subs) (side_stores i.subs starts' slots')
    sole-laid left = followed h.step of_sole h.filled h.end_is left

  -- so many members stand at the store's end, and what the row brings from a place on follows them
  module _ {shared from : ℕ} (told : lies ≡ Behind shared from) where
    pub behind : AddedBehind p side k row shared from (kept_steps p side k)
    behind = whole-behind h.whole told

    module _ {rest : List ℕ} (is : rest ≡ drop from (brings (pattern_of p) side row)) where
      rest_of : RestOf p side k shared rest
      rest_of = rw is behind.rest

      pub behind_writable : Writable k shared rest i end
      behind_writable = rest_writable laid_at (met-not-sole p k behind.rows) rest_of

      pub behind-laid :
          (r : Placed) (subs' starts' slots' : List ℕ) → length subs' ≡ length i.subs
          → Written r k shared rest i (side_stores subs' starts' slots') end → PlacedAs r p side n k (length i.subs) (side_stores subs' starts' slots')
      behind-laid = rest-placed laid_at h.filled (met-not-sole p k behind.rows) rest_of

  -- what the one row first met brings, less k, is the list
  module _ (told : lies ≡ Row) where
    pub alone : BroughtAlone p side k row (kept_steps p side k)
    alone = whole_row h.whole told

    pub row_new : {new : List ℕ} → new ≡ without k (brings (pattern_of p) side row) → NewList p side n k new i end
    row_new is = new_brought laid_at alone is

  -- the list has grown at the front of its store
  module _ {count : ℕ} (told : lies ≡ Grown count) where
    pub grown : GrownIn p.height count growing (kept_steps p side k)
    grown = whole-grown h.whole told

    pub grown-new : NewList p side n k (take (count - 0) growing) i end
    grown-new = new-grown laid_at (grown-not-sole h.whole told) grown

-- ---- what a row brings to L: itself

module _ {lies : Lies} {p : Lent} {n k row : ℕ} {growing : List ℕ} {i : SideStores} {end : ℕ}
    (h : Layable lies p lower n k row growing (length i.subs) i end) where
  -- it is the list, or k
  pub own_new : lies ≡ Row → {new : List ℕ} → new ≡ without k (row ∷ []) → NewList p lower n k new i end
  unfolding brings
  own_new told is = row_new h told is

  module _ {shared from : ℕ} (told : lies ≡ Behind shared from) where
    -- it is added
    pub own_added : from ≡ 0 → row ∷ [] ≡ drop from (brings (pattern_of p) lower row)
    unfolding brings
    own_added e = rw e

    -- nothing is added
    pub own-stands : (from ≡ 0 → ⊥) → [] ≡ drop from (brings (pattern_of p) lower row)
    unfolding brings
    own-stands e = let inside = (behind h told).inside in let one : from ≡ 1 = omega arith in rw one

-- ---- what a row brings to U: its columns

module _ (n : ℕ) (starts columns : List ℕ) {lies : Lies} {k row : ℕ} {growing : List ℕ} {i : SideStores} {end : ℕ}
    (h : Layable lies (lent_by n starts columns) upper n k row growing (length i.subs) i end) where
  -- what follows the members that stand at the store's end
  pub columns-behind :
      {shared from : ℕ} → lies ≡ Behind shared from
      → ColumnsRead starts columns row (get_or starts (row - 1) 0 + from) (drop from (brings (pattern_of (lent_by n starts columns)) upper row))
  columns-behind {from = from} told =
      let b = behind h told in columns-from n starts columns k row from _ h.step b.rows b.inside refl

  -- the whole row
  pub columns_all : lies ≡ Row → ColumnsRead starts columns row (get_or starts (row - 1) 0) (brings (pattern_of (lent_by n starts columns)) upper row)
  columns_all told = row_columns n starts columns h.step (alone h told)

  -- it is the list, or begins with k
  pub columns-new :
      lies ≡ Row → {new : List ℕ} → new ≡ without k (take (get_or starts row 0 - get_or starts (row - 1) 0) (drop (get_or starts (row - 1) 0) columns))
      → NewList (lent_by n starts columns) upper n k new i end
  columns-new told is = row_new h told (is ∙ ap (without k) (columns_all told).is)
