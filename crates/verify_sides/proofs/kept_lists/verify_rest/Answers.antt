-- `verify_rest` meets its contract: the start, the end of the slots and the rest of the list stand as they should, or one does not.
use mathlib.Core.Bool.{false≢true}
use mathlib.Core.Path.{refl, sym, ◌∙◌}
use native.Mathlib.Nat.{le_refl}
use native.Mathlib.Omega.{arith}
use borrow.Author.Rules.{scaled_Fits, Fits-under}
use borrow.Author.Tests.{not-true, not-false}
use Rattle.lists.proofs.Small.{before-fits, before_below, before_size}
use Rattle.lists.proofs.Members.{same_equal, equal_same}
use Rattle.plan_share.proofs.Sharing.{rest-small}
use Rattle.verify_sides.proofs.Verifying.{sum_fits}
use Rattle.verify_sides.proofs.kept_lists.verify_rest.Goals as goal

pub overflow_sub-k : goal.overflow_sub-k
overflow_sub-k c = c.requires.step

pub offset_bounds-starts-k : goal.offset_bounds-starts-k
offset_bounds-starts-k c = scaled_Fits _ _ _ (before_size c.requires.step c.requires.starts_size refl) c.well_formed.1.1.1.1.0.1

pub bounds-starts-k : goal.bounds-starts-k
bounds-starts-k c = before_size c.requires.step c.requires.starts_size refl

pub overflow_sub-at : goal.overflow_sub-at
overflow_sub-at c = c.requires.shared_end_lem

-- by arithmetic, whichever test of the start comes out so: code that tests it less is refused for what it accepts
pub returns-then-starts-k : goal.returns-then-starts-k
returns-then-starts-k c = λ start slots rest. omega (arith, c.if-starts-k.true, start)

pub offset_bounds-slots-k : goal.offset_bounds-slots-k
offset_bounds-slots-k c = scaled_Fits _ _ _ c.requires.slots_size c.well_formed.1.1.1.1.1.0.1

pub bounds-slots-k : goal.bounds-slots-k
bounds-slots-k c = c.requires.slots_size

pub overflow_sub-k-2 : goal.overflow_sub-k-2
overflow_sub-k-2 c = c.requires.step

pub offset_bounds-slots-k-2 : goal.offset_bounds-slots-k-2
offset_bounds-slots-k-2 c = before-fits c.requires.slots_size c.well_formed.1.1.1.1.1.0.1

pub bounds-slots-k-2 : goal.bounds-slots-k-2
bounds-slots-k-2 c = before_below c.requires.slots_size

pub overflow_add-shared : goal.overflow_add-shared
overflow_add-shared c = rest-small _ _ c.requires.small

pub overflow_add-slots : goal.overflow_add-slots
overflow_add-slots c = Fits-under _ _ _ c.requires.small tt

pub returns-then-slots-k : goal.returns-then-slots-k
returns-then-slots-k c = λ start slots rest. c.if-slots-k.true slots

pub returns-then-not-stands_at : goal.returns-then-not-stands_at
returns-then-not-stands_at c a b d = false≢true (sym (not-true _ c.if-not-stands_at.true-raw) ∙ c.stands_at.ensures ∙ equal_same _ _ d)

pub overflow_add-result : goal.overflow_add-result
overflow_add-result c = sum_fits c.requires.end_inside c.well_formed.1.1.1.0.1 (le_refl _) c.well_formed.1.1.0.1

pub returns : goal.returns
returns c = (
  refl,
  c.if-starts-k.false,
  c.if-slots-k.false,
  same_equal _ _ (sym c.stands_at.ensures ∙ not-false _ c.if-not-stands_at.false-raw),
)
