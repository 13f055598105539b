-- `least_further` meets its contract: wherever the list lies, its first member is read, if it has one.
use mathlib.Core.Path.{sym, ◌∙◌}
use native.Mathlib.Omega.{arith}
use borrow.Author.Tests.{not-true, not-false}
use mir.Syntax.{w64}
use mir.Val.{Fits}
use Prim.Native.Nat.{ℕ, ◌+◌, ◌*◌, ◌^◌, ◌≤◌, ◌<◌}
use Rattle.lists.proofs.Small.{below_fits, index-fits, end_fits, before-fits, before_below}
use Rattle.foundation.specs.Pattern.{lent}
use Rattle.plan_gather.specs.Ready.{lent_by}
use Rattle.plan_sets.proofs.Further.{least-grown, least_none, alone-low, alone-starts, alone-inside, least-alone, upper_sole-low, upper_sole-slots}
use Rattle.plan_sets.proofs.Further.{upper_sole-starts, least-sole, sole_none}
use Rattle.plan_sets.proofs.Further.{behind-low, behind-starts, behind-inside, behind_end, least-shared, least_added}
use Rattle.plan_sets.proofs.updating.least_further.Goals as goal

-- the place behind one inside can be told
behind-fits : {a b n : ℕ} → a < b → b ≤ n → n * 8 < 2 ^ 63 → Fits w64 (a + 1)
behind-fits l within room = record { fits = omega arith }

pub returns-then-count-eq0 : goal.returns-then-count-eq0
unfolding lent_by lent
returns-then-count-eq0 c = least_none c.requires.side_at c.requires.whole_at c.in-Grown.is c.if-count-eq0.true

pub bounds-growing-0 : goal.bounds-growing-0
unfolding lent_by lent
bounds-growing-0 c = (least-grown c.requires.side_at c.requires.whole_at c.in-Grown.is c.if-count-eq0.false).inside

pub overflow_sub-at : goal.overflow_sub-at
unfolding lent_by lent
overflow_sub-at c = alone-low c.requires.side_at c.requires.whole_at c.in-Row.is

pub offset_bounds-starts-row : goal.offset_bounds-starts-row
unfolding lent_by lent
offset_bounds-starts-row c = before-fits (alone-starts c.requires.side_at c.requires.whole_at c.in-Row.is) c.well_formed.1.1.1.1.0.1

pub bounds-starts-row : goal.bounds-starts-row
unfolding lent_by lent
bounds-starts-row c = before_below (alone-starts c.requires.side_at c.requires.whole_at c.in-Row.is)

pub overflow_add-at : goal.overflow_add-at
unfolding lent_by lent
overflow_add-at c =
    let (some, within) = alone-inside c.requires.side_at c.requires.whole_at c.in-Row.is in
    behind-fits some within c.well_formed.1.1.1.1.1.0.1

pub column_at-requires : goal.column_at-requires
unfolding lent_by lent
column_at-requires c =
    let e = c.in-Row.is in
    (alone-starts c.requires.side_at c.requires.whole_at e, (alone-inside c.requires.side_at c.requires.whole_at e).1)

pub sole_further-requires : goal.sole_further-requires
unfolding lent_by lent
sole_further-requires c = upper_sole-slots c.requires.side_at c.requires.whole_at c.in-Sole.is

pub returns-then-not-sole_further : goal.returns-then-not-sole_further
unfolding lent_by lent
returns-then-not-sole_further c =
    sole_none c.requires.side_at c.requires.whole_at c.in-Sole.is (sym c.sole_further.ensures ∙ not-true _ c.if-not-sole_further.true-raw)

pub overflow_sub-at-in-Sole : goal.overflow_sub-at-in-Sole
unfolding lent_by lent
overflow_sub-at-in-Sole c = upper_sole-low c.requires.side_at c.requires.whole_at c.in-Sole.is

pub offset_bounds-list_starts-l : goal.offset_bounds-list_starts-l
unfolding lent_by lent
offset_bounds-list_starts-l c =
    index-fits (upper_sole-starts c.requires.side_at c.requires.whole_at c.in-Sole.is) c.well_formed.1.1.1.1.1.1.1.0.1

pub bounds-list_starts-l : goal.bounds-list_starts-l
unfolding lent_by lent
bounds-list_starts-l c = upper_sole-starts c.requires.side_at c.requires.whole_at c.in-Sole.is

pub overflow_add-at-in-Sole : goal.overflow_add-at-in-Sole
unfolding lent_by lent
overflow_add-at-in-Sole c =
    let further = sym c.sole_further.ensures ∙ not-false _ c.if-not-sole_further.false-raw in
    below_fits (least-sole c.requires.side_at c.requires.whole_at c.in-Sole.is further).inside c.well_formed.1.1.1.1.1.1.0.1

pub offset_bounds-subs-at : goal.offset_bounds-subs-at
unfolding lent_by lent
offset_bounds-subs-at c =
    let further = sym c.sole_further.ensures ∙ not-false _ c.if-not-sole_further.false-raw in
    index-fits (least-sole c.requires.side_at c.requires.whole_at c.in-Sole.is further).inside c.well_formed.1.1.1.1.1.1.0.1

pub bounds-subs-at : goal.bounds-subs-at
unfolding lent_by lent
bounds-subs-at c =
    let further = sym c.sole_further.ensures ∙ not-false _ c.if-not-sole_further.false-raw in
    (least-sole c.requires.side_at c.requires.whole_at c.in-Sole.is further).inside

pub overflow_sub-at-then-shared-gt0 : goal.overflow_sub-at-then-shared-gt0
unfolding lent_by lent
overflow_sub-at-then-shared-gt0 c = behind_end c.requires.side_at c.requires.whole_at c.in-Behind.is

pub offset_bounds-subs-at-then-shared-gt0 : goal.offset_bounds-subs-at-then-shared-gt0
unfolding lent_by lent
offset_bounds-subs-at-then-shared-gt0 c =
    index-fits (least-shared c.requires.side_at c.requires.whole_at c.in-Behind.is c.if-shared-gt0.true).inside c.well_formed.1.1.1.1.1.1.0.1

pub bounds-subs-at-then-shared-gt0 : goal.bounds-subs-at-then-shared-gt0
unfolding lent_by lent
bounds-subs-at-then-shared-gt0 c = (least-shared c.requires.side_at c.requires.whole_at c.in-Behind.is c.if-shared-gt0.true).inside

pub returns-then-shared-gt0 : goal.returns-then-shared-gt0
unfolding lent_by lent
returns-then-shared-gt0 c = (least-shared c.requires.side_at c.requires.whole_at c.in-Behind.is c.if-shared-gt0.true).is

pub overflow_sub-at-in-Behind : goal.overflow_sub-at-in-Behind
unfolding lent_by lent
overflow_sub-at-in-Behind c = behind-low c.requires.side_at c.requires.whole_at c.in-Behind.is

pub offset_bounds-starts-row-in-Behind : goal.offset_bounds-starts-row-in-Behind
unfolding lent_by lent
offset_bounds-starts-row-in-Behind c = before-fits (behind-starts c.requires.side_at c.requires.whole_at c.in-Behind.is) c.well_formed.1.1.1.1.0.1

pub bounds-starts-row-in-Behind : goal.bounds-starts-row-in-Behind
unfolding lent_by lent
bounds-starts-row-in-Behind c = before_below (behind-starts c.requires.side_at c.requires.whole_at c.in-Behind.is)

pub overflow_add-at-in-Behind : goal.overflow_add-at-in-Behind
unfolding lent_by lent
overflow_add-at-in-Behind c = end_fits (behind-inside c.requires.side_at c.requires.whole_at c.in-Behind.is).0 c.well_formed.1.1.1.1.1.0.1

pub column_at-requires-in-Behind : goal.column_at-requires-in-Behind
unfolding lent_by lent
column_at-requires-in-Behind c =
    let e = c.in-Behind.is in
    (behind-starts c.requires.side_at c.requires.whole_at e, (behind-inside c.requires.side_at c.requires.whole_at e).1)

pub returns-else-count-eq0 : goal.returns-else-count-eq0
unfolding lent_by lent
returns-else-count-eq0 c = (least-grown c.requires.side_at c.requires.whole_at c.in-Grown.is c.if-count-eq0.false).is

pub returns-in-Row : goal.returns-in-Row
unfolding lent_by lent
returns-in-Row c = c.column_at.ensures ∙ least-alone c.requires.side_at c.requires.whole_at c.in-Row.is

pub returns-else-not-sole_further : goal.returns-else-not-sole_further
unfolding lent_by lent
returns-else-not-sole_further c =
    let further = sym c.sole_further.ensures ∙ not-false _ c.if-not-sole_further.false-raw in
    (least-sole c.requires.side_at c.requires.whole_at c.in-Sole.is further).is

pub returns-else-shared-gt0 : goal.returns-else-shared-gt0
unfolding lent_by lent
returns-else-shared-gt0 c =
    c.column_at-in-Behind.ensures ∙ least_added c.requires.side_at c.requires.whole_at c.in-Behind.is c.if-shared-gt0.false
