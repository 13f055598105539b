-- `find_upper` meets its contract: the list of U_k is looked for, wherever it lies.
use Prim.Native.Nat.{◌-◌, zero-le}
use lib.ListN.{get_or}
use mathlib.Core.Path.{ap, ◌∙◌}
use native.Mathlib.Omega.{arith}
use borrow.Author.Rules.{scaled_Fits}
use borrow.Author.Tests.{not-true, not-false}
use Rattle.lists.proofs.Small.{before-fits, before_below, still_inside, part_fits}
use Rattle.foundation.specs.Pattern.{pattern_of}
use Rattle.foundation.specs.Plan.{upper, brings}
use Rattle.plan_gather.specs.Ready.{lent_by}
use Rattle.plan_gather.specs.Gathering.{without}
use Rattle.plan_share.proofs.Adding.{rest_writable, new-grown}
use Rattle.plan_lists.proofs.Whole.{whole-sole, whole-behind, whole_row, whole-grown, grown-not-sole}
use Rattle.plan_lists.proofs.Reading.{ColumnsRead, new_brought, columns_all}
use Rattle.verify_sides.proofs.Reading.{behind-not-sole, RestRead, columns-rest}
use Rattle.verify_sides.proofs.Verifying.{rest_verified, sole-asks, sole_differs, sole-agrees}
use Rattle.verify_sides.proofs.finding.find_upper.Goals as goal
use Rattle.verify_sides.proofs.finding.find_upper.Lts as lts
use Rattle.verify_sides.proofs.finding.find_upper.Reads as reads
use Rattle.verify_sides.proofs.finding.find_upper.Tie as tie

abbrev In-Behind : Type 0
In-Behind = lts.Past-After-known_told2 tie.the-claims reads.Pre reads.Post

abbrev In-Row : Type 0
In-Row = lts.Past-After-enum_told tie.the-claims reads.Pre reads.Post

pub sole_followed-requires : goal.sole_followed-requires
sole_followed-requires c =
    let (at, whole) = c.requires in
    sole-asks at (whole-sole whole c.in-Sole.is)

pub returns-then-not-sole_followed : goal.returns-then-not-sole_followed
returns-then-not-sole_followed c =
    let (at, whole) = c.requires in
    sole_differs at (whole-sole whole c.in-Sole.is) c.sole_followed.ensures (not-true _ c.if-not-sole_followed.true-raw)

pub returns-else-not-sole_followed : goal.returns-else-not-sole_followed
returns-else-not-sole_followed c =
    let (at, whole) = c.requires in
    sole-agrees at (whole-sole whole c.in-Sole.is) c.sole_followed.ensures (not-false _ c.if-not-sole_followed.false-raw)

behind-read :
    (c : In-Behind)
    → RestRead c.args.n c.args.starts.now c.args.columns.now c.args.k
    c.in-Behind.shared c.in-Behind.from c.args.row
behind-read c =
    let (at, whole) = c.requires in
    columns-rest at.step (whole-behind whole c.in-Behind.is)

pub overflow_sub-first : goal.overflow_sub-first
overflow_sub-first c = (behind-read c.before).low

pub offset_bounds-starts-row : goal.offset_bounds-starts-row
offset_bounds-starts-row c = before-fits (behind-read c.before).high c.well_formed.1.1.1.1.0.1

pub bounds-starts-row : goal.bounds-starts-row
bounds-starts-row c = before_below (behind-read c.before.before).high

-- by arithmetic here and below, whatever is added: code that adds another number is refused for the columns that it looks for
pub overflow_add-first : goal.overflow_add-first
overflow_add-first c =
    let read = behind-read c.before.before in
    omega (arith, read)

pub offset_bounds-starts-row-in-Behind : goal.offset_bounds-starts-row-in-Behind
offset_bounds-starts-row-in-Behind c = scaled_Fits _ _ _ (behind-read c.before.before).high c.well_formed.1.1.1.1.0.1

pub bounds-starts-row-in-Behind : goal.bounds-starts-row-in-Behind
bounds-starts-row-in-Behind c = (behind-read c.before.before.before).high

pub offset_bounds-columns-first : goal.offset_bounds-columns-first
offset_bounds-columns-first c =
    let read = behind-read c.before.before.before in
    omega (arith, read)

pub slice_bounds-verify_rest-count : goal.slice_bounds-verify_rest-count
slice_bounds-verify_rest-count c =
    let read = behind-read c.before.before.before in
    omega (arith, read)

pub slice_bounds-verify_rest-start : goal.slice_bounds-verify_rest-start
slice_bounds-verify_rest-start c =
    let read = behind-read c.before.before.before in
    omega (arith, read)

pub slice_bounds-verify_rest-end : goal.slice_bounds-verify_rest-end
slice_bounds-verify_rest-end c = (behind-read c.before.before.before).inside

pub verify_rest-requires : goal.verify_rest-requires
verify_rest-requires c =
    let (at, whole) = c.requires in
    rest_writable at (behind-not-sole (whole-behind whole c.in-Behind.is)) (behind-read c.before.before.before.before).found

pub returns-in-Behind : goal.returns-in-Behind
returns-in-Behind c =
    let (at, whole) = c.requires in
    rest_verified at (behind-not-sole (whole-behind whole c.in-Behind.is)) (behind-read c.before.before.before.before.before).found c.verify_rest.result
    c.verify_rest.ensures

read :
    (c : In-Row)
    → ColumnsRead c.args.starts.now c.args.columns.now c.args.row (get_or c.args.starts.now (c.args.row - 1) 0)
    (brings (pattern_of (lent_by c.args.n c.args.starts.now c.args.columns.now)) upper c.args.row)
read c =
    let (at, whole) = c.requires in
    columns_all _ _ _ at.step (whole_row whole c.in-Row.is)

pub overflow_sub-first-in-Row : goal.overflow_sub-first-in-Row
overflow_sub-first-in-Row c = (read c.before).low

pub offset_bounds-starts-row-in-Row : goal.offset_bounds-starts-row-in-Row
offset_bounds-starts-row-in-Row c = before-fits (read c.before).in_starts c.well_formed.1.1.1.1.0.1

pub bounds-starts-row-in-Row : goal.bounds-starts-row-in-Row
bounds-starts-row-in-Row c = before_below (read c.before.before).in_starts

pub offset_bounds-starts-row-in-Row-2 : goal.offset_bounds-starts-row-in-Row-2
offset_bounds-starts-row-in-Row-2 c = scaled_Fits _ _ _ (read c.before.before).in_starts c.well_formed.1.1.1.1.0.1

pub bounds-starts-row-in-Row-2 : goal.bounds-starts-row-in-Row-2
bounds-starts-row-in-Row-2 c = (read c.before.before.before).in_starts

pub offset_bounds-columns-first-in-Row : goal.offset_bounds-columns-first-in-Row
offset_bounds-columns-first-in-Row c =
    part_fits ((read c.before.before.before).rising, (read c.before.before.before).inside) c.well_formed.1.1.1.1.1.0.1

pub slice_bounds-after_first-count : goal.slice_bounds-after_first-count
slice_bounds-after_first-count c = (read c.before.before.before).rising

pub slice_bounds-after_first-start : goal.slice_bounds-after_first-start
slice_bounds-after_first-start c = (read c.before.before.before).rising

pub slice_bounds-after_first-end : goal.slice_bounds-after_first-end
slice_bounds-after_first-end c = (read c.before.before.before).inside

pub verify_list-requires : goal.verify_list-requires
verify_list-requires c =
    let (at, whole) = c.requires in
    (_, _, new_brought at (whole_row whole c.in-Row.is) (c.after_first.ensures ∙ ap (without _) (read c.before.before.before.before.before).is))

pub returns-in-Row : goal.returns-in-Row
returns-in-Row c =
    let (at, whole) = c.requires in
    c.verify_list.ensures _ _ (new_brought at (whole_row whole c.in-Row.is) (c.after_first.ensures ∙ ap (without _) (read c.before.before.before.before.before.before).is))

pub slice_bounds-verify_list-count : goal.slice_bounds-verify_list-count
slice_bounds-verify_list-count c = zero-le

pub slice_bounds-verify_list-start : goal.slice_bounds-verify_list-start
slice_bounds-verify_list-start c = zero-le

pub slice_bounds-verify_list-end : goal.slice_bounds-verify_list-end
slice_bounds-verify_list-end c =
    let (at, whole) = c.requires in
    let grown = whole-grown whole c.in-Grown.is in
    still_inside grown.fits grown.store_size

pub verify_list-requires-in-Grown : goal.verify_list-requires-in-Grown
verify_list-requires-in-Grown c =
    let (at, whole) = c.requires in
    (_, _, new-grown at (grown-not-sole whole c.in-Grown.is) (whole-grown whole c.in-Grown.is))

pub returns-in-Grown : goal.returns-in-Grown
returns-in-Grown c =
    let (at, whole) = c.requires in
    c.verify_list-in-Grown.ensures _ _
    (new-grown at (grown-not-sole whole c.in-Grown.is) (whole-grown whole c.in-Grown.is))
