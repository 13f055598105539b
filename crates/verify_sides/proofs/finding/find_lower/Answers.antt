-- `find_lower` meets its contract: the list of L_k is looked for, wherever it lies.
use Prim.Native.Nat.{zero-le}
use native.Mathlib.Nat.{le_refl}
use native.Mathlib.Omega.{arith}
use borrow.Author.Tests.{not-true, not-false}
use Rattle.lists.proofs.Small.{still_inside}
use Rattle.plan_share.proofs.Adding.{rest_writable, new-grown}
use Rattle.plan_lists.proofs.Whole.{whole-sole, whole-behind, whole_row, whole-grown, grown-not-sole}
use Rattle.plan_lists.proofs.Reading.{new-own}
use Rattle.verify_sides.proofs.Reading.{behind-not-sole, own-rest}
use Rattle.verify_sides.proofs.Verifying.{rest_verified, sole-asks, sole_differs, sole-agrees}
use Rattle.verify_sides.proofs.finding.find_lower.Goals as goal

pub sole_followed-requires : goal.sole_followed-requires
sole_followed-requires c =
    let (p, at, whole) = c.requires in
    sole-asks at (whole-sole whole c.in-Sole.is)

pub returns-then-not-sole_followed : goal.returns-then-not-sole_followed
returns-then-not-sole_followed c =
    λ p at whole.
    sole_differs at (whole-sole whole c.in-Sole.is) c.sole_followed.ensures (not-true _ c.if-not-sole_followed.true-raw)

pub returns-else-not-sole_followed : goal.returns-else-not-sole_followed
returns-else-not-sole_followed c =
    λ p at whole.
    sole-agrees at (whole-sole whole c.in-Sole.is) c.sole_followed.ensures (not-false _ c.if-not-sole_followed.false-raw)

pub offset_bounds-own-from : goal.offset_bounds-own-from
offset_bounds-own-from c =
    let (p, at, whole) = c.requires in
    let few = (own-rest (whole-behind whole c.in-Behind.is)).0 in
    omega (arith, few)

pub slice_bounds-verify_rest-count : goal.slice_bounds-verify_rest-count
slice_bounds-verify_rest-count c =
    let (p, at, whole) = c.requires in
    (own-rest (whole-behind whole c.in-Behind.is)).0

pub slice_bounds-verify_rest-start : goal.slice_bounds-verify_rest-start
slice_bounds-verify_rest-start c =
    let (p, at, whole) = c.requires in
    (own-rest (whole-behind whole c.in-Behind.is)).0

pub slice_bounds-verify_rest-end : goal.slice_bounds-verify_rest-end
slice_bounds-verify_rest-end c = le_refl _

pub verify_rest-requires : goal.verify_rest-requires
verify_rest-requires c =
    let (p, at, whole) = c.requires in
    let behind = whole-behind whole c.in-Behind.is in
    rest_writable at (behind-not-sole behind) (own-rest behind).1

pub returns-in-Behind : goal.returns-in-Behind
returns-in-Behind c =
    λ p at whole.
    let behind = whole-behind whole c.in-Behind.is in
    rest_verified at (behind-not-sole behind) (own-rest behind).1 c.verify_rest.result c.verify_rest.ensures

pub verify_list-requires : goal.verify_list-requires
verify_list-requires c =
    let (p, at, whole) = c.requires in
    (_, _, new-own at (whole_row whole c.in-Row.is) c.after_first.ensures)

pub returns-in-Row : goal.returns-in-Row
returns-in-Row c =
    λ p at whole.
    c.verify_list.ensures _ _ (new-own at (whole_row whole c.in-Row.is) c.after_first.ensures)

pub slice_bounds-verify_list-count : goal.slice_bounds-verify_list-count
slice_bounds-verify_list-count c = zero-le

pub slice_bounds-verify_list-start : goal.slice_bounds-verify_list-start
slice_bounds-verify_list-start c = zero-le

pub slice_bounds-verify_list-end : goal.slice_bounds-verify_list-end
slice_bounds-verify_list-end c =
    let (p, at, whole) = c.requires in
    let grown = whole-grown whole c.in-Grown.is in
    still_inside grown.fits grown.store_size

pub verify_list-requires-in-Grown : goal.verify_list-requires-in-Grown
verify_list-requires-in-Grown c =
    let (p, at, whole) = c.requires in
    (_, _, new-grown at (grown-not-sole whole c.in-Grown.is) (whole-grown whole c.in-Grown.is))

pub returns-in-Grown : goal.returns-in-Grown
returns-in-Grown c =
    λ p at whole.
    c.verify_list-in-Grown.ensures _ _
    (new-grown at (grown-not-sole whole c.in-Grown.is) (whole-grown whole c.in-Grown.is))
