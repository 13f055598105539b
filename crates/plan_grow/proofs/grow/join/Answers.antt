-- `join` meets its contract: a list that only adds behind the end of what is grown is written there; any other is merged with it in place.
use Prim.Native.Nat.{zero-le}
use native.Mathlib.Nat.{le_refl}
use native.Mathlib.Omega.{arith}
use Rattle.lists.proofs.Small.{still_inside}
use Rattle.plan_grow.proofs.Growing.{merge_room, merge_grown, behind-room, behind-grown}
use Rattle.plan_grow.proofs.grow.join.Goals as goal

pub slice_bounds-search_behind-count : goal.slice_bounds-search_behind-count
slice_bounds-search_behind-count c = zero-le

pub slice_bounds-search_behind-start : goal.slice_bounds-search_behind-start
slice_bounds-search_behind-start c = zero-le

pub slice_bounds-search_behind-end : goal.slice_bounds-search_behind-end
slice_bounds-search_behind-end c = still_inside c.requires.2.fits c.requires.2.store_size

pub offset_bounds-comes-at : goal.offset_bounds-comes-at
offset_bounds-comes-at c =
    let told = rw c.in-Some.is at c.search_behind.ensures in
    let inside = told.0 in
    omega arith

pub slice_bounds-append-count : goal.slice_bounds-append-count
slice_bounds-append-count c = let told = rw c.in-Some.is at c.search_behind.ensures in told.0

pub slice_bounds-append-start : goal.slice_bounds-append-start
slice_bounds-append-start c = let told = rw c.in-Some.is at c.search_behind.ensures in told.0

pub slice_bounds-append-end : goal.slice_bounds-append-end
slice_bounds-append-end c = le_refl _

pub append-requires : goal.append-requires
append-requires c =
    behind-room c.requires.2 c.requires.3 c.requires.4 c.after_first-comes.ensures _
    (rw c.in-Some.is at c.search_behind.ensures)

pub returns-in-Some : goal.returns-in-Some
returns-in-Some c =
    let a = c.append in
    behind-grown c.requires.2 c.requires.3 c.requires.4 c.after_first-comes.ensures _
    (rw c.in-Some.is at c.search_behind.ensures)
    a.auto.out a.ensures

pub merge_in-requires : goal.merge_in-requires
merge_in-requires c = merge_room c.requires.2 c.requires.3 c.requires.4 c.after_first-comes.ensures

pub returns : goal.returns
returns c =
    let m = c.merge_in in
    merge_grown c.requires.2 c.requires.3 c.requires.4 c.after_first-comes.ensures m.auto.store m.ensures
