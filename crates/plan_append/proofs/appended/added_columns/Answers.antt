-- `added_columns` meets its contract: the list of the step before and the row's columns both begin with k, and the rest of them is held against each other.
use mathlib.Core.Path.{refl}
use native.Mathlib.Omega.{arith}
use native.Mathlib.Nat.{le_refl, le_trans}
use borrow.Author.Rules.{scaled_Fits}
use Rattle.lists.proofs.Small.{place_fits, before-fits, before_below}
use Rattle.plan_gather.proofs.Joining.{part_is}
use Rattle.plan_append.specs.declared.appended.Added.TheVariants.{Behind}
use Rattle.plan_append.proofs.Joining.{added_as, last_asks, last_begins, last_inside, led_joined, led_row, next_fits}
use Rattle.plan_append.proofs.appended.added_columns.Goals as goal

pub last_list-requires : goal.last_list-requires
last_list-requires c =
    let pre = c.requires in
    last_asks pre.joins_last.later pre.side_at c.well_formed.1.1.1.1.1.0.1

pub list_at-last-requires : goal.list_at-last-requires
list_at-last-requires c =
    let pre = c.requires in
    let last = rw c.in-Members.is at c.last_list.ensures in
    last_inside pre.joins_last.later pre.side_at last.0

pub slice_bounds-have-count : goal.slice_bounds-have-count
slice_bounds-have-count c =
    let j = c.requires.joins_last in
    let at = c.requires.side_at in
    let last = rw c.in-Members.is at c.last_list.ensures in
    (last_begins j at last.0 c.list_at-last.ensures).some

pub slice_bounds-have-start : goal.slice_bounds-have-start
slice_bounds-have-start c = slice_bounds-have-count c

pub slice_bounds-have-end : goal.slice_bounds-have-end
slice_bounds-have-end c = le_refl _

pub overflow_sub-from : goal.overflow_sub-from
overflow_sub-from c = (led_row c.requires.joins_last).read.low

pub offset_bounds-starts-row : goal.offset_bounds-starts-row
offset_bounds-starts-row c = before-fits (led_row c.requires.joins_last).read.in_starts c.well_formed.1.1.1.0.1

pub bounds-starts-row : goal.bounds-starts-row
bounds-starts-row c = before_below (led_row c.requires.joins_last).read.in_starts

pub overflow_add-from : goal.overflow_add-from
overflow_add-from c =
    let row = led_row c.requires.joins_last in
    omega (arith, row.rising, row.read.inside, c.well_formed.1.1.1.1.0.1)

pub offset_bounds-starts-row-2 : goal.offset_bounds-starts-row-2
offset_bounds-starts-row-2 c = scaled_Fits _ _ _ (led_row c.requires.joins_last).read.in_starts c.well_formed.1.1.1.0.1

pub bounds-starts-row-2 : goal.bounds-starts-row-2
bounds-starts-row-2 c = (led_row c.requires.joins_last).read.in_starts

pub offset_bounds-columns-from : goal.offset_bounds-columns-from
offset_bounds-columns-from c =
    let row = led_row c.requires.joins_last in
    place_fits (le_trans row.rising row.read.inside) c.well_formed.1.1.1.1.0.1

pub slice_bounds-search_behind-count : goal.slice_bounds-search_behind-count
slice_bounds-search_behind-count c = (led_row c.requires.joins_last).rising

pub slice_bounds-search_behind-start : goal.slice_bounds-search_behind-start
slice_bounds-search_behind-start c = (led_row c.requires.joins_last).rising

pub slice_bounds-search_behind-end : goal.slice_bounds-search_behind-end
slice_bounds-search_behind-end c = (led_row c.requires.joins_last).read.inside

pub overflow_add-result : goal.overflow_add-result
overflow_add-result c =
    let told = rw c.in-Some.is at c.search_behind.ensures in
    next_fits (led_row c.requires.joins_last) c.well_formed.1.1.1.1.0.1 told.0

pub returns : goal.returns
returns c =
    let list_at = c.list_at-last in
    let j = c.requires.joins_last in
    let at = c.requires.side_at in
    let last = rw c.in-Members.is at c.last_list.ensures in
    let told = rw c.in-Some.is at c.search_behind.ensures in
    let row = led_row j in
    added_as (Behind _ _) _ _ j at last.0 last.1 list_at.ensures refl
    (led_joined _ _ _ _ _ _ (last_begins j at last.0 list_at.ensures) row.led_by (part_is list_at.result.now 1) row.rest told)
