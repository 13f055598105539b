-- `reduce_from` meets its contract, by a stretch or by gathering.
use mathlib.Core.Path.{refl, sym}
use Prim.Native.Nat.{◌+◌, ◌-◌}
use native.Mathlib.Nat.{le_refl, le_of_eq, le_of_lt, le-add_right}
use lib.ListN.{length}
use Rattle.lists.proofs.Small.{Placed, placed, next_le, still_inside, index-fits}
use Rattle.run_stretch.proofs.Crossings.{by_stretch, by_gathering, crossing_values, below_part, sum_fits, some_end, stretch_size, rest_size}
use Rattle.run_stretch.proofs.stretch.reduce_from.Goals as goal
use Rattle.run_stretch.proofs.stretch.reduce_from.Goals.{Start, Then-e-own}

-- where the two lists have the last member of the stretch
own-last : (c : Then-e-own) → Placed (length c.args.own.now) (c.args.o + length c.args.over.now)
own-last c =
    placed (some_end _ _ c.requires.3, c.if-e-own.true) refl c.well_formed.1.0.1

over_last : (s : Start) → Placed (length s.args.over.now) (length s.args.over.now)
over_last s = placed (next_le _ _ s.requires.3, le_refl _) refl s.well_formed.1.1.0.1

pub overflow_add-e : goal.overflow_add-e
overflow_add-e c = sum_fits _ _ c.requires.4 c.well_formed.1.0.1 c.well_formed.1.1.0.1

pub overflow_sub-e : goal.overflow_sub-e
overflow_sub-e c = (own-last (goal.at.overflow_sub-e c).Then-e-own).low

pub offset_bounds-own-e : goal.offset_bounds-own-e
offset_bounds-own-e c = (own-last (goal.at.offset_bounds-own-e c).Then-e-own).fits

pub bounds-own-e : goal.bounds-own-e
bounds-own-e c = (own-last (goal.at.bounds-own-e c).Then-e-own).inside

pub overflow_sub-c : goal.overflow_sub-c
overflow_sub-c c = (over_last (goal.at.overflow_sub-c c).Start).low

pub offset_bounds-over-c : goal.offset_bounds-over-c
offset_bounds-over-c c = (over_last (goal.at.offset_bounds-over-c c).Start).fits

pub bounds-over-c : goal.bounds-over-c
bounds-over-c c = (over_last (goal.at.bounds-over-c c).Start).inside

pub offset_bounds-y-o : goal.offset_bounds-y-o
offset_bounds-y-o c = index-fits c.requires.4 c.well_formed.1.0.1

pub slice_bounds-reduce_stretch-count : goal.slice_bounds-reduce_stretch-count
slice_bounds-reduce_stretch-count c = le-add_right _ _

pub slice_bounds-reduce_stretch-start : goal.slice_bounds-reduce_stretch-start
slice_bounds-reduce_stretch-start c = le-add_right _ _

pub slice_bounds-reduce_stretch-end : goal.slice_bounds-reduce_stretch-end
slice_bounds-reduce_stretch-end c = still_inside c.if-e-own.true c.requires.0

pub reduce_stretch-requires : goal.reduce_stretch-requires
reduce_stretch-requires c =
    (stretch_size c.args.y.now c.args.values.now _ _ _ c.requires.0 c.if-e-own.true (crossing_values _ _ _ _ c.requires.2), c.requires.1)

pub returns-then-own-e : goal.returns-then-own-e
returns-then-own-e c =
    by_stretch _ _ _ _ c.requires.2 _ _ c.requires.0 c.requires.3 _ c.requires.4 c.requires.5 c.requires.6 _ _ _ c.if-e-own.true c.if-own-e.true
    c.reduce_stretch.ensures

pub offset_bounds-y-o-2 : goal.offset_bounds-y-o-2
offset_bounds-y-o-2 c = index-fits c.requires.4 c.well_formed.1.0.1

pub slice_bounds-reduce_gathered-count : goal.slice_bounds-reduce_gathered-count
slice_bounds-reduce_gathered-count c = le_of_lt c.requires.4

pub slice_bounds-reduce_gathered-start : goal.slice_bounds-reduce_gathered-start
slice_bounds-reduce_gathered-start c = le_of_lt c.requires.4

pub slice_bounds-reduce_gathered-end : goal.slice_bounds-reduce_gathered-end
slice_bounds-reduce_gathered-end c = le_of_eq (sym c.requires.0)

pub offset_bounds-own-o : goal.offset_bounds-own-o
offset_bounds-own-o c = index-fits c.requires.4 c.well_formed.1.0.1

pub slice_bounds-reduce_gathered-count-2 : goal.slice_bounds-reduce_gathered-count-2
slice_bounds-reduce_gathered-count-2 c = le_of_lt c.requires.4

pub slice_bounds-reduce_gathered-start-2 : goal.slice_bounds-reduce_gathered-start-2
slice_bounds-reduce_gathered-start-2 c = le_of_lt c.requires.4

pub slice_bounds-reduce_gathered-end-2 : goal.slice_bounds-reduce_gathered-end-2
slice_bounds-reduce_gathered-end-2 c = le_refl _

pub reduce_gathered-requires : goal.reduce_gathered-requires
reduce_gathered-requires c = (
  rest_size c.args.y.now c.args.own.now c.args.o c.requires.0,
  c.requires.1,
  below_part _ c.args.o (length c.args.own.now - c.args.o) _ c.requires.2.room,
)

pub returns : goal.returns
returns c =
    by_gathering _ _ _ _ c.requires.2 _ _ c.requires.0 c.requires.3 _ c.requires.4 c.requires.5 c.requires.6 _ _ _ c.reduce_gathered.ensures
