-- `write_rest` meets its contract: `append` writes the rest of the list.
use mathlib.Core.Path.{refl}
use borrow.Author.Rules.{scaled_Fits, Fits-under}
use Rattle.lists.proofs.Small.{before-fits, before_below, before_size}
use Rattle.plan_share.proofs.Sharing.{too_short, long_enough, rest-small}
use Rattle.plan_share.proofs.write.write_rest.Goals as goal

pub overflow_add-count : goal.overflow_add-count
overflow_add-count c = rest-small _ _ c.requires.small

pub overflow_sub-subs : goal.overflow_sub-subs
overflow_sub-subs c = c.requires.end_inside

pub returns-then-subs-at : goal.returns-then-subs-at
returns-then-subs-at c = too_short _ _ _ c.if-subs-at.true

pub append-next-requires : goal.append-next-requires
append-next-requires c = long_enough _ _ _ c.requires.end_inside c.if-subs-at.false

pub overflow_sub-starts : goal.overflow_sub-starts
overflow_sub-starts c = c.requires.shared_end_lem

pub overflow_sub-starts-2 : goal.overflow_sub-starts-2
overflow_sub-starts-2 c = c.requires.step

pub offset_bounds-starts-k : goal.offset_bounds-starts-k
offset_bounds-starts-k c = scaled_Fits _ _ _ (before_size c.requires.step c.requires.starts_size refl) c.well_formed.1.1.1.1.0.1

pub bounds-starts-k : goal.bounds-starts-k
bounds-starts-k c = before_size c.requires.step c.requires.starts_size refl

pub overflow_sub-slots : goal.overflow_sub-slots
overflow_sub-slots c = c.requires.step

pub offset_bounds-slots-k : goal.offset_bounds-slots-k
offset_bounds-slots-k c = before-fits c.requires.slots_size c.well_formed.1.1.1.1.1.0.1

pub bounds-slots-k : goal.bounds-slots-k
bounds-slots-k c = before_below c.requires.slots_size

pub overflow_add-slots : goal.overflow_add-slots
overflow_add-slots c = Fits-under _ _ _ c.requires.small tt

pub offset_bounds-slots-k-2 : goal.offset_bounds-slots-k-2
offset_bounds-slots-k-2 c = scaled_Fits _ _ _ c.requires.slots_size c.well_formed.1.1.1.1.1.0.1

pub bounds-slots-k-2 : goal.bounds-slots-k-2
bounds-slots-k-2 c = c.requires.slots_size

pub returns : goal.returns
returns c =
    let append = c.append-next in
    (append.ensures.0, append.ensures.1, refl, refl)
