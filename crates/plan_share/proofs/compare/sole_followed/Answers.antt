-- `sole_followed` meets its contract: the list of the sole step has one member more than the one looked for, which is empty where it has one.
use mathlib.Core.Path.{sym, ◌∙◌}
use lib.Dec.{lit≤}
use borrow.Author.Rules.{scaled_Fits}
use Rattle.plan_share.proofs.Sole.{sole-asks, sole-low, sole-before_in_slots, sole_in_starts, sole-rises, sole-some, sole-slots, sole-fits, start_fits}
use Rattle.plan_share.proofs.Sole.{sole-starts_end, sole-starts-behind, followed-apart, followed_start}
use Rattle.plan_share.proofs.compare.sole_followed.Goals as goal

pub list_place-sole-requires : goal.list_place-sole-requires
list_place-sole-requires c = sole-asks c.requires

pub overflow_sub-count : goal.overflow_sub-count
overflow_sub-count c = sole-rises c.requires c.list_place-sole.ensures

pub overflow_sub-count-2 : goal.overflow_sub-count-2
overflow_sub-count-2 c = sole-some c.requires c.list_place-sole.ensures

pub offset_bounds-slots-k : goal.offset_bounds-slots-k
offset_bounds-slots-k c = scaled_Fits _ _ _ c.requires.slots_size c.well_formed.1.1.1.0.1

pub bounds-slots-k : goal.bounds-slots-k
bounds-slots-k c = c.requires.slots_size

pub overflow_sub-k : goal.overflow_sub-k
overflow_sub-k c = sole-low c.requires

pub offset_bounds-slots-k-2 : goal.offset_bounds-slots-k-2
offset_bounds-slots-k-2 c = scaled_Fits _ _ _ (sole-before_in_slots c.requires) c.well_formed.1.1.1.0.1

pub bounds-slots-k-2 : goal.bounds-slots-k-2
bounds-slots-k-2 c = sole-before_in_slots c.requires

pub overflow_add-slots : goal.overflow_add-slots
overflow_add-slots c = sole-fits c.requires c.list_place-sole.ensures

pub returns-then-slots-k : goal.returns-then-slots-k
returns-then-slots-k c =
    let slots = sole-slots c.requires c.list_place-sole.ensures in
    sym (followed-apart _ _ _ _ _ (λ e. c.if-slots-k.true (e ∙ sym slots)))

pub overflow_sub-result : goal.overflow_sub-result
overflow_sub-result c = sole-low c.requires

pub offset_bounds-starts-k : goal.offset_bounds-starts-k
offset_bounds-starts-k c = scaled_Fits _ _ _ (sole_in_starts c.requires) c.well_formed.1.1.0.1

pub bounds-starts-k : goal.bounds-starts-k
bounds-starts-k c = sole_in_starts c.requires

pub returns-then-count-eq0 : goal.returns-then-count-eq0
returns-then-count-eq0 c =
    let ready = c.requires in
    let lies = c.list_place-sole.ensures in
    sym (followed_start _ _ _ _ _ _ (c.if-slots-k.false ∙ sole-slots ready lies) (sole-starts_end ready lies _ c.if-count-eq0.true))

pub overflow_sub-result-2 : goal.overflow_sub-result-2
overflow_sub-result-2 c = sole-low c.requires

pub offset_bounds-starts-k-2 : goal.offset_bounds-starts-k-2
offset_bounds-starts-k-2 c = scaled_Fits _ _ _ (sole_in_starts c.requires) c.well_formed.1.1.0.1

pub bounds-starts-k-2 : goal.bounds-starts-k-2
bounds-starts-k-2 c = sole_in_starts c.requires

pub overflow_add-result : goal.overflow_add-result
overflow_add-result c = start_fits c.requires c.list_place-sole.ensures _ (lit≤ tt)

pub returns : goal.returns
returns c =
    let ready = c.requires in
    let lies = c.list_place-sole.ensures in
    sym (followed_start _ _ _ _ _ _ (c.if-slots-k.false ∙ sole-slots ready lies) (sole-starts-behind ready lies _ c.if-count-eq0.false))
