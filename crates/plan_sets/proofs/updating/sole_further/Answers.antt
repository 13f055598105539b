-- `sole_further` meets its contract: the slots of a list are as many as its members.
use Rattle.lists.proofs.Small.{index-fits, before-fits, before_below}
use Rattle.plan_sets.proofs.updating.sole_further.Goals as goal

pub overflow_sub-slot : goal.overflow_sub-slot
overflow_sub-slot c = c.requires.0

pub offset_bounds-slots-l : goal.offset_bounds-slots-l
offset_bounds-slots-l c = before-fits c.requires.1 c.well_formed.1.0.1

pub bounds-slots-l : goal.bounds-slots-l
bounds-slots-l c = before_below c.requires.1

pub offset_bounds-slots-l-2 : goal.offset_bounds-slots-l-2
offset_bounds-slots-l-2 c = index-fits c.requires.1 c.well_formed.1.0.1

pub bounds-slots-l-2 : goal.bounds-slots-l-2
bounds-slots-l-2 c = c.requires.1

pub overflow_sub-result : goal.overflow_sub-result
overflow_sub-result c = c.requires.2
