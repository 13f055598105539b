-- `place` meets its contract: what the list does not share is what it adds, and stores filled with the steps before k are then filled with step k too, or
-- are too short for the plan.
use native.Mathlib.Nat.{le_refl}
use Rattle.lists.proofs.Small.{place_fits}
use Rattle.plan_share.proofs.Adding.{end_asks, shared-few, new-rest, rest_writable}
use Rattle.plan_lay.proofs.Placing.{rest-placed}
use Rattle.plan_lay.proofs.laying.place.Goals as goal

pub shared_end-shared-requires : goal.shared_end-shared-requires
shared_end-shared-requires c = let h = c.requires.2 in end_asks h.at _ h.new_is

pub offset_bounds-new-shared : goal.offset_bounds-new-shared
offset_bounds-new-shared c =
    let h = c.requires.2 in place_fits (shared-few h.at h.new_is c.shared_end-shared.ensures) c.well_formed.1.1.0.1

pub slice_bounds-write_rest-count : goal.slice_bounds-write_rest-count
slice_bounds-write_rest-count c = let h = c.requires.2 in shared-few h.at h.new_is c.shared_end-shared.ensures

pub slice_bounds-write_rest-start : goal.slice_bounds-write_rest-start
slice_bounds-write_rest-start c = let h = c.requires.2 in shared-few h.at h.new_is c.shared_end-shared.ensures

pub slice_bounds-write_rest-end : goal.slice_bounds-write_rest-end
slice_bounds-write_rest-end c = le_refl _

pub write_rest-requires : goal.write_rest-requires
write_rest-requires c =
    let h = c.requires.2 in
    rest_writable h.at h.not-sole (new-rest h.at h.new_is c.shared_end-shared.ensures)

pub returns : goal.returns
returns c p side h filled =
    let w = c.write_rest in
    rest-placed h.at filled h.not-sole (new-rest h.at h.new_is c.shared_end-shared.ensures)
    w.result w.new.subs w.new.starts
    w.new.slots w.auto.subs w.ensures
