-- `verify_list` meets its contract: what the list does not share is what it adds, which is looked for.
use native.Mathlib.Nat.{le_refl}
use Rattle.lists.proofs.Small.{place_fits}
use Rattle.plan_share.proofs.Adding.{end_asks, shared-few, new-rest, rest_writable}
use Rattle.verify_sides.proofs.Verifying.{rest_verified}
use Rattle.verify_sides.proofs.kept_lists.verify_list.Goals as goal

pub shared_end-shared-requires : goal.shared_end-shared-requires
shared_end-shared-requires c = let h = c.requires.2 in end_asks h.at _ h.new_is

pub offset_bounds-new-shared : goal.offset_bounds-new-shared
offset_bounds-new-shared c =
    let h = c.requires.2 in place_fits (shared-few h.at h.new_is c.shared_end-shared.ensures) c.well_formed.1.1.0.1

pub slice_bounds-verify_rest-count : goal.slice_bounds-verify_rest-count
slice_bounds-verify_rest-count c = let h = c.requires.2 in shared-few h.at h.new_is c.shared_end-shared.ensures

pub slice_bounds-verify_rest-start : goal.slice_bounds-verify_rest-start
slice_bounds-verify_rest-start c = let h = c.requires.2 in shared-few h.at h.new_is c.shared_end-shared.ensures

pub slice_bounds-verify_rest-end : goal.slice_bounds-verify_rest-end
slice_bounds-verify_rest-end c = le_refl _

pub verify_rest-requires : goal.verify_rest-requires
verify_rest-requires c =
    let h = c.requires.2 in
    rest_writable h.at h.not-sole (new-rest h.at h.new_is c.shared_end-shared.ensures)

pub returns : goal.returns
returns c p side h =
    rest_verified h.at h.not-sole (new-rest h.at h.new_is c.shared_end-shared.ensures) c.verify_rest.result
    c.verify_rest.ensures
