-- `swap_behind` meets its contract: nothing is left where p is above n; else column p, then those beyond it.
use Prim.Native.Nat.{◌<◌}
use native.Mathlib.Omega.{arith}
use lib.ListN.{length}
use Rattle.lists.proofs.Small.{below_fits, part_fits, sums_fit}
use Rattle.run_exchange.proofs.Behind.{none_left, p_low, own_in, p_in, cell_next, other_place, other_within, beyond-asks}
use Rattle.run_exchange.proofs.swap_behind.Goals as goal
use Rattle.run_exchange.proofs.swap_behind.Goals.{Else-t-us}

-- U_k has p
there : (c : Else-t-us) → c.args.t < length c.args.us.now
there c = omega (arith, c.requires.inside, c.if-t-us.false)

pub returns-then-t-us : goal.returns-then-t-us
returns-then-t-us c = λ w. none_left _ _ _ _ _ _ _ _ w c.if-t-us.true

pub overflow_add-own : goal.overflow_add-own
overflow_add-own c = below_fits (own_in _ _ _ _ _ _ _ _ c.requires (there (goal.at.overflow_add-own c).Else-t-us)) c.well_formed.1.1.1.1.1.1.1.1.0.1

pub overflow_sub-p : goal.overflow_sub-p
overflow_sub-p c = p_low _ _ _ _ _ _ _ _ c.requires (there (goal.at.overflow_sub-p c).Else-t-us)

pub swap-requires : goal.swap-requires
swap-requires c = (
  p_in _ _ _ _ _ _ _ _ c.requires (there (goal.at.swap-requires c).Else-t-us),
  own_in _ _ _ _ _ _ _ _ c.requires (there (goal.at.swap-requires c).Else-t-us),
)

pub list_place-other-requires : goal.list_place-other-requires
list_place-other-requires c =
    other_place _ _ _ _ _ _ _ _ c.requires (there (goal.at.list_place-other-requires c).Else-t-us) c.well_formed.1.1.1.1.1.0.1

pub overflow_add-next : goal.overflow_add-next
overflow_add-next c =
    (sums_fit _ _ (cell_next _ _ _ _ _ _ _ _ c.requires (there (goal.at.overflow_add-next c).Else-t-us)) c.well_formed.1.1.1.1.1.0.1).0

pub overflow_add-next-2 : goal.overflow_add-next-2
overflow_add-next-2 c =
    (sums_fit _ _ (cell_next _ _ _ _ _ _ _ _ c.requires (there (goal.at.overflow_add-next-2 c).Else-t-us)) c.well_formed.1.1.1.1.1.0.1).1

pub overflow_add-t : goal.overflow_add-t
overflow_add-t c =
    (sums_fit _ _ (cell_next _ _ _ _ _ _ _ _ c.requires (there (goal.at.overflow_add-t c).Else-t-us)) c.well_formed.1.1.1.1.1.0.1).2

pub offset_bounds-u_subs-start : goal.offset_bounds-u_subs-start
offset_bounds-u_subs-start c =
    part_fits (other_within _ _ _ _ _ _ _ _ c.requires (there (goal.at.offset_bounds-u_subs-start c).Else-t-us) _ _ _ _ c.list_place-other.ensures) c.well_formed.1.1.1.1.1.0.1

pub slice_bounds-swap_beyond-count : goal.slice_bounds-swap_beyond-count
slice_bounds-swap_beyond-count c =
    (other_within _ _ _ _ _ _ _ _ c.requires (there (goal.at.slice_bounds-swap_beyond-count c).Else-t-us) _ _ _ _ c.list_place-other.ensures).0

pub slice_bounds-swap_beyond-start : goal.slice_bounds-swap_beyond-start
slice_bounds-swap_beyond-start c =
    (other_within _ _ _ _ _ _ _ _ c.requires (there (goal.at.slice_bounds-swap_beyond-start c).Else-t-us) _ _ _ _ c.list_place-other.ensures).0

pub slice_bounds-swap_beyond-end : goal.slice_bounds-swap_beyond-end
slice_bounds-swap_beyond-end c =
    (other_within _ _ _ _ _ _ _ _ c.requires (there (goal.at.slice_bounds-swap_beyond-end c).Else-t-us) _ _ _ _ c.list_place-other.ensures).1

pub swap_beyond-requires : goal.swap_beyond-requires
swap_beyond-requires c =
    beyond-asks _ _ _ _ _ _ _ _ c.requires (there (goal.at.swap_beyond-requires c).Else-t-us) _ _ _ _ c.list_place-other.ensures _ _ c.swap.ensures

pub returns : goal.returns
returns c =
    λ w. c.swap_beyond.ensures (beyond-asks _ _ _ _ _ _ _ _ w (there (goal.at.returns c).Else-t-us) _ _ _ _
    c.list_place-other.ensures _ _ c.swap.ensures)
