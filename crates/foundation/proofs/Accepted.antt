-- What planning leaves in its stores is the plan that a later call compares it with.
use mathlib.Core.Bool.{true, not, cond}
use mathlib.Core.Path.{◌≡◌, refl, sym, ap, ◌∙◌}
use Prim.Native.Nat.{ℕ, suc}
use native.Mathlib.Omega.{arith}
use lib.Dec.{eqb}
use lib.ListN.{length}
use borrow.Author.Tests.{eq-eqb, eqb-true}
use Rattle.lists.specs.Functions.{padded}
use Rattle.lists.proofs.Members.{by_test, and_left, and_right, same_self}
use Rattle.lists.proofs.Places.{padded-take, padded-full}
use Rattle.foundation.specs.Answer.{refused, granted, refuse_if, and_then, result_store}
use Rattle.foundation.specs.Claims.{PlanAccepted}
use Rattle.foundation.specs.Pattern.{Lent, pattern_of, pattern_fault, judged}
use Rattle.foundation.specs.Plan.{Planning, Side, lower, upper, plan}
use Rattle.foundation.specs.PlanCall.{Counts, SideStores, PlanStores, WorkSizes, subscripts, counts_of, starts_sized, sizes_fit, planned, subscripts_after, starts_after, slot_starts_after, side_after, plan_leaves, same_counts, same_side, agrees, held_if, held}
use Rattle.foundation.specs.Slots.{slot_starts}
use Rattle.foundation.specs.Subscripts.{starts_store, room_fault}
use Rattle.foundation.proofs.Alike.{judged_passes}
use Rattle.foundation.proofs.Room.{room_same}
use Rattle.foundation.proofs.Starts.{length-starts, length-slot-starts}

-- the counts are their own
counts_same : (c : Counts) → same_counts c c ≡ true
unfolding same_counts
counts_same c =
    rw (eq-eqb c.n c.n refl, eq-eqb c.height c.height refl, eq-eqb c.entries c.entries refl, eq-eqb c.lower_subscripts c.lower_subscripts refl, eq-eqb c.upper_subscripts c.upper_subscripts refl, eq-eqb c.lower_slots c.lower_slots refl, eq-eqb c.upper_slots c.upper_slots refl, eq-eqb c.reads c.reads refl)

module _ (p : Lent) (s : Planning) (side : Side) (before : SideStores) (sized : starts_sized p before ≡ true) where
  starts_long : length before.starts ≡ p.n
  unfolding starts_sized
  starts_long = eqb-true _ _ (and_left (eqb (length before.starts) p.n) _ sized)

  slots_long : length before.slot_starts ≡ suc p.n
  unfolding starts_sized
  slots_long = eqb-true _ _ (and_right (eqb (length before.starts) p.n) _ sized)

  -- the starts fill their stores
  pub starts_left : starts_after side p.n (length before.starts) (granted s) ≡ starts_store s side p.n
  unfolding starts_after result_store
  starts_left = rw starts_long (ap (λ (room : ℕ). padded 0 room (starts_store s side p.n)) (sym (length-starts s side p.n)) ∙ padded-full 0 (starts_store s side p.n))

  pub slots_left : slot_starts_after side p.n (length before.slot_starts) (granted s) ≡ slot_starts s side p.n
  unfolding slot_starts_after result_store
  slots_left = rw slots_long (ap (λ (room : ℕ). padded 0 room (slot_starts s side p.n)) (sym (length-slot-starts s side p.n)) ∙ padded-full 0 (slot_starts s side p.n))

  -- a side as it is left has the starts' lengths and agrees
  pub left_sized : starts_sized p (side_after side p.n (granted s) before) ≡ true
  unfolding starts_sized side_after
  left_sized = rw (starts_left, slots_left, length-starts s side p.n, length-slot-starts s side p.n, eq-eqb p.n p.n refl, eq-eqb (suc p.n) (suc p.n) refl)

  pub left_agrees : same_side s side p.n (side_after side p.n (granted s) before) ≡ true
  unfolding same_side side_after subscripts_after result_store
  left_agrees =
      rw (starts_left, slots_left, same_self (starts_store s side p.n), same_self (slot_starts s side p.n), padded-take 0 (length before.subs) (subscripts s side p.n)) (same_self (subscripts s side p.n))

-- what a call that plans was asked passes 1 to 6
pub record Asked (most : ℕ) (p : Lent) (stores : PlanStores) (work : WorkSizes) (s : Planning) : Type 0 where
  pub passes : pattern_fault most p ≡ 0
  pub sized : sizes_fit p stores work ≡ true
  pub is : s ≡ plan (pattern_of p)

pub granted-asked : (most : ℕ) (p : Lent) (stores : PlanStores) (work : WorkSizes) (s : Planning) → planned most p stores work ≡ granted s → Asked most p stores work s
unfolding planned judged and_then refuse_if
granted-asked most p stores work s e =
    by_test (eqb (pattern_fault most p) 0)
    (λ t.
    let e' : cond (not (sizes_fit p stores work)) (refused 6 0) (room_fault (plan (pattern_of p)) (length stores.lower_side.subs) (length stores.upper_side.subs) 1 p.n) ≡ granted s = rw t at e in
    by_test (sizes_fit p stores work)
    (λ u.
    let e'' : room_fault (plan (pattern_of p)) (length stores.lower_side.subs) (length stores.upper_side.subs) 1 p.n ≡ granted s = rw u at e' in
    record { passes = eqb-true _ _ t; sized = u; is = room_same (plan (pattern_of p)) _ _ s 1 p.n e'' })
    (λ u. let z : refused 6 0 ≡ granted s = rw u at e' in let w : ◌≡◌ {A = ℕ} 0 1 = cc in absurd (omega arith)))
    (λ t. let z : refused (pattern_fault most p) 0 ≡ granted s = rw t at e in let w : ◌≡◌ {A = ℕ} 0 1 = cc in absurd (omega arith))

-- 9 never meets a plan just made.
pub plan_accepted : PlanAccepted
unfolding PlanAccepted held held_if and_then refuse_if sizes_fit agrees plan_leaves
plan_accepted most p stores work later s e fits =
    let a = granted-asked most p stores work s e in
    let lows : starts_sized p stores.lower_side ≡ true = and_left (starts_sized p stores.lower_side) _ a.sized in
    let ups : starts_sized p stores.upper_side ≡ true = and_left (starts_sized p stores.upper_side) _ (and_right (starts_sized p stores.lower_side) _ a.sized) in
    rw (
      judged_passes most p a.passes,
      ← a.is,
      left_sized p s lower stores.lower_side lows,
      left_sized p s upper stores.upper_side ups,
      fits,
      counts_same (counts_of p s),
      left_agrees p s lower stores.lower_side lows,
      left_agrees p s upper stores.upper_side ups,
    )
