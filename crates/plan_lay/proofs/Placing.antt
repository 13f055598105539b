-- How the list of a step is put into stores that are filled with the steps before it: its rest is written, or it shares the list of a sole step.
use mathlib.Core.List.{List, [], ◌++◌, append-nil}
use mathlib.Core.Path.{◌≡◌, refl, sym, ap, ◌∙◌}
use Prim.Native.Nat.{ℕ, suc, ◌+◌, ◌-◌, ◌≤◌}
use native.Mathlib.Omega.{arith}
use native.Mathlib.Nat.{add-zero}
use lib.ListN.{length, take, drop, set, get_or, length-drop, length-append, take-append-drop}
use lib.Seq.{length-take-le}
use Rattle.foundation.specs.Pattern.{Lent}
use Rattle.foundation.specs.Plan.{Side}
use Rattle.foundation.specs.PlanCall.{SideStores}
use Rattle.foundation.specs.Subscripts.{kept, sole_step}
use Rattle.answers.specs.Stores.{side_stores}
use Rattle.plan_gather.specs.Ready.{plan_of}
use Rattle.plan_gather.specs.Contains.{used}
use Rattle.plan_gather.specs.Steps.{StepOf, SideAt}
use Rattle.plan_lists.specs.Lying.{OfSole}
use Rattle.plan_share.specs.Adding.{RestOf, Written}
use Rattle.plan_share.specs.Sole.{SoleReady, sole_start, sole_slots}
use Rattle.plan_share.specs.declared.write.Placed.{Placed}
use Rattle.plan_share.specs.declared.write.Placed.TheVariants.{End, Short}
use Rattle.plan_share.proofs.Adding.{rest-length, rest_writable, rest_added, rest_start, rest-used, sole-slots_are, sole-ready, sole_added, sole_start_lem, sole-used}
use Rattle.plan_lists.proofs.Whole.{sole_is, sole-some}
use Rattle.plan_lay.specs.Filled.{Filled}
use Rattle.plan_lay.specs.Placing.{PlacedAs}
use Rattle.plan_lay.proofs.Filled.{filled_next, filled_at}

-- ---- the rest of a list

-- where a list was written and the store kept its length, the list fits
written-fits :
    (end : ℕ) (rest subs subs' : List ℕ) → length subs' ≡ length subs → end ≤ length subs
    → subs' ≡ take end subs ++ rest ++ drop (end + length rest) subs → end + length rest ≤ length subs
written-fits end rest subs subs' same h e =
    let front : length (take end subs) ≡ end = length-take-le end subs h in
    omega (arith, simp (length-append, length-drop, front) at (ap length e))

module _ {p : Lent} {side : Side} {n k t : ℕ} {rest : List ℕ} {i : SideStores} {end : ℕ} (at : SideAt p side n k i end)
    (filled : Filled (plan_of p) side n (k - 1) (length i.subs) i) (not-sole : sole_step (plan_of p) k ≡ 0) (found : RestOf p side k t rest) where
  -- the stores with it added, its start and the end of its slots noted, are filled with step k too
  rest-filled :
      end + length rest ≤ length i.subs
      → Filled (plan_of p) side n k (length i.subs) (side_stores (take end i.subs ++ rest ++ drop (end + length rest) i.subs)
      (set i.starts (k - 1) (end - t)) (set i.slot_starts k (get_or i.slot_starts (k - 1) 0 + (t + length rest))))
  rest-filled fits =
      let this : suc (k - 1) ≡ k = omega (arith, at.step.low) in
      let high = at.step.high in
      let whole : t + length rest ≡ length (kept (plan_of p) side k) = rest-length at not-sole found in
      rw whole
      (rw (this, ← at.end_is) at
      (filled_next (plan_of p) side filled rest (end - t) (omega arith) (rest_added at not-sole found) (rest_start at not-sole found)
      (rw (← at.end_is) fits)))

  -- the stores are then filled with step k, or the plan does not fit
  pub rest-placed :
      (r : Placed) (subs' starts' slots' : List ℕ) → length subs' ≡ length i.subs → Written r k t rest i (side_stores subs' starts' slots') end
      → PlacedAs r p side n k (length i.subs) (side_stores subs' starts' slots')
  rest-placed (End place) subs' starts' slots' same (a, b, c, d) =
      let fits : end + length rest ≤ length i.subs = written-fits end rest i.subs subs' same (rest_writable at not-sole found).end_inside b in
      (a ∙ sym (rest-used at not-sole found), rw (b, c, d) (rest-filled fits))
  rest-placed Short subs' starts' slots' same w = rw (rest-used at not-sole found) w

-- ---- the list of a sole step

module _ {p : Lent} {side : Side} {n k l room : ℕ} {i : SideStores} {xs : List ℕ} (of : StepOf p n k) (sole : OfSole p side k l xs)
    (filled : Filled (plan_of p) side n (k - 1) room i) where
  -- its place can be read, and that of k's list noted
  pub follows : SoleReady k l i.starts i.slot_starts
  follows = sole-ready (filled_at of filled refl) (sole_is sole) (sole-some sole)

  -- with the start and the end of the slots noted, the stores are filled with step k too
  sole-filled :
      (end : ℕ) → end ≡ used (plan_of p) side (k - 1)
      → Filled (plan_of p) side n k room
      (side_stores i.subs (set i.starts (k - 1) (sole_start l i.starts i.slot_starts end)) (set i.slot_starts k (sole_slots k l i.slot_starts)))
  sole-filled end end_is =
      let at = filled_at of filled end_is in
      let low = of.low in
      let high = of.high in
      let this : suc (k - 1) ≡ k = omega arith in
      let fits = filled.fits in
      rw (sole-slots_are at (sole_is sole) (sole-some sole))
      (rw (this, add-zero, append-nil, take-append-drop) at
      (filled_next (plan_of p) side filled [] (sole_start l i.starts i.slot_starts end) (omega arith) (sole_added at (sole_is sole) (sole-some sole))
      (sole_start_lem at (sole_is sole) (sole-some sole)) (omega arith)))

  -- and they end where they did
  pub followed :
      {end : ℕ} {starts' slots' : List ℕ} → end ≡ used (plan_of p) side (k - 1)
      → (starts' ≡ set i.starts (k - 1) (sole_start l i.starts i.slot_starts end)) × (slots' ≡ set i.slot_starts k (sole_slots k l i.slot_starts))
      → (end ≡ used (plan_of p) side k) × Filled (plan_of p) side n k room (side_stores i.subs starts' slots')
  followed {end} end_is (a, b) = (sym (sole-used (filled_at of filled end_is) (sole_is sole) (sole-some sole)), rw (a, b) (sole-filled end end_is))
