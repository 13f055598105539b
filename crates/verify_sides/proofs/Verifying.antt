-- The stores of a side of a lent plan compared with this pattern's plan at one step, all steps before it having been found equal.
use mathlib.Core.Bool.{Bool, true, false, ◌&&◌, false≢true}
use mathlib.Core.List.{List, ◌++◌}
use mathlib.Core.Path.{◌≡◌, refl, sym, ap, ◌∙◌}
use Prim.Native.Nat.{ℕ, suc, ◌+◌, ◌-◌, ◌*◌, ◌^◌, ◌≤◌, ◌<◌}
use native.Mathlib.Decide.{dec_le}
use native.Mathlib.Omega.{arith}
use lib.Dec.{eqb}
use lib.ListN.{length, take, drop, get_or, length-take, length-drop}
use lib.Seq.{take-add, drop-append_seam}
use mir.Syntax.{w64}
use mir.Val.{Fits}
use borrow.Author.Tests.{eqb-true, eq-eqb}
use Rattle.lists.proofs.Members.{and_left, and_right, and_both}
use Rattle.foundation.specs.Pattern.{Lent}
use Rattle.foundation.specs.Plan.{Planning, Side}
use Rattle.foundation.specs.PlanCall.{SideStores}
use Rattle.foundation.specs.Subscripts.{kept, sole_step, shared, start_at, added_at}
use Rattle.foundation.specs.Slots.{slots_of}
use Rattle.foundation.proofs.Opening.{store_next, start_next, start_before}
use Rattle.foundation.proofs.Starts.{slots_next}
use Rattle.plan_gather.specs.Ready.{plan_of}
use Rattle.plan_gather.specs.Contains.{used, Contains}
use Rattle.plan_gather.specs.Steps.{SideAt}
use Rattle.plan_gather.proofs.Contains.{used_next}
use Rattle.plan_share.specs.Adding.{RestOf}
use Rattle.plan_share.specs.Sole.{SoleReady, sole_start, sole_slots, sole_followed}
use Rattle.plan_share.proofs.Adding.{rest-length, rest_added, rest_start, rest-used, sole-ready, sole-slots_are, sole_added, sole_start_lem, sole-used}
use Rattle.plan_lists.specs.Lying.{OfSole}
use Rattle.plan_lists.proofs.Whole.{sole_is, sole-some}
use Rattle.verify_sides.specs.Verifying.{FoundAs, VerifiedAs}
use Rattle.verify_sides.specs.declared.kept_lists.Verified.{Verified}
use Rattle.verify_sides.specs.declared.kept_lists.Verified.TheVariants.{End, Differs}

-- ---- where a list ends

-- a place of one store and a number of another's places, added up
pub sum_fits : {a b m n : ℕ} → a ≤ m → m * 8 < 2 ^ 63 → b ≤ n → n * 8 < 2 ^ 63 → Fits w64 (a + b)
sum_fits l room k more = record { fits = omega arith }

-- ---- one step more

module _ (s : Planning) (side : Side) {n k start : ℕ} {added : List ℕ} {i : SideStores} (low : 1 ≤ k)
    (contained : Contains s side n (k - 1) i) (adds : added_at s side (shared s side (k - 1)) (k - 1) ≡ added)
    (begins : start_at s side (shared s side (k - 1)) (k - 1) ≡ start) where
  this : suc (k - 1) ≡ k
  this = omega arith

  store_is : (shared s side k).store ≡ (shared s side (k - 1)).store ++ added
  store_is = rw (this, adds) at (store_next s side (k - 1))

  used_is : used s side k ≡ used s side (k - 1) + length added
  used_is = rw this at (used_next s side (k - 1) added adds)

  start_is : (shared s side k).start k ≡ start
  start_is = rw (this, begins) at (start_next s side (k - 1))

  slots_are : slots_of s side k ≡ get_or i.slot_starts (k - 1) 0 + length (kept s side k)
  slots_are = rw this at (slots_next s side (k - 1)) ∙ rw (contained.slots_at (k - 1) (omega arith))

  taken : take (used s side k) i.subs ≡ (shared s side (k - 1)).store ++ take (length added) (drop (used s side (k - 1)) i.subs)
  taken = rw (used_is, take-add, contained.subs-begin)

  -- where the start, the end of the slots and the rest of the list stand as planned, the stores begin with step k too
  pub contains_next :
      get_or i.starts (k - 1) 0 ≡ start → get_or i.slot_starts k 0 ≡ get_or i.slot_starts (k - 1) 0 + length (kept s side k)
      → take (length added) (drop (used s side (k - 1)) i.subs) ≡ added → Contains s side n k i
  contains_next a b c =
      let size : length (take (length added) (drop (used s side (k - 1)) i.subs)) ≡ length added = ap length c in
      let room = contained.subs-room in
      record {
        subs-begin = taken ∙ rw c (sym store_is);
        subs-room = rw used_is (omega (arith, simp (length-take, length-drop) at size));
        starts_size = contained.starts_size;
        slots_size = contained.slots_size;
        starts_at = λ l one high.
            elim (dec_le l (k - 1)) [
              | yes before ↦ contained.starts_at l one before ∙ sym (rw this at (start_before s side (k - 1) l before))
              | no here ↦
                  let e : l ≡ k = omega arith in
                  rw e (a ∙ sym start_is)
            ];
        slots_at = λ l high.
            elim (dec_le l (k - 1)) [
              | yes before ↦ contained.slots_at l before
              | no here ↦
                  let e : l ≡ k = omega arith in
                  rw e (b ∙ sym slots_are)
            ];
      }

  -- and where the stores begin with step k, all three stand so
  module _ (next : Contains s side n k i) where
    pub next_start : get_or i.starts (k - 1) 0 ≡ start
    next_start = next.starts_at k low (omega arith) ∙ start_is

    pub next_slots : get_or i.slot_starts k 0 ≡ get_or i.slot_starts (k - 1) 0 + length (kept s side k)
    next_slots = next.slots_at k (omega arith) ∙ slots_are

    pub next_added : take (length added) (drop (used s side (k - 1)) i.subs) ≡ added
    next_added =
        let both : (shared s side (k - 1)).store ++ take (length added) (drop (used s side (k - 1)) i.subs) ≡ (shared s side (k - 1)).store ++ added =
        sym taken ∙ next.subs-begin ∙ store_is in
        simp drop-append_seam at (ap (drop (length (shared s side (k - 1)).store)) both)

-- ---- the rest of a list

module _ {p : Lent} {side : Side} {n k t : ℕ} {rest : List ℕ} {i : SideStores} {end : ℕ} (at : SideAt p side n k i end)
    (not-sole : sole_step (plan_of p) k ≡ 0) (found : RestOf p side k t rest) where
  -- what was looked up is what the stores contain
  pub rest_verified : (r : Verified) → FoundAs r k t rest i end → VerifiedAs r p side n k i
  rest_verified (End place) (a, b, c, d) = (
    a ∙ sym (rest-used at not-sole found),
    contains_next (plan_of p) side at.step.low at.contained (rest_added at not-sole found) (rest_start at not-sole found) b
        (rw (← rest-length at not-sole found) c) (rw (← at.end_is) d),
  )
  rest_verified Differs other = λ next.
      let low = at.step.low in
      let adds = rest_added at not-sole found in
      let begins = rest_start at not-sole found in
      other (next_start (plan_of p) side low at.contained adds begins next)
      (rw (rest-length at not-sole found) (next_slots (plan_of p) side low at.contained adds begins next))
      (rw at.end_is (next_added (plan_of p) side low at.contained adds begins next))

-- ---- the list of a sole step

module _ {p : Lent} {side : Side} {n k l : ℕ} {xs : List ℕ} {i : SideStores} {end : ℕ} (at : SideAt p side n k i end) (of : OfSole p side k l xs) where
  -- the place of its list can be read
  pub sole-asks : SoleReady k l i.starts i.slot_starts
  sole-asks = sole-ready at (sole_is of) (sole-some of)

  module _ {found : Bool} (looked : found ≡ sole_followed k l i.starts i.slot_starts end) where
    abbrev ends : Bool
    ends = eqb (get_or i.slot_starts k 0) (sole_slots k l i.slot_starts)

    abbrev begins : Bool
    begins = eqb (get_or i.starts (k - 1) 0) (sole_start l i.starts i.slot_starts end)

    -- the stores begin with step k too, and end where they did
    pub sole-agrees : found ≡ true → (end ≡ used (plan_of p) side k) × Contains (plan_of p) side n k i
    unfolding sole_followed
    sole-agrees e =
        let both : ends && begins ≡ true = sym looked ∙ e in
        let slots : get_or i.slot_starts k 0 ≡ sole_slots k l i.slot_starts = eqb-true _ _ (and_left ends begins both) in
        let start : get_or i.starts (k - 1) 0 ≡ sole_start l i.starts i.slot_starts end = eqb-true _ _ (and_right ends begins both) in (
          sym (sole-used at (sole_is of) (sole-some of)),
          contains_next (plan_of p) side at.step.low at.contained (sole_added at (sole_is of) (sole-some of)) (sole_start_lem at (sole_is of) (sole-some of)) start
              (slots ∙ sole-slots_are at (sole_is of) (sole-some of)) refl,
        )

    -- the stores do not contain step k
    pub sole_differs : found ≡ false → Contains (plan_of p) side n k i → ⊥
    unfolding sole_followed
    sole_differs e next =
        let adds = sole_added at (sole_is of) (sole-some of) in
        let starts = sole_start_lem at (sole_is of) (sole-some of) in
        let low = at.step.low in
        let slots = next_slots (plan_of p) side low at.contained adds starts next ∙ sym (sole-slots_are at (sole_is of) (sole-some of)) in
        let start = next_start (plan_of p) side low at.contained adds starts next in
        false≢true (sym e ∙ looked ∙ and_both ends begins (eq-eqb _ _ slots) (eq-eqb _ _ start))
