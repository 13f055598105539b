-- What a side's stores tell of the steps that they contain: each kept list is read out by its start and the slots that it has.
use mathlib.Core.Bool.{Bool, true, not}
use mathlib.Core.List.{List, ◌++◌}
use mathlib.Core.Path.{◌≡◌, refl, sym, ap, ◌∙◌}
use Prim.Native.Nat.{ℕ, zero, suc, ◌+◌, ◌-◌, ◌*◌, ◌^◌, ◌≤◌, ◌<◌}
use native.Mathlib.Nat.{le-add_right, add-sub_cancel_left}
use native.Mathlib.Omega.{arith}
use lib.Dec.{eqb}
use lib.ListN.{length, take, drop, get_or, take-append-drop, length-append}
use borrow.Author.Tests.{eqb-false, not-true}
use Rattle.lists.specs.Functions.{keep, span}
use Rattle.lists.specs.Sets.{member, Ascending}
use Rattle.lists.proofs.Members.{kept_in, kept_passes}
use Rattle.lists.proofs.Order.{member-low, ascending_raise, ascending-keep, ascending-length}
use Rattle.foundation.specs.Pattern.{Lent, pattern_of}
use Rattle.foundation.specs.Plan.{Planning, Side, lower, upper, list}
use Rattle.foundation.specs.Subscripts.{kept, shared, added_at, opened}
use Rattle.foundation.specs.Facts.{PlanFacts}
use Rattle.foundation.specs.PlanCall.{SideStores}
use Rattle.foundation.proofs.PlanFacts.{plan_facts}
use Rattle.foundation.proofs.Opening.{Lies, lies_on, all_lie, store_next}
use Rattle.foundation.proofs.Starts.{slots_next}
use Rattle.foundation.proofs.Theorems.{nothing_kept}
use Rattle.store_place.specs.Places.{ListAsks, ListAt}
use Rattle.plan_gather.specs.Ready.{Ready, plan_of}
use Rattle.plan_gather.specs.Gathering.{Within}
use Rattle.plan_gather.specs.Contains.{used, Contains}

-- ---- the plan of a pattern that was judged

-- the plan's facts
pub facts : (p : Lent) → Ready p → PlanFacts (pattern_of p) (plan_of p)
unfolding plan_of
facts p ready = plan_facts (pattern_of p) ready.plannable

-- the members of L_k are rows, those of U_k columns, of which there are no more
pub list_bounded : (p : Lent) → Ready p → (side : Side) (k x : ℕ) → member x (list (plan_of p) side k) ≡ true → x ≤ p.height
unfolding list pattern_of
list_bounded p ready lower k x m = (facts p ready).lower_bounded k x m
list_bounded p ready upper k x m = omega (arith, ready.tall, (facts p ready).upper_bounded k x m)

-- a kept list ascends from above its step, and ends at the last row
pub kept_within : (p : Lent) → Ready p → (side : Side) (k : ℕ) → Within (suc k) p.height (kept (plan_of p) side k)
unfolding kept
kept_within p ready side k =
    let xs : List ℕ = list (plan_of p) side k in
    let other : ℕ → Bool = λ x. not (eqb x k) in
    let up : Ascending k xs = (facts p ready).ascending side k in
    record {
      ascending = ascending_raise k (suc k) (keep other xs) (ascending-keep k other xs up) λ x m.
          let low : k ≤ x = member-low x k xs up (kept_in x other xs m) in
          let apart : x ≡ k → ⊥ = eqb-false x k (not-true (eqb x k) (kept_passes x other xs m)) in
          omega arith;
      bounded = λ x m. list_bounded p ready side k x (kept_in x other xs m);
    }

-- a kept list has no more members than there are rows behind its own
pub kept_length : (p : Lent) → Ready p → (side : Side) (k : ℕ) → k ≤ p.height → length (kept (plan_of p) side k) + k ≤ p.height
kept_length p ready side k h =
    let w = kept_within p ready side k in
    omega (
      arith,
      ascending-length (suc k) (suc p.height) (kept (plan_of p) side k) (omega arith) w.ascending (λ x m. omega (arith, w.bounded x m)),
    )

-- ---- lists that are read out

-- Step l's kept list is read out of a side's stores.
pub record Opened (s : Planning) (side : Side) (l : ℕ) (i : SideStores) : Type 0 where
  pub rising : get_or i.slot_starts (l - 1) 0 ≤ get_or i.slot_starts l 0
  pub count : span i.slot_starts l ≡ length (kept s side l)
  pub inside : get_or i.starts (l - 1) 0 + span i.slot_starts l ≤ length i.subs
  pub is : take (span i.slot_starts l) (drop (get_or i.starts (l - 1) 0) i.subs) ≡ kept s side l

-- the slots of a step
span-contained : (s : Planning) (side : Side) (n k : ℕ) (i : SideStores) → Contains s side n k i → (l : ℕ) → 1 ≤ l → l ≤ k
    → get_or i.slot_starts l 0 ≡ get_or i.slot_starts (l - 1) 0 + length (kept s side l)
span-contained s side n k i contained zero low high = absurd (omega arith)
span-contained s side n k i contained (suc l) low high =
    let e : suc l - 1 ≡ l = omega arith in
    contained.slots_at (suc l) high ∙ slots_next s side l ∙ rw (e, contained.slots_at l (omega arith))

-- each kept list lies in the store after k steps
kept_lies :
    (p : Lent) → Ready p → (side : Side) (k l : ℕ) → k ≤ p.n → l ≤ k
    → Lies (kept (plan_of p) side l) (shared (plan_of p) side k).store ((shared (plan_of p) side k).start l)
unfolding plan_of pattern_of
kept_lies p ready side k l kn lk =
    all_lie (plan_of p) side p.n ((facts p ready).sole side) (nothing_kept (pattern_of p) side) k l kn lk

-- the lists of the steps that a side's stores contain are read out
pub contains_opens :
    {p : Lent} {side : Side} {n k : ℕ} {i : SideStores} → Ready p → p.n ≡ n → k ≤ n → Contains (plan_of p) side n k i → (l : ℕ) → 1 ≤ l → l ≤ k
    → Opened (plan_of p) side l i
unfolding opened used
contains_opens {p} {side} {n} {k} {i} ready same kn contained l low high =
    let s : Planning = plan_of p in
    let store : List ℕ = (shared s side k).store in
    let next : get_or i.slot_starts l 0 ≡ get_or i.slot_starts (l - 1) 0 + length (kept s side l) = span-contained s side n k i contained l low high in
    let count : span i.slot_starts l ≡ length (kept s side l) = omega arith in
    let whole : store ++ drop (used s side k) i.subs ≡ i.subs =
    ap (λ (xs : List ℕ). xs ++ drop (used s side k) i.subs) (sym contained.subs-begin) ∙ take-append-drop (used s side k) i.subs in
    let lies : Lies (kept s side l) i.subs ((shared s side k).start l) =
    rw whole at (lies_on (kept s side l) store (drop (used s side k) i.subs) _ (kept_lies p ready side k l (omega arith) high)) in
    let from : get_or i.starts (l - 1) 0 ≡ (shared s side k).start l = contained.starts_at l low high in
    record {
      rising = omega arith;
      count = count;
      inside = rw (count, from) lies.inside;
      is = rw (count, from) lies.reads;
    }

module _ {s : Planning} {side : Side} {l : ℕ} {i : SideStores} (o : Opened s side l i) where
  -- where such a list lies can be told
  pub opened-asks : 1 ≤ l → l < length i.slot_starts → l - 1 < length i.starts → length i.subs * 8 < 2 ^ 63 → ListAsks i.starts i.slot_starts l
  opened-asks low slots starts room =
      record { low = low; in_slots = slots; in_starts = starts; rises = o.rising; fits = record { fits = omega (arith, o.inside) } }

  module _ {from to slot next : ℕ} (at : ListAt i.starts i.slot_starts l from to slot next) where
    -- it lies in the store
    pub opened_inside : (from ≤ to) × (to ≤ length i.subs)
    opened_inside = rw (at.from_is, at.to_is) (le-add_right _ _, o.inside)

    -- and it is the step's
    pub opened_list : take (to - from) (drop from i.subs) ≡ kept s side l
    opened_list = rw (at.from_is, at.to_is, add-sub_cancel_left (get_or i.starts (l - 1) 0) (span i.slot_starts l)) o.is

-- ---- how many subscripts are used

module _ (s : Planning) (side : Side) where
  -- nothing is used
  pub used_none : used s side 0 ≡ 0
  unfolding used shared
  used_none = refl

  -- how long the store is after one step more
  pub used_next : (k : ℕ) (added : List ℕ) → added_at s side (shared s side k) k ≡ added → used s side (suc k) ≡ used s side k + length added
  unfolding used
  used_next k added a = rw (store_next s side k, a, length-append)
