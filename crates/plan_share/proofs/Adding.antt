-- What a step adds to its side's stores, by what they say of the steps before it: the rest of a list that shares its beginning, or the place alone where it
-- shares the list of a sole step.
use mathlib.Core.List.{List, [], ◌∷◌}
use mathlib.Core.Path.{◌≡◌, refl, sym, ap, ◌∙◌}
use mathlib.Core.Bool.{true, false}
use Prim.Native.Nat.{ℕ, zero, suc, ◌+◌, ◌-◌, ◌≤◌, ◌<◌, ◌*◌}
use native.Mathlib.Omega.{arith}
use native.Mathlib.Nat.{add-zero, sub-zero}
use native.Mathlib.Numerals.{add-one}
use lib.ListN.{length, take, drop, get_or, length-drop}
use lib.Seq.{take_all}
use lib.Dec.{ltb}
use borrow.Author.Tests.{lt-ltb}
use Rattle.lists.specs.Functions.{empty, span}
use Rattle.lists.specs.Sets.{overlap}
use Rattle.lists.proofs.Members.{by_test, empty-nil}
use Rattle.lists.proofs.Order.{ascending_weaken}
use Rattle.foundation.specs.Plan.{Planning, Side}
use Rattle.foundation.specs.PlanCall.{SideStores}
use Rattle.foundation.specs.Subscripts.{kept, shared, start_at, added_at, Shared, sole_step, shared_end}
use Rattle.foundation.specs.Slots.{slots_of}
use Rattle.foundation.specs.Pattern.{Lent, pattern_of}
use Rattle.foundation.proofs.Opening.{shared_end_law, start_empty, added_empty, start_joined, added_joined, start_sole, added_sole, all_lie}
use Rattle.foundation.proofs.Starts.{slots_next, slots_none}
use Rattle.foundation.proofs.Theorems.{nothing_kept}
use Rattle.foundation.proofs.Enough.{added_few}
use Rattle.plan_gather.specs.Contains.{used}
use Rattle.plan_gather.specs.Ready.{Ready, plan_of}
use Rattle.plan_gather.specs.Gathering.{GrownIn}
use Rattle.plan_gather.specs.Steps.{SideAt, kept_steps}
use Rattle.plan_gather.proofs.Gathering.{steps_kept}
use Rattle.plan_gather.proofs.Contains.{Opened, contains_opens, facts, kept_within, kept_length, used_none, used_next}
use Rattle.plan_share.specs.Sharing.{EndAsks}
use Rattle.plan_share.specs.Adding.{NewList, RestOf, Writable}
use Rattle.plan_share.specs.Sole.{SoleReady, sole_start, sole_slots}
use Rattle.plan_share.proofs.Sole.{sole-empty, sole-behind}

-- ---- how much is shared

-- a list that tests as empty has no member, and any other has one
pub empty-length : (xs : List ℕ) → empty xs ≡ true → length xs ≡ 0
empty-length xs e = ap length (empty-nil xs e)

pub not-empty-length : (xs : List ℕ) → empty xs ≡ false → 0 < length xs
unfolding empty
not-empty-length [] e = let z : ◌≡◌ {A = ℕ} 0 1 = cc in omega arith
not-empty-length (x ∷ xs) e = omega arith

module _ (sh : Shared) (new : List ℕ) where
  -- no more than the new list has
  pub shared_new : shared_end sh new ≤ length new
  shared_new = (shared_end_law sh new).in_new

  -- no more than the store has
  pub shared-old : shared_end sh new ≤ length sh.store
  shared-old = (shared_end_law sh new).in_store

-- ---- a list that is no rest

module _ (s : Planning) (side : Side) (j : ℕ) (not-sole : sole_step s (suc j) ≡ 0) where
  -- a list that is no rest starts before the store's end by as much as is shared
  joined_start :
      start_at s side (shared s side j) j ≡ used s side j - shared_end (shared s side j) (kept s side (suc j))
  unfolding used
  joined_start =
      by_test (empty (kept s side (suc j)))
      (λ e.
      let none : shared_end (shared s side j) (kept s side (suc j)) ≡ 0 =
      omega (arith, shared_new (shared s side j) (kept s side (suc j)), empty-length _ e) in
      start_empty s side (shared s side j) j e ∙ rw none (omega arith))
      (λ e. start_joined s side (shared s side j) j e (ap (ltb 0) not-sole))

  -- such a list adds what it does not share
  joined_added :
      added_at s side (shared s side j) j ≡ drop (shared_end (shared s side j) (kept s side (suc j))) (kept s side (suc j))
  joined_added =
      by_test (empty (kept s side (suc j)))
      (λ e.
      let none : shared_end (shared s side j) (kept s side (suc j)) ≡ 0 =
      omega (arith, shared_new (shared s side j) (kept s side (suc j)), empty-length _ e) in
      added_empty s side (shared s side j) j e ∙ rw (none, empty-nil (kept s side (suc j)) e))
      (λ e. added_joined s side (shared s side j) j e (ap (ltb 0) not-sole))

-- ---- sizes

module _ (p : Lent) (ok : Ready p) (side : Side) where
  -- the slots of the first k steps are few
  slots-few : (k : ℕ) → k ≤ p.n → slots_of (plan_of p) side k ≤ 65535 * k
  slots-few zero h = omega (arith, slots_none (plan_of p) side)
  slots-few (suc k) h =
      let small = ok.few in
      let tall = ok.tall in
      omega (arith, slots-few k (omega arith), slots_next (plan_of p) side k, kept_length p ok side (suc k) (omega arith))

  -- a side has no more subscripts than slots
  used-few : (k : ℕ) → used (plan_of p) side k ≤ slots_of (plan_of p) side k
  used-few zero = omega (arith, used_none (plan_of p) side)
  used-few (suc k) =
      let s : Planning = plan_of p in
      let next : used s side (suc k) ≡ used s side k + length (added_at s side (shared s side k) k) = used_next s side k _ refl in
      omega (arith, used-few k, next, slots_next s side k, added_few s side (shared s side k) k)

  -- a list that lies in the store
  lies_at : (k l : ℕ) → k ≤ p.n → l ≤ k → (shared (plan_of p) side k).start l + length (kept (plan_of p) side l) ≤ used (plan_of p) side k
  unfolding plan_of pattern_of used
  lies_at k l h g = (all_lie (plan_of p) side p.n ((facts p ok).sole side) (nothing_kept (pattern_of p) side) k l h g).inside

-- ---- a step of one side

module _ {p : Lent} {side : Side} {n k : ℕ} {i : SideStores} {end : ℕ} (at : SideAt p side n k i end) where
  -- each list before can be read
  pub side-opens : (l : ℕ) → 1 ≤ l → l < k → Opened (plan_of p) side l i
  side-opens l low before =
      let high = at.step.high in
      contains_opens at.step.ready at.step.same_n (omega arith) at.contained l low (omega arith)

  -- the end of the used part can be compared with the new list
  pub end_asks : (new : List ℕ) → new ≡ kept (plan_of p) side k → EndAsks new i.subs end
  end_asks new new_is =
      record {
        inside = rw at.end_is at.contained.subs-room;
        ascends = rw new_is (ascending_weaken 0 (suc k) _ (omega arith) (kept_within p at.step.ready side k).ascending);
      }

  -- ---- a list of its own

  module _ {t : ℕ} {new : List ℕ} (new_is : new ≡ kept (plan_of p) side k) (shares : t ≡ overlap (take end i.subs) new) where
    new-shares : t ≡ shared_end (shared (plan_of p) side (k - 1)) (kept (plan_of p) side k)
    unfolding shared_end
    new-shares = shares ∙ rw (at.end_is, at.contained.subs-begin, new_is)

    -- no more is shared than the list has
    pub shared-few : t ≤ length new
    shared-few = rw (new-shares, new_is) (shared_new (shared (plan_of p) side (k - 1)) (kept (plan_of p) side k))

    -- what the code cuts off is what the list adds
    pub new-rest : RestOf p side k t (take (length new - t) (drop t new))
    new-rest =
        record { shares = new-shares; is = take_all (length new - t) (drop t new) (rw length-drop (omega arith)) ∙ rw new_is }

  module _ (not-sole : sole_step (plan_of p) k ≡ 0) {t : ℕ} {rest : List ℕ} (found : RestOf p side k t rest) where
    -- what stands before and what is added are the whole list
    pub rest-length : t + length rest ≡ length (kept (plan_of p) side k)
    rest-length =
        let few = shared_new (shared (plan_of p) side (k - 1)) (kept (plan_of p) side k) in
        let e : length rest ≡ length (kept (plan_of p) side k) - t = ap length found.is ∙ simp length-drop in
        omega (arith, found.shares)

    -- it can be written at the store's end, or looked for there
    pub rest_writable : Writable k t rest i end
    unfolding used
    rest_writable =
        let s : Planning = plan_of p in
        let few = at.step.ready.few in
        let tall = at.step.ready.tall in
        let same = at.step.same_n in
        let low = at.step.low in
        let high = at.step.high in
        record {
          step = low;
          starts_size = omega (arith, at.contained.starts_size);
          slots_size = omega (arith, at.contained.slots_size);
          end_inside = rw at.end_is at.contained.subs-room;
          shared_end_lem = omega (arith, found.shares, at.end_is, shared-old (shared s side (k - 1)) (kept s side k));
          small =
              omega (
                arith,
                rest-length,
                at.contained.slots_at (k - 1) (omega arith),
                slots-few p at.step.ready side (k - 1) (omega arith),
                kept_length p at.step.ready side k (omega arith),
              );
        }

    this : suc (k - 1) ≡ k
    this = let low = at.step.low in omega arith

    -- it is what the plan adds
    pub rest_added : added_at (plan_of p) side (shared (plan_of p) side (k - 1)) (k - 1) ≡ rest
    rest_added = rw (this, ← found.shares) at (joined_added (plan_of p) side (k - 1) (rw this not-sole)) ∙ sym found.is

    -- the list starts before the store's end by as much as is shared
    pub rest_start : start_at (plan_of p) side (shared (plan_of p) side (k - 1)) (k - 1) ≡ end - t
    rest_start = rw (this, ← found.shares, ← at.end_is) at (joined_start (plan_of p) side (k - 1) (rw this not-sole))

    -- how long the store then is
    pub rest-used : used (plan_of p) side k ≡ end + length rest
    rest-used = rw this at (used_next (plan_of p) side (k - 1) rest rest_added) ∙ rw (← at.end_is)

  -- ---- the list of a sole step l, without its first member

  module _ {l : ℕ} (sole_is : l ≡ sole_step (plan_of p) k) (not_none : l ≡ 0 → ⊥) where
    some : 0 < l
    some = omega (arith, not_none)

    -- l is earlier, and its list is k and then k's
    pub sole_facts : (l < k) × (kept (plan_of p) side l ≡ k ∷ kept (plan_of p) side k)
    unfolding pattern_of
    sole_facts =
        let same = at.step.same_n in
        let high = at.step.high in
        rw (← sole_is) at ((facts p at.step.ready).sole side k at.step.low (omega arith) (rw (← sole_is) some))

    -- l has one slot more than k
    pub sole-span : span i.slot_starts l ≡ length (kept (plan_of p) side k) + 1
    sole-span = let (before, is) = sole_facts in (side-opens l some before).count ∙ ap length is ∙ sym (add-one _)

    -- k has the slots that are left
    pub sole-slots_are : sole_slots k l i.slot_starts ≡ get_or i.slot_starts (k - 1) 0 + length (kept (plan_of p) side k)
    unfolding sole_slots
    sole-slots_are = omega (arith, sole-span)

    -- the place of l's list can be read and that of k's noted
    pub sole-ready : SoleReady k l i.starts i.slot_starts
    sole-ready =
        let s : Planning = plan_of p in
        let (before, is) = sole_facts in
        let few = at.step.ready.few in
        let tall = at.step.ready.tall in
        let same = at.step.same_n in
        let high = at.step.high in
        let starts_size = at.contained.starts_size in
        let slots_size = at.contained.slots_size in
        let width : span i.slot_starts l ≡ length (kept s side k) + 1 = sole-span in
        let slots_small : slots_of s side (k - 1) ≤ 65535 * (k - 1) = slots-few p at.step.ready side (k - 1) (omega arith) in
        record {
          low = some;
          before = before;
          starts_size = omega arith;
          slots_size = omega arith;
          rising = omega arith;
          small = omega (arith, at.contained.slots_at (k - 1) (omega arith), kept_length p at.step.ready side k (omega arith));
          small_start =
              omega (
                arith,
                at.contained.starts_at l some (omega arith),
                lies_at p at.step.ready side (k - 1) l (omega arith) (omega arith),
                used-few p at.step.ready side (k - 1),
              );
        }

    this_step : suc (k - 1) ≡ k
    this_step = let low = at.step.low in omega arith

    is_sole : ltb 0 (sole_step (plan_of p) (suc (k - 1))) ≡ true
    is_sole = rw (this_step, ← sole_is) (lt-ltb 0 l some)

    -- nothing is added
    pub sole_added : added_at (plan_of p) side (shared (plan_of p) side (k - 1)) (k - 1) ≡ []
    sole_added =
        by_test (empty (kept (plan_of p) side (suc (k - 1))))
        (λ e. added_empty (plan_of p) side (shared (plan_of p) side (k - 1)) (k - 1) e)
        (λ e. added_sole (plan_of p) side (shared (plan_of p) side (k - 1)) (k - 1) e is_sole)

    -- the start is the one that is noted
    pub sole_start_lem : start_at (plan_of p) side (shared (plan_of p) side (k - 1)) (k - 1) ≡ sole_start l i.starts i.slot_starts end
    unfolding used
    sole_start_lem =
        let s : Planning = plan_of p in
        let width : span i.slot_starts l ≡ length (kept s side k) + 1 = sole-span in
        let start : get_or i.starts (l - 1) 0 ≡ (shared s side (k - 1)).start l = at.contained.starts_at l some (omega (arith, sole_facts.0)) in
        by_test (empty (kept s side (suc (k - 1))))
        (λ e.
        let none : length (kept s side k) ≡ 0 = rw this_step at (empty-length _ e) in
        start_empty s side (shared s side (k - 1)) (k - 1) e ∙ sym at.end_is ∙ sym (sole-empty l end i.starts i.slot_starts (omega arith)))
        (λ e.
        let some : 0 < length (kept s side k) = rw this_step at (not-empty-length _ e) in
        start_sole s side (shared s side (k - 1)) (k - 1) e is_sole ∙ rw (this_step, ← sole_is, ← start)
        (sym (sole-behind l end i.starts i.slot_starts (λ f. omega arith))))

    -- the store stays as long as it is
    pub sole-used : used (plan_of p) side k ≡ end
    sole-used = rw this_step at (used_next (plan_of p) side (k - 1) [] sole_added) ∙ add-zero _ ∙ sym at.end_is

-- ---- a list that has grown

-- a list that has grown by the report's 2.2 and 2.4 is the new one
pub new-grown :
    {p : Lent} {side : Side} {n k : ℕ} {i : SideStores} {end : ℕ} → SideAt p side n k i end → sole_step (plan_of p) k ≡ 0 → {count : ℕ} {growing : List ℕ}
    → GrownIn p.height count growing (kept_steps p side k) → NewList p side n k (take (count - 0) growing) i end
new-grown {p} {side} {n} {k} at not-sole grown =
    let high : k ≤ p.n = rw at.step.same_n at.step.high in
    record { at = at; new_is = rw sub-zero grown.is ∙ steps_kept p at.step.ready k at.step.low high side; not-sole = not-sole }
