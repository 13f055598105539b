-- A lent plan that agrees with the pattern's own is laid out as a run asks.
use mathlib.Core.Bool.{true}
use mathlib.Core.List.{List, ◌++◌}
use mathlib.Core.Path.{◌≡◌, refl, sym, ap, ◌∙◌}
use Prim.Native.Nat.{ℕ, suc, ◌-◌, ◌≤◌}
use native.Mathlib.Numerals.{add-one}
use native.Mathlib.Omega.{arith}
use lib.ListN.{length, take, drop, get_or, take-append-drop}
use Rattle.lists.specs.Functions.{same}
use Rattle.lists.specs.Sets.{Ascending}
use Rattle.lists.proofs.Members.{and_left, and_right, same_equal}
use Rattle.foundation.specs.Facts.{Opens}
use Rattle.foundation.specs.Pattern.{Lent, pattern_of, pattern_fault, max_n, max_height}
use Rattle.foundation.specs.Plan.{Planning, Side, lower, upper, plan}
use Rattle.foundation.specs.PlanCall.{SideStores, LentPlan, subscripts, same_counts, same_side, agrees, counts_of}
use Rattle.foundation.specs.Slots.{slot_starts}
use Rattle.foundation.specs.Subscripts.{kept, shared, starts_store, opened}
use Rattle.foundation.proofs.Opening.{Lies, lies_on}
use Rattle.foundation.proofs.Passing.{passes_small, passes_height}
use Rattle.foundation.proofs.Starts.{start_at_lem, length-starts, slot_start_at, length-slot-starts}
use Rattle.foundation.proofs.Theorems.{plan-has_its_facts, subscripts_open}
use Rattle.run_slots.specs.Index.{Indexed, Grid, Layout}
use Rattle.run_slots.proofs.Exchange.{grid-from}

-- a side that agrees has the plan's index stores
module _ (s : Planning) (side : Side) (n : ℕ) (q : SideStores) (agreed : same_side s side n q ≡ true) (opens : Opens s side n)
    (ascends : (k : ℕ) → Ascending (suc k) (kept s side k)) where
  starts_are : q.starts ≡ starts_store s side n
  unfolding same_side
  starts_are = same_equal q.starts (starts_store s side n) (and_left (same q.starts (starts_store s side n)) _ agreed)

  slots_are : q.slot_starts ≡ slot_starts s side n
  unfolding same_side
  slots_are =
      same_equal q.slot_starts (slot_starts s side n)
      (and_left (same q.slot_starts (slot_starts s side n)) _ (and_right (same q.starts (starts_store s side n)) _ agreed))

  used : List ℕ
  used = (shared s side n).store

  subs-begin : take (length used) q.subs ≡ used
  unfolding same_side subscripts used
  subs-begin =
      same_equal (take (length (shared s side n).store) q.subs) (shared s side n).store
      (and_right (same q.slot_starts (slot_starts s side n)) _ (and_right (same q.starts (starts_store s side n)) _ agreed))

  subs_are : used ++ drop (length used) q.subs ≡ q.subs
  subs_are = ap (λ (xs : List ℕ). xs ++ drop (length used) q.subs) (sym subs-begin) ∙ take-append-drop (length used) q.subs

  start : (k : ℕ) → 1 ≤ k → k ≤ n → get_or q.starts (k - 1) 0 ≡ (shared s side n).start k
  start k low high = let e : suc (k - 1) ≡ k = omega arith in rw starts_are (start_at_lem s side n (k - 1) (omega arith) ∙ rw e)

  lies : (k : ℕ) → 1 ≤ k → k ≤ n → Lies (kept s side k) q.subs ((shared s side n).start k)
  unfolding used
  lies k low high =
      rw subs_are at (lies_on (kept s side k) used (drop (length used) q.subs) ((shared s side n).start k)
      (record { inside = opens.inside k low high; reads = opens.reads_list k low high }))

  side_indexed : Indexed s side n q
  unfolding opened
  side_indexed = record {
    places = rw slots_are (length-slot-starts s side n ∙ sym (add-one n));
    started = rw starts_are (length-starts s side n);
    slot = λ k high. rw slots_are (slot_start_at s side n k high);
    inside = λ k low high. rw (start k low high) (lies k low high).inside;
    opens = λ k low high. rw (start k low high) (lies k low high).reads;
    ascends = λ k. rw (add-one k) (ascends k);
  }

-- Where 1 to 5 and 9 are not given, the lent stores are laid out as the pattern's plan.
pub agreed_layout : (most : ℕ) (p : Lent) (q : LentPlan) → pattern_fault most p ≡ 0 → agrees p (plan (pattern_of p)) q ≡ true
    → Layout (pattern_of p) (plan (pattern_of p)) p.n q.stores
unfolding agrees pattern_of max_n max_height
agreed_layout most p q passes agreed =
    let s = plan (pattern_of p) in
    let facts = plan-has_its_facts most p passes in
    let grid : Grid s p.n p.height = grid-from (pattern_of p) s facts in
    let sides = and_right (same_counts q.counts (counts_of p s)) _ agreed in
    record {
      width = refl;
      tall = (passes_height most p passes).0;
      rows_few = (passes_height most p passes).1;
      some = (passes_small most p passes).0;
      few = (passes_small most p passes).2;
      lowers = side_indexed s lower p.n q.stores.lower_side (and_left (same_side s lower p.n q.stores.lower_side) _ sides)
          (subscripts_open most p passes lower) (grid.ascends lower);
      uppers = side_indexed s upper p.n q.stores.upper_side (and_right (same_side s lower p.n q.stores.lower_side) _ sides)
          (subscripts_open most p passes upper) (grid.ascends upper);
      grid = grid;
      closed = facts.closed;
    }
