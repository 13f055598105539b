-- The stores that planning leaves open to the plan's kept lists: starts and slots' starts fill theirs, and zeros behind the subscripts change nothing.
use mathlib.Core.Bool.{true}
use mathlib.Core.Path.{◌≡◌, refl, sym, subst}
use Prim.Native.Nat.{ℕ, zero, suc, ◌+◌, ◌-◌, ◌≤◌}
use native.Mathlib.Omega.{arith}
use lib.ListN.{length, get_or, take, drop, replicate}
use Rattle.lists.specs.Functions.{padded}
use Rattle.lists.proofs.Members.{and_left, and_right}
use Rattle.foundation.specs.Answer.{granted, result_store}
use Rattle.foundation.specs.Claims.{SideOpens, StoresOpen}
use Rattle.foundation.specs.Facts.{Opens}
use Rattle.foundation.specs.Pattern.{Lent, pattern_of, pattern_fault}
use Rattle.foundation.specs.Plan.{Planning, Side, lower, upper, plan}
use Rattle.foundation.specs.PlanCall.{SideStores, subscripts, starts_sized, sizes_fit, subscripts_after, side_after, plan_leaves}
use Rattle.foundation.specs.Slots.{slot_starts}
use Rattle.foundation.specs.Subscripts.{kept, shared, opened, starts_store}
use Rattle.foundation.proofs.Accepted.{starts_left, slots_left, granted-asked}
use Rattle.foundation.proofs.Opening.{Lies, lies_on}
use Rattle.foundation.proofs.Starts.{slots_next, slots_none, slot_start_at, start_at_lem}

-- as many as lie from the end of a part to the end of the next
less_part : (a b : ℕ) → a + b - a ≡ b
less_part a b = omega arith

module _ (s : Planning) (side : Side) (n : ℕ) (open_there : Opens s side n) where
  -- each kept list lies in the subscripts, zeros behind them or not
  lies_padded : (room k : ℕ) → 1 ≤ k → k ≤ n → Lies (kept s side k) (padded 0 room (subscripts s side n)) ((shared s side n).start k)
  unfolding padded subscripts
  lies_padded room k low high =
      lies_on (kept s side k) _ (replicate (room - length (shared s side n).store) 0) _
      (record { inside = open_there.inside k low high; reads = open_there.reads_list k low high })

  module _ (q : SideStores) (room : ℕ) (starts_are : q.starts ≡ starts_store s side n) (slots_are : q.slot_starts ≡ slot_starts s side n)
      (subs_are : q.subs ≡ padded 0 room (subscripts s side n)) where
    slots-from : (t : ℕ) → suc t ≤ n → get_or q.slot_starts (suc t) 0 ≡ get_or q.slot_starts t 0 + length (kept s side (suc t))
    slots-from t high =
        rw (slots_are, slot_start_at s side n (suc t) high, slot_start_at s side n t (omega arith)) (slots_next s side t)

    lies_there : (t : ℕ) → suc t ≤ n → Lies (kept s side (suc t)) q.subs (get_or q.starts t 0)
    lies_there t high = rw (subs_are, starts_are, start_at_lem s side n t high) (lies_padded room (suc t) (omega arith) high)

    opens-from :
        (t : ℕ) → suc t ≤ n → take (get_or q.slot_starts (suc t) 0 - get_or q.slot_starts t 0) (drop (get_or q.starts t 0) q.subs) ≡ kept s side (suc t)
    unfolding opened
    opens-from t high = rw (slots-from t high, less_part (get_or q.slot_starts t 0) (length (kept s side (suc t)))) (lies_there t high).reads

    -- a fact of step k and place k - 1 is one of step t + 1 and place t
    by_step : (P : ℕ → ℕ → Type 0) → ((t : ℕ) → suc t ≤ n → P (suc t) t) → (k : ℕ) → (1 ≤ k) × (k ≤ n) → P k (k - 1)
    by_step P at zero (low, high) = absurd (omega (arith, low))
    by_step P at (suc t) (low, high) = let same : t ≡ suc t - 1 = omega arith in subst (P (suc t)) same (at t high)

    side-opens : SideOpens s side n q
    side-opens =
        record {
          first = rw (slots_are, slot_start_at s side n 0 (omega arith)) (slots_none s side);
          slots = by_step (λ k before. get_or q.slot_starts k 0 ≡ get_or q.slot_starts before 0 + length (kept s side k)) slots-from;
          inside = by_step (λ k before. get_or q.starts before 0 + length (kept s side k) ≤ length q.subs) (λ t high. (lies_there t high).inside);
          opens =
              by_step
              (λ k before. take (get_or q.slot_starts k 0 - get_or q.slot_starts before 0) (drop (get_or q.starts before 0) q.subs) ≡ kept s side k)
              opens-from;
        }

-- a side as a call that grants leaves it
side_left :
    (p : Lent) (s : Planning) (side : Side) (before : SideStores) → starts_sized p before ≡ true → Opens s side p.n
    → SideOpens s side p.n (side_after side p.n (granted s) before)
unfolding side_after subscripts_after result_store
side_left p s side before sized open_there =
    side-opens s side p.n open_there (side_after side p.n (granted s) before) (length before.subs) (starts_left p s side before sized)
    (slots_left p s side before sized) refl

-- The stores open, if the subscripts of a plan that passes do.
pub stores_open_from :
    ((most : ℕ) (p : Lent) → pattern_fault most p ≡ 0 → (side : Side) → Opens (plan (pattern_of p)) side p.n) → StoresOpen
unfolding StoresOpen sizes_fit plan_leaves
stores_open_from open-plan most p stores work s e =
    let a = granted-asked most p stores work s e in
    let low : starts_sized p stores.lower_side ≡ true = and_left (starts_sized p stores.lower_side) _ a.sized in
    let up : starts_sized p stores.upper_side ≡ true = and_left (starts_sized p stores.upper_side) _ (and_right (starts_sized p stores.lower_side) _ a.sized) in
    let opens : (side : Side) → Opens s side p.n = λ side. subst (λ t. Opens t side p.n) (sym a.is) (open-plan most p a.passes side) in
    rw e (side_left p s lower stores.lower_side low (opens lower), side_left p s upper stores.upper_side up (opens upper))
