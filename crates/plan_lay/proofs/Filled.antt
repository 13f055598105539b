-- Stores filled with the first steps of a plan: where there is none, what they say, one step more.
use mathlib.Core.List.{List, [], ◌∷◌, ◌++◌}
use mathlib.Core.Path.{◌≡◌, sym, ap, ◌∙◌}
use Prim.Native.Nat.{ℕ, suc, ◌+◌, ◌-◌, ◌≤◌, ◌<◌}
use native.Mathlib.Omega.{arith}
use lib.ListN.{length, take, drop, set, get_or, replicate, length-append, length-replicate, replicate-append-replicate, get_or-append}
use lib.Seq.{append_snoc, set-append_seam, drop_at, drop-append-add}
use Rattle.lists.specs.Functions.{padded}
use Rattle.lists.specs.Sets.{upto, run}
use Rattle.lists.proofs.Places.{length-padded, padded-take, padded-nil}
use Rattle.foundation.specs.Pattern.{Lent}
use Rattle.foundation.specs.Plan.{Planning, Side}
use Rattle.foundation.specs.PlanCall.{SideStores}
use Rattle.foundation.specs.Subscripts.{kept, shared, start_at, added_at, starts_store}
use Rattle.foundation.specs.Slots.{slots_of, slot_starts}
use Rattle.foundation.proofs.Opening.{store_next, start_next}
use Rattle.foundation.proofs.Starts.{slots_next, length-slot-starts, slot_start_at, slot-starts_next, length-starts, start_at_lem, starts_next}
use Rattle.answers.specs.Stores.{side_stores}
use Rattle.plan_gather.specs.Ready.{plan_of}
use Rattle.plan_gather.specs.Steps.{StepOf, SideAt}
use Rattle.plan_gather.specs.Contains.{used, Contains}
use Rattle.plan_lay.specs.Filled.{Filled}

-- ---- filled stores

-- a number written behind a list
pub set-padded : (n v : ℕ) (xs : List ℕ) → length xs < n → set (padded 0 n xs) (length xs) v ≡ padded 0 n (xs ++ v ∷ [])
unfolding padded
set-padded n v xs h =
    let more : length (xs ++ v ∷ []) ≡ length xs + 1 = length-append xs (v ∷ []) in
    let left : n - length xs ≡ suc (n - length (xs ++ v ∷ [])) = omega arith in
    rw (left, set-append_seam xs 0 (replicate (n - length (xs ++ v ∷ [])) 0) v, append_snoc)

-- one number many times, without the first of them
drop_same : (v m r : ℕ) → m ≤ r → drop m (replicate r v) ≡ replicate (r - m) v
drop_same v m r h =
    let both : m + (r - m) ≡ r = omega arith in
    let e : replicate m v ++ replicate (r - m) v ≡ replicate r v = replicate-append-replicate m (r - m) v ∙ ap (λ (c : ℕ). replicate c v) both in
    rw (← e) (drop_at (replicate m v) (replicate (r - m) v) m (length-replicate m v))

-- a list written behind a list
pub added_padded :
    (room : ℕ) (xs ys : List ℕ) → length xs + length ys ≤ room
    → take (length xs) (padded 0 room xs) ++ ys ++ drop (length xs + length ys) (padded 0 room xs) ≡ padded 0 room (xs ++ ys)
unfolding padded
added_padded room xs ys h =
    let less : room - length (xs ++ ys) ≡ room - length xs - length ys = rw (length-append xs ys) (omega arith) in
    let front : take (length xs) (xs ++ replicate (room - length xs) 0) ≡ xs = padded-take 0 room xs in
    let behind : drop (length xs + length ys) (xs ++ replicate (room - length xs) 0) ≡ replicate (room - length xs - length ys) 0 =
    drop-append-add xs (replicate (room - length xs) 0) (length ys) ∙ drop_same 0 (length ys) (room - length xs) (omega arith) in
    rw (front, behind, less)

-- what is read of a filled store
pub get_or-padded : (n i : ℕ) (xs : List ℕ) → i < length xs → get_or (padded 0 n xs) i 0 ≡ get_or xs i 0
unfolding padded
get_or-padded n i xs h = get_or-append xs (replicate (n - length xs) 0) 0 i h

module _ (s : Planning) (side : Side) where
  -- zeros are filled with no step
  pub filled_none :
      (n room : ℕ) (subs starts slots : List ℕ) → subs ≡ replicate room 0 → starts ≡ replicate n 0 → slots ≡ replicate (suc n) 0
      → Filled s side n 0 room (side_stores subs starts slots)
  unfolding used shared starts_store slot_starts slots_of upto run padded
  filled_none n room subs starts slots a b c =
      let one : suc n - 1 ≡ n = omega arith in
      record {
        fits = omega arith;
        subs_are = a ∙ sym (padded-nil 0 room);
        starts_are = b ∙ sym (padded-nil 0 n);
        slots_are = c ∙ rw one;
      }

  module _ {n k room : ℕ} {i : SideStores} (filled : Filled s side n k room i) where
    -- ---- what the stores say

    -- the subscripts' store has the room that is said
    pub filled-room : length i.subs ≡ room
    unfolding used
    filled-room = ap length filled.subs_are ∙ length-padded 0 room (shared s side k).store filled.fits

    -- the lists of the first k steps can be read
    pub filled_contains : k ≤ n → Contains s side n k i
    unfolding used
    filled_contains h =
        let a = length-starts s side k in
        let b = length-slot-starts s side k in
        record {
          subs-begin = ap (take (used s side k)) filled.subs_are ∙ padded-take 0 room (shared s side k).store;
          subs-room = rw filled-room filled.fits;
          starts_size = ap length filled.starts_are ∙ length-padded 0 n (starts_store s side k) (omega arith);
          slots_size = ap length filled.slots_are ∙ length-padded 0 (suc n) (slot_starts s side k) (omega arith);
          starts_at = λ l low high.
              let e : suc (l - 1) ≡ l = omega arith in
              ap (λ (xs : List ℕ). get_or xs (l - 1) 0) filled.starts_are ∙ get_or-padded n (l - 1) (starts_store s side k) (omega arith)
              ∙ start_at_lem s side k (l - 1) (omega arith) ∙ ap (shared s side k).start e;
          slots_at = λ l high.
              ap (λ (xs : List ℕ). get_or xs l 0) filled.slots_are ∙ get_or-padded (suc n) l (slot_starts s side k) (omega arith)
              ∙ slot_start_at s side k l high;
        }

    -- ---- one step more

    -- step k + 1 adds a list at the store's end, and notes its start and the end of its slots
    pub filled_next :
        (added : List ℕ) (start : ℕ) → suc k ≤ n → added_at s side (shared s side k) k ≡ added → start_at s side (shared s side k) k ≡ start
        → used s side k + length added ≤ room
        → Filled s side n (suc k) room (side_stores (take (used s side k) i.subs ++ added ++ drop (used s side k + length added) i.subs) (set i.starts k start) (set i.slot_starts (suc k) (get_or i.slot_starts k 0 + length (kept s side (suc k)))))
    unfolding used
    filled_next added start h a b r =
        let sh = shared s side k in
        let store : (shared s side (suc k)).store ≡ sh.store ++ added = store_next s side k ∙ rw a in
        let contained = filled_contains (omega arith) in
        let slot : get_or i.slot_starts k 0 + length (kept s side (suc k)) ≡ slots_of s side (suc k) =
        rw (contained.slots_at k (omega arith)) (sym (slots_next s side k)) in
        let first : starts_store s side (suc k) ≡ starts_store s side k ++ start ∷ [] = starts_next s side k ∙ rw (start_next s side k, b) in
        let size : length (starts_store s side k) ≡ k = length-starts s side k in
        let width : length (slot_starts s side k) ≡ suc k = length-slot-starts s side k in
        let noted : set i.starts (length (starts_store s side k)) start ≡ padded 0 n (starts_store s side (suc k)) =
        rw (filled.starts_are, first) (set-padded n start (starts_store s side k) (omega arith)) in
        let ended : set i.slot_starts (length (slot_starts s side k)) (slots_of s side (suc k)) ≡ padded 0 (suc n) (slot_starts s side (suc k)) =
        rw (filled.slots_are, slot-starts_next s side k) (set-padded (suc n) (slots_of s side (suc k)) (slot_starts s side k) (omega arith)) in
        record {
          fits = rw (store, length-append) r;
          subs_are = rw (store, filled.subs_are) (added_padded room sh.store added r);
          starts_are = rw size at noted;
          slots_are = rw slot (rw width at ended);
        }

-- at a step the lists of all steps before it can be read
pub filled_at :
    {p : Lent} {side : Side} {n k room end : ℕ} {i : SideStores} → StepOf p n k → Filled (plan_of p) side n (k - 1) room i
    → end ≡ used (plan_of p) side (k - 1) → SideAt p side n k i end
filled_at {p} {side} of filled end_is =
    let high = of.high in
    record { step = of; contained = filled_contains (plan_of p) side filled (omega arith); end_is = end_is }
