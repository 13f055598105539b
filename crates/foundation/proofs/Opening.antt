-- Shared subscripts open to the kept lists: how a side's store and its starts grow, and why each list is read out again.
use mathlib.Core.Bool.{true, false}
use mathlib.Core.List.{List, [], ◌∷◌, ◌++◌, append-nil, append_assoc}
use mathlib.Core.Path.{◌≡◌, refl, sym, ◌∙◌}
use Prim.Native.Nat.{ℕ, zero, suc, ◌+◌, ◌-◌, ◌≤◌, ◌<◌}
use native.Mathlib.Decide.{dec_le}
use native.Mathlib.Omega.{arith}
use lib.Dec.{ltb}
use lib.ListN.{length, take, drop, length-append, length-drop, take-append-drop}
use lib.Seq.{take-length, take-append-le, take-append_seam, drop-append-le, drop-drop}
use borrow.Author.Tests.{ltb-true}
use Rattle.lists.specs.Functions.{empty}
use Rattle.lists.proofs.Members.{by_test, empty-nil}
use Rattle.lists.proofs.Overlap.{overlap_left, overlap_right, overlap_same}
use Rattle.lists.proofs.Places.{update_same, update_other}
use Rattle.foundation.specs.Plan.{Planning, Side}
use Rattle.foundation.specs.Subscripts.{Shared, kept, sole_step, shared_end, start_at, added_at, shared, opened}
use Rattle.foundation.specs.Facts.{Opens}

-- ---- a list that lies in a store

-- A list lies in a store from a start on: it ends no later than the store, and start and length read it out.
pub record Lies (xs store : List ℕ) (start : ℕ) : Type 0 where
  pub inside : start + length xs ≤ length store
  pub reads : opened store start (length xs) ≡ xs

-- a list lies where it lay when more is put behind the store
pub lies_on : (xs store more : List ℕ) (start : ℕ) → Lies xs store start → Lies xs (store ++ more) start
unfolding opened
lies_on xs store more start h =
    let i = h.inside in
    let room : length xs ≤ length (drop start store) = rw length-drop (omega arith) in
    record {
      inside = rw length-append (omega arith);
      reads = rw (drop-append-le start store more (omega arith), take-append-le (length xs) (drop start store) more room) h.reads;
    }

-- an empty list lies at every place of a store
pub lies_empty : (store : List ℕ) (start : ℕ) → start ≤ length store → Lies [] store start
unfolding opened
lies_empty store start h = record { inside = omega arith; reads = refl }

behind_first : (k : ℕ) (xs ys : List ℕ) → take (suc (length xs)) ys ≡ k ∷ xs → take (length xs) (drop 1 ys) ≡ xs
behind_first k xs [] e = cc
behind_first k xs (y ∷ ys) e = cc

-- what a list has behind its first member lies one place on
pub lies_behind : (k : ℕ) (xs store : List ℕ) (start : ℕ) → Lies (k ∷ xs) store start → Lies xs store (start + 1)
unfolding opened
lies_behind k xs store start h =
    let i = h.inside in
    record { inside = omega arith; reads = rw (← drop-drop 1 start store) (behind_first k xs (drop start store) h.reads) }

-- The last t of a store are the first t of a list.
pub record Joins (t : ℕ) (store new : List ℕ) : Type 0 where
  pub in_store : t ≤ length store
  pub in_new : t ≤ length new
  pub same : drop (length store - t) store ≡ take t new

-- such a list lies from those t on, once its rest is put behind the store
pub lies_joined : (t : ℕ) (new store : List ℕ) → Joins t store new → Lies new (store ++ drop t new) (length store - t)
unfolding opened
lies_joined t new store j =
    let a = j.in_store in
    let b = j.in_new in
    record {
      inside = rw (length-append, length-drop) (omega arith);
      reads = rw (drop-append-le (length store - t) store (drop t new) (omega arith), j.same, take-append-drop t new) (take-length new);
    }

-- ---- the rule for t

-- Of the rule for t, this alone is used: t is at most both lengths, and the store's last t are the new list's first t.
pub shared_end_law : (sh : Shared) (new : List ℕ) → Joins (shared_end sh new) sh.store new
unfolding shared_end
shared_end_law sh new = record { in_store = overlap_left sh.store new; in_new = overlap_right sh.store new; same = overlap_same sh.store new }

-- ---- a step

module _ (s : Planning) (side : Side) where
  -- the store after a step is the store before it and what the step adds
  pub store_next : (k : ℕ) → (shared s side (suc k)).store ≡ (shared s side k).store ++ added_at s side (shared s side k) k
  unfolding shared
  store_next k = refl

  -- a step sets its own start
  pub start_next : (k : ℕ) → (shared s side (suc k)).start (suc k) ≡ start_at s side (shared s side k) k
  unfolding shared
  start_next k = update_same (shared s side k).start (suc k) (start_at s side (shared s side k) k)

  -- a step leaves the other starts
  pub start_before : (k l : ℕ) → l ≤ k → (shared s side (suc k)).start l ≡ (shared s side k).start l
  unfolding shared
  start_before k l h = update_other (shared s side k).start (suc k) (start_at s side (shared s side k) k) l (omega arith)

  -- ---- the three cases

  module _ (sh : Shared) (k : ℕ) where
    -- an empty list starts at the store's end
    pub start_empty : empty (kept s side (suc k)) ≡ true → start_at s side sh k ≡ length sh.store
    unfolding start_at
    start_empty e = rw e

    -- an empty list adds nothing
    pub added_empty : empty (kept s side (suc k)) ≡ true → added_at s side sh k ≡ []
    unfolding added_at
    added_empty e = rw e

    -- a list that is another's without its first starts one place behind it
    pub start_sole :
        empty (kept s side (suc k)) ≡ false → ltb 0 (sole_step s (suc k)) ≡ true
        → start_at s side sh k ≡ sh.start (sole_step s (suc k)) + 1
    unfolding start_at
    start_sole e f = rw (e, f)

    -- such a list adds nothing
    pub added_sole : empty (kept s side (suc k)) ≡ false → ltb 0 (sole_step s (suc k)) ≡ true → added_at s side sh k ≡ []
    unfolding added_at
    added_sole e f = rw (e, f)

    -- every other list starts at the store's end less t
    pub start_joined :
        empty (kept s side (suc k)) ≡ false → ltb 0 (sole_step s (suc k)) ≡ false
        → start_at s side sh k ≡ length sh.store - shared_end sh (kept s side (suc k))
    unfolding start_at
    start_joined e f = rw (e, f)

    -- every other list adds what it has behind its first t
    pub added_joined :
        empty (kept s side (suc k)) ≡ false → ltb 0 (sole_step s (suc k)) ≡ false
        → added_at s side sh k ≡ drop (shared_end sh (kept s side (suc k))) (kept s side (suc k))
    unfolding added_at
    added_joined e f = rw (e, f)

  -- ---- growth

  -- the store after m steps is the store after k steps and more behind it, if k is at most m
  pub store_grows : (k m : ℕ) → k ≤ m → (rest : List ℕ) × ((shared s side m).store ≡ (shared s side k).store ++ rest)
  store_grows k zero h =
      let e : k ≡ 0 = omega arith in
      ([], rw e (sym (append-nil _)))
  store_grows k (suc m) h =
      elim (dec_le k m) [
        | yes l ↦
            let (rest, e) = store_grows k m l in
            (rest ++ added_at s side (shared s side m) m, rw (store_next m, e, append_assoc))
        | no n ↦
            let e : k ≡ suc m = omega arith in
            ([], rw e (sym (append-nil _)))
      ]

  -- the store after k steps is how the store after m steps begins
  pub store-begins : (k m : ℕ) → k ≤ m → take (length (shared s side k).store) (shared s side m).store ≡ (shared s side k).store
  store-begins k m h =
      let (rest, e) = store_grows k m h in
      rw e (take-append_seam (shared s side k).store rest)

  -- the store does not get shorter
  pub length_grows : (k m : ℕ) → k ≤ m → length (shared s side k).store ≤ length (shared s side m).store
  length_grows k m h =
      let (rest, e) = store_grows k m h in
      rw (e, length-append) (omega arith)

  -- once a step is done, its start stays
  pub starts_stay : (l k m : ℕ) → l ≤ k → k ≤ m → (shared s side m).start l ≡ (shared s side k).start l
  starts_stay l k zero h g =
      let e : k ≡ 0 = omega arith in
      rw e
  starts_stay l k (suc m) h g =
      elim (dec_le k m) [
        | yes b ↦ start_before m l (omega arith) ∙ starts_stay l k m h b
        | no n ↦
            let e : k ≡ suc m = omega arith in
            rw e
      ]

  -- where a list lies after k steps, it lies after every later number of steps
  pub lies_later :
      (l k m : ℕ) → l ≤ k → k ≤ m → Lies (kept s side l) (shared s side k).store ((shared s side k).start l)
      → Lies (kept s side l) (shared s side m).store ((shared s side m).start l)
  lies_later l k m h g lies =
      let (rest, e) = store_grows k m g in
      rw (e, starts_stay l k m h g) (lies_on (kept s side l) (shared s side k).store rest ((shared s side k).start l) lies)

  -- ---- every list opens

  -- The new list of a step lies in the store after it, if the list of which it is the rest, where there is such a list, lies in the store
  -- before it.
  pub lies_added :
      (sh : Shared) (k : ℕ) → (0 < sole_step s (suc k) → Lies (suc k ∷ kept s side (suc k)) sh.store (sh.start (sole_step s (suc k))))
      → Lies (kept s side (suc k)) (sh.store ++ added_at s side sh k) (start_at s side sh k)
  lies_added sh k whole =
      by_test (empty new)
      (λ e. rw (start_empty sh k e, empty-nil new e) (lies_on [] sh.store _ _ (lies_empty sh.store _ (omega arith))))
      (λ e. by_test (ltb 0 (sole_step s (suc k)))
      (λ f. rw (start_sole sh k e f)
      (lies_on new sh.store _ _ (lies_behind (suc k) new sh.store _ (whole (ltb-true 0 (sole_step s (suc k)) f)))))
      (λ f. rw (start_joined sh k e f, added_joined sh k e f)
      (lies_joined _ new sh.store (shared_end_law sh new))))
    where
      new : List ℕ
      new = kept s side (suc k)

  module _ (n : ℕ)
      (sole : (k : ℕ) → 1 ≤ k → k ≤ n → 0 < sole_step s k → (sole_step s k < k) × (kept s side (sole_step s k) ≡ k ∷ kept s side k))
      (nothing : kept s side 0 ≡ []) where
    lies_first : Lies (kept s side 0) (shared s side 0).store ((shared s side 0).start 0)
    unfolding shared
    lies_first = rw nothing (lies_empty [] 0 (omega arith))

    -- after k steps every list up to k lies in the store
    pub all_lie : (k l : ℕ) → k ≤ n → l ≤ k → Lies (kept s side l) (shared s side k).store ((shared s side k).start l)
    all_lie zero l kn lk =
        let e : l ≡ 0 = omega arith in
        rw e lies_first
    all_lie (suc k) l kn lk =
        elim (dec_le l k) [
          | yes h ↦ lies_later l k (suc k) h (omega arith) (all_lie k l (omega arith) h)
          | no h ↦
              let e : l ≡ suc k = omega arith in
              rw (e, store_next k, start_next k)
              (lies_added (shared s side k) k λ p.
              let (b, q) = sole (suc k) (omega arith) kn p in
              rw (← q) (all_lie k (sole_step s (suc k)) (omega arith) (omega arith)))
        ]

    -- the kept lists of the first n steps open, if each list that is a rest is the rest of an earlier one
    pub opens : Opens s side n
    opens =
        record {
          inside = λ k _ h. (all_lie n k (omega arith) h).inside;
          reads_list = λ k _ h. (all_lie n k (omega arith) h).reads;
        }
