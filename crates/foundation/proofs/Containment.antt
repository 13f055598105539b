-- The slots suffice: lists that are closed for a pattern keep every occupied place of an elimination in a slot. Said of sets of places and of
-- steps on them, so that one theorem serves the free elimination ("nonzero") and the run in floats ("bits other than +0's").
use mathlib.Core.Bool.{Bool, true, false, ◌&&◌, or-true, false≢true}
use mathlib.Core.List.{List, [], ◌∷◌}
use mathlib.Core.Logic.{◌⊎◌, inl, inr}
use mathlib.Core.Path.{◌≡◌, refl, subst, sym, ◌∙◌}
use Prim.Native.Nat.{ℕ, zero, suc, ◌+◌, ◌≤◌, ◌<◌}
use native.Mathlib.Decide.{dec_lt}
use native.Mathlib.Omega.{arith}
use lib.Dec.{eqb, ltb, leb}
use borrow.Author.Tests.{eqb-true, ltb-true, ltb-false, leb-true, eq-eqb, lt-ltb, le-leb}
use Rattle.lists.specs.Functions.{keep}
use Rattle.lists.specs.Sets.{member, first, least_above}
use Rattle.lists.proofs.Members.{member_tail, by_test, or_true_cases}
use Rattle.foundation.specs.Closed.{Closed, Places, Involved, StepOn, Ahead, Held}
use Rattle.foundation.specs.Pattern.{Pattern, present}
use Rattle.foundation.specs.Slots.{slot_in}

-- ---- tests and lists

and_true_parts : (a b : Bool) → a && b ≡ true → (a ≡ true) × (b ≡ true)
and_true_parts true b e = (refl, e)
and_true_parts false b e = absurd (false≢true e)

-- Either a list has no member above k, or least_above gives one. (That it is the least of them is not needed.)
abbrev Above : ℕ → List ℕ → Type 0
Above k xs = ((x : ℕ) → member x xs ≡ true → k < x → ⊥) ⊎ ((k < least_above k xs) × (member (least_above k xs) xs ≡ true))

above_head : (k y : ℕ) (ys : List ℕ) → ltb k y ≡ true → Above k (y ∷ ys)
unfolding member least_above first keep
above_head k y ys t = inr (rw t (omega (arith, ltb-true k y t)), rw (t, eq-eqb y y refl))

least_above_tail : (k y : ℕ) (ys : List ℕ) → ltb k y ≡ false → least_above k (y ∷ ys) ≡ least_above k ys
unfolding least_above keep
least_above_tail k y ys t = rw t refl

above_tail : (k y : ℕ) (ys : List ℕ) → ltb k y ≡ false → Above k ys → Above k (y ∷ ys)
unfolding member
above_tail k y ys t (inl none) = inl (λ x m h. refuse x h (or_true_cases (eqb x y) (member x ys) m))
  where
    refuse : (x : ℕ) → k < x → (eqb x y ≡ true) ⊎ (member x ys ≡ true) → ⊥
    refuse x h (inl e) = omega (arith, eqb-true x y e, ltb-false k y t)
    refuse x h (inr m) = none x m h
above_tail k y ys t (inr found) =
    let same = least_above_tail k y ys t in
    inr (rw same found.0, subst (λ (x : ℕ). member x (y ∷ ys) ≡ true) (sym same) (member_tail (least_above k ys) y ys found.1))

above : (k : ℕ) (xs : List ℕ) → Above k xs
unfolding member
above k [] = inl (λ x m h. false≢true m)
above k (y ∷ ys) = by_test (ltb k y) (above_head k y ys) (λ t. above_tail k y ys t (above k ys))

-- ---- rows that a step involves

-- They stand from k on.
pub involved_from : (k i : ℕ) (before : Places) → Involved k before i → k ≤ i
involved_from k i before (inl e) = omega arith
involved_from k i before (inr m) = omega arith

-- ---- places of the pattern

present_parts : (p : Pattern) (i j : ℕ) → present p i j ≡ true → (1 ≤ i) × (i ≤ p.height) × (member j (p.row i) ≡ true)
unfolding present
present_parts p i j e =
    let parts : (leb 1 i && leb i p.height ≡ true) × (member j (p.row i) ≡ true) = and_true_parts _ _ e in
    let ends : (leb 1 i ≡ true) × (leb i p.height ≡ true) = and_true_parts _ _ parts.0 in
    (leb-true _ _ ends.0, leb-true _ _ ends.1, parts.1)

present_of : (p : Pattern) (i j : ℕ) → 1 ≤ i → i ≤ p.height → member j (p.row i) ≡ true → present p i j ≡ true
unfolding present
present_of p i j low high m = rw (le-leb 1 i low, le-leb i p.height high, m)

-- ---- slots

-- The three ways to have a slot; the last two take the diagonal in, so that no caller has to tell it apart.
module _ (L U : ℕ → List ℕ) where
  slot-diagonal : (i j : ℕ) → i ≡ j → slot_in L U i j ≡ true
  unfolding slot_in
  slot-diagonal i j e = rw (eq-eqb i j e)

  slot_right : (i j : ℕ) → i ≤ j → member j (U i) ≡ true → slot_in L U i j ≡ true
  unfolding slot_in
  slot_right i j h m = elim (dec_lt i j) [ yes l ↦ rw (lt-ltb i j l, m) (or-true (eqb i j)) | no n ↦ slot-diagonal i j (omega arith) ]

  slot_below : (i j : ℕ) → j ≤ i → member i (L j) ≡ true → slot_in L U i j ≡ true
  unfolding slot_in
  slot_below i j h m = elim (dec_lt j i) [ yes l ↦ simp (lt-ltb j i l, m, or-true) | no n ↦ slot-diagonal i j (omega arith) ]

module _ {p : Pattern} {L U : ℕ → List ℕ} (closed : Closed p L U) where
  -- ---- the chain

  -- A row and a column of the lists of q have a slot, or are handed on to the lists of a later r that is no later than the row.
  chain_step :
      (q i j : ℕ) → member i (L q) ≡ true → member j (U q) ≡ true
      → (slot_in L U i j ≡ true) ⊎ ((r : ℕ) × (q < r) × (r ≤ i) × (member i (L r) ≡ true) × (member j (U r) ≡ true))
  chain_step q i j mi mj =
      elim (dec_lt q i) [
        | yes qi ↦ elim (dec_lt q j) [ yes qj ↦ handed qi qj (above q (U q)) | no n ↦ inl (at_column n) ]
        | no n ↦ inl (at_row n)
      ]
    where
      at_row : ¬ (q < i) → slot_in L U i j ≡ true
      at_row n =
          let e : q ≡ i = omega (arith, (closed.lower_range q i mi).0) in
          slot_right L U i j (omega (arith, (closed.upper_range q j mj).0)) (rw e at mj)

      at_column : ¬ (q < j) → slot_in L U i j ≡ true
      at_column n =
          let e : q ≡ j = omega (arith, (closed.upper_range q j mj).0) in
          slot_below L U i j (omega (arith, (closed.lower_range q i mi).0)) (rw e at mi)

      handed :
          q < i → q < j → Above q (U q)
          → (slot_in L U i j ≡ true) ⊎ ((r : ℕ) × (q < r) × (r ≤ i) × (member i (L r) ≡ true) × (member j (U r) ≡ true))
      handed qi qj (inl none) = absurd (none j mj qj)
      handed qi qj (inr found) =
          let r : ℕ = least_above q (U q) in
          let low : member i (L r) ≡ true = closed.handed_lower q i j mi qi mj qj in
          inr (r, found.0, (closed.lower_range r i low).0, low, closed.handed_upper q i j mi qi mj qj)

  -- q grows towards the row at each handing on, so `fuel` bounds how often that happens
  chain-within : (fuel q i j : ℕ) → i ≤ q + fuel → member i (L q) ≡ true → member j (U q) ≡ true → slot_in L U i j ≡ true
  chain-within zero q i j h mi mj = elim (chain_step q i j mi mj) [ inl s ↦ s | inr r ↦ absurd (omega arith) ]
  chain-within (suc fuel) q i j h mi mj =
      elim (chain_step q i j mi mj) [ inl s ↦ s | inr r ↦ chain-within fuel r.0 i j (omega arith) r.3 r.4 ]

  -- A row of L_q and a column of U_q meet in a place that has a slot.
  pub chain : (q i j : ℕ) → member i (L q) ≡ true → member j (U q) ≡ true → slot_in L U i j ≡ true
  chain q i j = chain-within i q i j (omega arith)

  -- Where the invariant holds, every occupied place has a slot.
  pub contained : {k : ℕ} {occupied : Places} → Held p L U k occupied → (i j : ℕ) → occupied i j ≡ true → slot_in L U i j ≡ true
  contained {k} {occupied} held i j o =
      elim (dec_lt i k) [
        | yes l ↦ held.done i j o (inl l)
        | no ni ↦ elim (dec_lt j k) [ yes l ↦ held.done i j o (inr l) | no nj ↦ slot (omega arith) (held.ahead i (omega arith)) ]
      ]
    where
      slot : k ≤ j → Ahead L U k occupied i → slot_in L U i j ≡ true
      slot kj (inl blank) = absurd (blank j kj o)
      slot kj (inr s) = chain s.0 i j s.3 (s.4 j kj o)

  -- ---- the start

  -- The invariant holds before step 1 of whatever occupies only places of the pattern, whose columns count from 1.
  pub held_at_start :
      (occupied : Places) → ((i j : ℕ) → occupied i j ≡ true → present p i j ≡ true)
      → ((i j : ℕ) → present p i j ≡ true → 1 ≤ j) → Held p L U 1 occupied
  held_at_start occupied given from_one = record { ahead = at_row; done = outside }
    where
      -- q is the row's least column, which is at most the row since the row is in L_q
      served : (i : ℕ) → 1 ≤ i → i ≤ p.height → Above 0 (p.row i) → Ahead L U 1 occupied i
      served i low high (inl none) = inl (λ j h o. none j (present_parts p i j (given i j o)).2 h)
      served i low high (inr found) =
          let q : ℕ = least_above 0 (p.row i) in
          let mi : member i (L q) ≡ true = closed.row_in_lower i q (present_of p i q low high found.1) in
          inr (q, found.0, (closed.lower_range q i mi).0, mi, λ j h o. closed.row_in_upper i j (given i j o))

      at_row : (i : ℕ) → 1 ≤ i → Ahead L U 1 occupied i
      at_row i low =
          elim (dec_lt p.height i) [
            | yes l ↦ inl (λ j h o. omega (arith, (present_parts p i j (given i j o)).1))
            | no n ↦ served i low (omega arith) (above 0 (p.row i))
          ]

      outside : (i j : ℕ) → occupied i j ≡ true → (i < 1) ⊎ (j < 1) → slot_in L U i j ≡ true
      outside i j o (inl h) = absurd (omega (arith, (present_parts p i j (given i j o)).0))
      outside i j o (inr h) = absurd (omega (arith, from_one i j (given i j o)))

  -- ---- a step

  -- A row below k in L_k whose places beyond k lie in U_k is served by the list that k hands on to, if it has such a place at all.
  served_next :
      (k i : ℕ) (now : Places) → k < i → member i (L k) ≡ true
      → ((j : ℕ) → k < j → now i j ≡ true → member j (U k) ≡ true) → Ahead L U (suc k) now i
  served_next k i now ki mi inside = serve (above k (U k))
    where
      serve : Above k (U k) → Ahead L U (suc k) now i
      serve (inl none) = inl (λ j kj o. none j (inside j kj o) kj)
      serve (inr found) =
          let r : ℕ = least_above k (U k) in
          let low : member i (L r) ≡ true = closed.handed_lower k i r mi ki found.1 found.0 in
          inr (r, found.0, (closed.lower_range r i low).0, low, λ j kj o. closed.handed_upper k i j mi ki (inside j kj o) kj)

  module _ {k : ℕ} {before now : Places} (held : Held p L U k before) (step : StepOn k before now) where
    -- An involved row that is occupied from k on has its list at k itself: row k, since q is at most its row; another, since it is
    -- occupied in column k, and q is at most its columns.
    pub involved_at : (i j : ℕ) → Involved k before i → k ≤ j → before i j ≡ true → (member i (L k) ≡ true) × (member j (U k) ≡ true)
    involved_at i j v kj o = at (held.ahead i (involved_from k i before v)) v
      where
        at : Ahead L U k before i → Involved k before i → (member i (L k) ≡ true) × (member j (U k) ≡ true)
        at (inl blank) v = absurd (blank j kj o)
        at (inr s) (inl e) =
            let same : s.0 ≡ k = omega arith in
            (rw same at s.3, rw same at (s.4 j kj o))
        at (inr s) (inr b) =
            let same : s.0 ≡ k = omega (arith, (closed.upper_range s.0 k (s.4 k (omega arith) b.1)).0) in
            (rw same at s.3, rw same at (s.4 j kj o))

    -- After the step, too, an involved row lies in U_k right of k.
    pub involved_now : (i j : ℕ) → Involved k before i → k < j → now i j ≡ true → member j (U k) ≡ true
    involved_now i j v kj o =
        let (h, vh, oh) = step.within i j v kj o in
        (involved_at h j vh (omega arith) oh).1

    -- A row below k that was involved, or had its list at k without being involved, is handed on; every other row keeps its list.
    next_ahead : (i : ℕ) → k < i → Ahead L U (suc k) now i
    next_ahead i ki = by_test (before i k) taken (λ t. stays (λ j. step.others i j (not_involved t)) (held.ahead i (omega arith)))
      where
        taken : before i k ≡ true → Ahead L U (suc k) now i
        taken t = served_next k i now ki (involved_at i k (inr (ki, t)) (omega arith) t).0 (λ j. involved_now i j (inr (ki, t)))

        not_involved : before i k ≡ false → Involved k before i → ⊥
        not_involved t (inl e) = omega arith
        not_involved t (inr b) = false≢true (sym t ∙ b.1)

        stays : ((j : ℕ) → now i j ≡ before i j) → Ahead L U k before i → Ahead L U (suc k) now i
        stays same (inl blank) = inl (λ j kj o. blank j (omega arith) (sym (same j) ∙ o))
        stays same (inr s) =
            let inside : (j : ℕ) → k < j → now i j ≡ true → member j (U s.0) ≡ true =
            λ j kj o. s.4 j (omega arith) (sym (same j) ∙ o)
            in
            elim (dec_lt k s.0) [
              | yes l ↦ inr (s.0, l, s.2, s.3, inside)
              | no n ↦
                  let e : s.0 ≡ k = omega arith in
                  served_next k i now ki (rw e at s.3) (rw e at inside)
            ]

    -- New among the places done with are row k from the diagonal on, which lies in U_k, and column k below it, which lies in L_k.
    next_done : (i j : ℕ) → now i j ≡ true → (i < suc k) ⊎ (j < suc k) → slot_in L U i j ≡ true
    next_done i j o w =
        elim (dec_lt j k) [
          | yes l ↦ held.done i j (sym (step.earlier i j l) ∙ o) (inr l)
          | no nj ↦ elim (dec_lt i k) [
            | yes l ↦ held.done i j (sym (step.others i j (λ v. omega (arith, involved_from k i before v))) ∙ o) (inl l)
            | no ni ↦ corner (omega arith) (omega arith) w
          ]
        ]
      where
        corner : k ≤ i → k ≤ j → (i < suc k) ⊎ (j < suc k) → slot_in L U i j ≡ true
        corner ki kj (inl h) =
            let e : i ≡ k = omega arith in
            elim (dec_lt k j) [
              | yes l ↦ slot_right L U i j (omega arith) (rw e (involved_now i j (inl e) l o))
              | no n ↦ slot-diagonal L U i j (omega arith)
            ]
        corner ki kj (inr h) =
            let e : j ≡ k = omega arith in
            elim (dec_lt k i) [
              | yes l ↦
                  let b : before i k ≡ true = step.pivotal i l (rw e at o) in
                  slot_below L U i j (omega arith) (rw e (involved_at i k (inr (l, b)) (omega arith) b).0)
              | no n ↦ slot-diagonal L U i j (omega arith)
            ]

  -- A step keeps the invariant.
  pub held_after_step :
      {before now : Places} (k : ℕ) → 1 ≤ k → Held p L U k before → StepOn k before now → Held p L U (suc k) now
  held_after_step k _ held step = record { ahead = next_ahead held step; done = next_done held step }

  -- So do steps 1 to s, one after the other.
  pub held_after-steps :
      (states : ℕ → Places) (s : ℕ) → ((t : ℕ) → t < s → StepOn (suc t) (states t) (states (suc t)))
      → Held p L U 1 (states 0) → Held p L U (suc s) (states s)
  held_after-steps states zero steps held = held
  held_after-steps states (suc s) steps held =
      held_after_step (suc s) (omega arith) (held_after-steps states s (λ t h. steps t (omega arith)) held) (steps s (omega arith))
