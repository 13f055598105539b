-- A step is sound exactly where what it leaves is finite; its updates are a product of two counts.
use mathlib.Core.Bool.{Bool, true, false, cond, ◌&&◌, and-false}
use mathlib.Core.List.{List, [], ◌∷◌, map}
use mathlib.Core.Path.{◌≡◌, refl, sym, ap, ◌∙◌}
use Prim.Native.Nat.{ℕ, suc, ◌+◌, ◌*◌, ◌≤◌, ◌<◌}
use native.Mathlib.Decide.{dec_lt}
use native.Mathlib.Nat.{zero-mul, suc-mul}
use native.Mathlib.Omega.{arith}
use lib.Dec.{ltb, leb}
use lib.Ieee.{Float}
use borrow.Author.Tests.{lt-ltb, le-ltb, le-leb, leb-true}
use Rattle.lists.specs.Functions.{all, total, keep}
use Rattle.lists.specs.Sets.{member, Ascending, between}
use Rattle.lists.proofs.Members.{by_test, member_head, member_tail, same_test, and_left, and_right, and_both, in_between, between-low, between-high, in_keep, kept_in, kept_passes, all_in, all_from, all_cong}
use Rattle.lists.proofs.Order.{member-low, ascending-keep, ascending-between, same_members-by}
use Rattle.foundation.specs.Numbers.{plus_zero, is_zero, finite, product, difference}
use Rattle.foundation.specs.Plan.{Planning, lower, upper}
use Rattle.foundation.specs.Subscripts.{kept}
use Rattle.foundation.specs.Slots.{has_slot}
use Rattle.foundation.specs.Square.{Square}
use Rattle.foundation.specs.Shown.{at_side}
use Rattle.foundation.specs.Reference.{multiplier, reduced, eliminated, eliminated_right, updates_at, sound_place, sound_row, sound_step}
use Rattle.foundation.proofs.FiniteRun.{row_judged}
use Rattle.foundation.proofs.FloatSteps.{zero_plus_zero, multiplier-zero, reduced_left, eliminated_left, eliminated_column, eliminated_right_lem, eliminated-zero}
use Rattle.run_slots.specs.Index.{limit, Grid}
use Rattle.run_slots.specs.Shows.{InSlots}
use Rattle.run_slots.specs.Flags.{flagged, nonzeros, with_diagonal, sound_list}
use Rattle.run_slots.proofs.Flags.{flagged_more}
use Rattle.run_slots.proofs.Floats.{sound_is}
use Rattle.run_slots.proofs.Grid.{row_stays, column_stays, above, slot_upper, slot_lower, no_slot_upper, no_slot_lower}

-- ---- sums and tests over a range and over a list of some of its members

-- the members of a set between a and b, kept of all the numbers there, are that set
pub between-members : (a b : ℕ) (xs : List ℕ) → Ascending a xs → ((x : ℕ) → member x xs ≡ true → x ≤ b) → keep (λ x. member x xs) (between a b) ≡ xs
between-members a b xs h under =
    let t : ℕ → Bool = λ k. member k xs in
    same_members-by a a (keep t (between a b)) xs (ascending-keep a t (between a b) (ascending-between a b)) h
    (λ x m. kept_passes x t (between a b) m)
    (λ x m. in_keep x t (between a b) (in_between x a b (member-low x a xs h m) (under x m)) m)

pub total_skips : (f : ℕ → ℕ) (t : ℕ → Bool) (xs : List ℕ) → ((x : ℕ) → t x ≡ false → f x ≡ 0) → total f xs ≡ total f (keep t xs)
unfolding total keep
total_skips f t [] none = refl
total_skips f t (x ∷ xs) none = by_test (t x) (λ e. rw (e, total_skips f t xs none)) (λ e. rw (e, none x e, total_skips f t xs none) (omega arith))

-- the same where only the members of the range need fit
pub total_skips_in : (f : ℕ → ℕ) (t : ℕ → Bool) (xs : List ℕ) → ((x : ℕ) → member x xs ≡ true → t x ≡ false → f x ≡ 0) → total f xs ≡ total f (keep t xs)
unfolding total keep
total_skips_in f t [] none = refl
total_skips_in f t (x ∷ xs) none =
    let rest = total_skips_in f t xs (λ z m. none z (member_tail z x xs m)) in
    by_test (t x) (λ e. rw (e, rest)) (λ e. rw (e, none x (member_head x xs) e, rest) (omega arith))

pub sparse_total : (f : ℕ → ℕ) (a b : ℕ) (xs : List ℕ) → Ascending a xs → ((x : ℕ) → member x xs ≡ true → x ≤ b) → ((x : ℕ) → a ≤ x → member x xs ≡ false → f x ≡ 0)
    → total f (between a b) ≡ total f xs
sparse_total f a b xs h under none =
    total_skips_in f (λ x. member x xs) (between a b) (λ x m e. none x (between-low x a b m) e) ∙ ap (total f) (between-members a b xs h under)

-- a constant for those that pass: as often as they are
pub total_times : (z : ℕ → Bool) (c : ℕ) (xs : List ℕ) → total (λ i. cond (z i) 0 c) xs ≡ total (λ i. cond (z i) 0 1) xs * c
unfolding total
total_times z c [] = sym (zero-mul c)
total_times z c (x ∷ xs) = by_test (z x) (λ e. rw (e, total_times z c xs) (omega arith)) (λ e.
    let t = total (λ i. cond (z i) 0 1) xs in
    let one : 1 + t ≡ suc t = omega arith in
    rw (e, total_times z c xs) (sym (ap (λ (v : ℕ). v * c) one ∙ suc-mul t c ∙ omega arith)))

five : (a b c d e : Bool) → a && (b && (c && (d && e))) ≡ true → (a ≡ true) × (b ≡ true) × (c ≡ true) × (d ≡ true) × (e ≡ true)
five a b c d e t =
    let r = and_right a (b && (c && (d && e))) t in let u = and_right b (c && (d && e)) r in let v = and_right c (d && e) u in
    (and_left a (b && (c && (d && e))) t, and_left b (c && (d && e)) r, and_left c (d && e) u, and_left d e v, and_right d e v)

and_five : (p q r t u : Bool) → (((p && q) && r) && t) && u ≡ p && (q && (r && (t && u)))
and_five true true true t u = refl
and_five true true false t u = refl
and_five true false r t u = refl
and_five false q r t u = refl

pub nonzeros-map : (f : ℕ → Float) (xs : List ℕ) → nonzeros (map f xs) ≡ total (λ x. cond (is_zero (f x)) 0 1) xs
unfolding nonzeros total
nonzeros-map f [] = refl
nonzeros-map f (x ∷ xs) = rw (nonzeros-map f xs)

module _ (s : Planning) (n height : ℕ) (g : Grid s n height) (square : Square Float) (h : InSlots s square) (k : ℕ) where
  zero-multiplier : (i : ℕ) → k < i → member i (kept s lower k) ≡ false → is_zero (multiplier k square i) ≡ true
  zero-multiplier i l e =
      let z = h.outside i k (no_slot_lower s i k l e) in
      let zz : is_zero (square i k) ≡ true = rw z zero_plus_zero in
      ap is_zero (multiplier-zero k square i zz) ∙ zz

  -- L's rows end at the last row, U's columns at n
  row_bound : (j i : ℕ) → member i (kept s lower j) ≡ true → i ≤ height
  unfolding limit
  row_bound j i m = g.bounded lower j i m

  column_bound : (i j : ℕ) → member j (kept s upper i) ≡ true → j ≤ n
  unfolding limit
  column_bound i j m = g.bounded upper i j m

  -- The updates of a step.
  pub updates_count : updates_at height n k square ≡ nonzeros (map (multiplier k square) (kept s lower k)) * nonzeros (map (λ j. square k j) (kept s upper k))
  unfolding updates_at
  updates_count =
      let c = total (λ j. cond (is_zero (square k j)) 0 1) (between (suc k) n) in
      let inner : c ≡ nonzeros (map (λ j. square k j) (kept s upper k))
      = sparse_total (λ j. cond (is_zero (square k j)) 0 1) (suc k) n (kept s upper k) (g.ascends upper k) (λ x m. column_bound k x m)
      (λ x l e. rw (h.outside k x (no_slot_upper s k x l e), zero_plus_zero))
      ∙ sym (nonzeros-map (λ j. square k j) (kept s upper k)) in
      let outer : total (λ i. cond (is_zero (multiplier k square i)) 0 c) (between (suc k) height) ≡ total (λ i. cond (is_zero (multiplier k square i)) 0 c) (kept s lower k)
      = sparse_total (λ i. cond (is_zero (multiplier k square i)) 0 c) (suc k) height (kept s lower k) (g.ascends lower k) (λ x m. row_bound k x m)
      (λ x l e. rw (zero-multiplier x l e)) in
      outer ∙ total_times (λ i. is_zero (multiplier k square i)) c (kept s lower k) ∙ rw (inner, nonzeros-map (multiplier k square) (kept s lower k))

  module _ (right : ℕ → Float) (right_sound : (i : ℕ) → finite (right i) ≡ true) where
    -- what row i of a step leaves is finite
    unfoldable pub leaves_finite : ℕ → Bool
    leaves_finite i = finite (multiplier k square i) && (finite (eliminated_right k (multiplier k square) right i) && all (λ j. finite (eliminated k square i j)) (between (suc k) n))

    all_finite_lem : (i : ℕ) → ((j : ℕ) → k < j → eliminated k square i j ≡ square i j) → all (λ j. finite (eliminated k square i j)) (between (suc k) n) ≡ true
    all_finite_lem i same = all_from (λ j. finite (eliminated k square i j)) (between (suc k) n) (λ j m. rw (same j (between-low j (suc k) n m)) (h.sound i j))

    -- A row is sound exactly where what it leaves is finite.
    pub sound_row_lem : (i : ℕ) → k < i → sound_row n k square right i ≡ leaves_finite i
    unfolding sound_row leaves_finite eliminated_right sound_place reduced all
    sound_row_lem i l =
        by_test (is_zero (square i k))
        (λ z.
        let m = multiplier-zero k square i z in
        rw (z, m, h.sound i k, z, and-false (ltb k i), right_sound i, all_finite_lem i (λ j q. eliminated-zero k square i j z)))
        (λ z. rw z (by_test (finite (multiplier k square i))
        (λ f. rw f (by_test (is_zero (multiplier k square i))
        (λ y. rw (y, and-false (ltb k i), right_sound i, all_finite_lem i (λ j q. eliminated_right_lem k square i j l q ∙ reduced_left (multiplier k square i) (square k j) (square i j) y)))
        (λ y. rw (y, lt-ltb k i l, sound_is (multiplier k square i) (right k) (right i)) (ap (λ (b : Bool). finite (difference (right i) (product (multiplier k square i) (right k))) && b)
        (all_cong (λ j. sound_place (multiplier k square i) (square k j) (square i j)) (λ j. finite (eliminated k square i j)) (between (suc k) n)
        (λ j m. place i j l (between-low j (suc k) n m) y))))))
        (λ f. rw f)))
      where
        place : (i j : ℕ) → k < i → k < j → is_zero (multiplier k square i) ≡ false → sound_place (multiplier k square i) (square k j) (square i j) ≡ finite (eliminated k square i j)
        place i j a b y = rw (eliminated_right_lem k square i j a b) (by_test (is_zero (square k j)) (λ u. rw (y, u) (sym (h.sound i j))) (λ u. rw (y, u) (sound_is (multiplier k square i) (square k j) (square i j))))

    all_map : (t : Float → Bool) (f : ℕ → Float) (xs : List ℕ) → all t (map f xs) ≡ all (λ x. t (f x)) xs
    unfolding all
    all_map t f [] = refl
    all_map t f (x ∷ xs) = rw (all_map t f xs)

    unfoldable pub step_flags : Bool
    step_flags =
        all finite (map (multiplier k square) (kept s lower k))
        && (all (λ i. finite (eliminated_right k (multiplier k square) right i)) (kept s lower k)
        && (all (λ i. finite (eliminated k square i i)) (with_diagonal n (kept s lower k))
        && (all (sound_list s upper (eliminated k square)) (kept s lower k) && all (sound_list s lower (eliminated k square)) (kept s upper k))))

    row_parts : (i : ℕ) → leaves_finite i ≡ true → (finite (multiplier k square i) ≡ true) × (finite (eliminated_right k (multiplier k square) right i) ≡ true)
        × ((j : ℕ) → k < j → j ≤ n → finite (eliminated k square i j) ≡ true)
    unfolding leaves_finite
    row_parts i e =
        let a = finite (multiplier k square i) in let b = finite (eliminated_right k (multiplier k square) right i) in
        let c = all (λ j. finite (eliminated k square i j)) (between (suc k) n) in
        let r = and_right a (b && c) e in
        (and_left a (b && c) e, and_left b c r, λ j l u. all_in j (λ j. finite (eliminated k square i j)) (between (suc k) n) (and_right b c r) (in_between j (suc k) n l u))

    from_parts : (i : ℕ) → finite (multiplier k square i) ≡ true → finite (eliminated_right k (multiplier k square) right i) ≡ true
        → ((j : ℕ) → k < j → j ≤ n → finite (eliminated k square i j) ≡ true) → leaves_finite i ≡ true
    unfolding leaves_finite
    from_parts i a b c = and_both _ _ a (and_both _ _ b (all_from _ (between (suc k) n) (λ j m. c j (between-low j (suc k) n m) (between-high j (suc k) n m))))

    -- a row without a slot in column k leaves what it found
    row_out : (i : ℕ) → k < i → member i (kept s lower k) ≡ false → leaves_finite i ≡ true
    unfolding eliminated_right
    row_out i l e =
        let z = zero-multiplier i l e in
        let q = h.outside i k (no_slot_lower s i k l e) in
        from_parts i (rw (multiplier-zero k square i (rw q zero_plus_zero)) (h.sound i k)) (rw (z, and-false (ltb k i)) (right_sound i))
        (λ j a b. rw (row_stays s n height g square h k i j e) (h.sound i j))

    -- one with a slot there leaves what the flags tell of
    row_in : (i : ℕ) → member i (kept s lower k) ≡ true → all finite (map (multiplier k square) (kept s lower k)) ≡ true
        → all (λ i. finite (eliminated_right k (multiplier k square) right i)) (kept s lower k) ≡ true
        → all (λ i. finite (eliminated k square i i)) (with_diagonal n (kept s lower k)) ≡ true
        → all (sound_list s upper (eliminated k square)) (kept s lower k) ≡ true → all (sound_list s lower (eliminated k square)) (kept s upper k) ≡ true → leaves_finite i ≡ true
    unfolding sound_list at_side with_diagonal
    row_in i m a b c d e =
        from_parts i (all_in i (λ i. finite (multiplier k square i)) (kept s lower k) (sym (all_map finite (multiplier k square) (kept s lower k)) ∙ a) m)
        (all_in i (λ i. finite (eliminated_right k (multiplier k square) right i)) (kept s lower k) b m)
        (λ j l u. by_test (member j (kept s upper k))
        (λ w. elim (dec_lt i j) [
          | yes q ↦ all_in j (λ x. finite (eliminated k square i x)) (kept s upper i)
              (sym (all_map finite (λ x. eliminated k square i x) (kept s upper i)) ∙ all_in i (sound_list s upper (eliminated k square)) (kept s lower k) d m) (slot_upper s i j q (g.meets k i j m w))
          | no q ↦ elim (dec_lt j i) [
            | yes r ↦ all_in i (λ x. finite (eliminated k square x j)) (kept s lower j)
                (sym (all_map finite (λ x. eliminated k square x j) (kept s lower j)) ∙ all_in j (sound_list s lower (eliminated k square)) (kept s upper k) e w) (slot_lower s i j r (g.meets k i j m w))
            | no r ↦ let same : j ≡ i = omega arith in
                rw same (all_in i (λ i. finite (eliminated k square i i)) (with_diagonal n (kept s lower k)) c (in_keep i (λ i. leb i n) (kept s lower k) m (le-leb i n (omega arith))))
          ]
        ])
        (λ w. rw (column_stays s n height g square h k i j l w) (h.sound i j)))

    -- A step is sound exactly where the flags say so.
    pub sound_step_lem : sound_step height n k square right ≡ step_flags
    unfolding sound_step step_flags sound_list at_side with_diagonal
    sound_step_lem = same_test (all (sound_row n k square right) (between (suc k) height)) _ to back
      where
        to : all (sound_row n k square right) (between (suc k) height) ≡ true → step_flags ≡ true
        to e =
            and_both _ _ (all_map finite (multiplier k square) (kept s lower k) ∙ all_from _ (kept s lower k) (λ i m. (at i m).0))
            (and_both _ _ (all_from _ (kept s lower k) (λ i m. (at i m).1))
            (and_both _ _
            (all_from _ (with_diagonal n (kept s lower k))
            (λ i m. let there = kept_in i (λ i. leb i n) (kept s lower k) m in
            (at i there).2 i (above s n height g lower k i there) (leb-true i n (kept_passes i (λ i. leb i n) (kept s lower k) m))))
            (and_both _ _
            (all_from _ (kept s lower k) (λ i m. all_map finite (λ x. eliminated k square i x) (kept s upper i) ∙ all_from _ (kept s upper i)
            (λ x w. (at i m).2 x (omega (arith, above s n height g lower k i m, above s n height g upper i x w)) (column_bound i x w))))
            (all_from _ (kept s upper k) (λ j m. all_map finite (λ x. eliminated k square x j) (kept s lower j) ∙ all_from _ (kept s lower j)
            (λ x w. (row x (omega (arith, above s n height g upper k j m, above s n height g lower j x w)) (row_bound j x w)).2 j (above s n height g upper k j m) (column_bound k j m)))))))
          where
            row : (i : ℕ) → k < i → i ≤ height → (finite (multiplier k square i) ≡ true) × (finite (eliminated_right k (multiplier k square) right i) ≡ true)
                × ((j : ℕ) → k < j → j ≤ n → finite (eliminated k square i j) ≡ true)
            row i l u = row_parts i (sym (sound_row_lem i l) ∙ all_in i (sound_row n k square right) (between (suc k) height) e (in_between i (suc k) height l u))

            at : (i : ℕ) → member i (kept s lower k) ≡ true → (finite (multiplier k square i) ≡ true) × (finite (eliminated_right k (multiplier k square) right i) ≡ true)
                × ((j : ℕ) → k < j → j ≤ n → finite (eliminated k square i j) ≡ true)
            at i m = row i (above s n height g lower k i m) (row_bound k i m)

        back : step_flags ≡ true → all (sound_row n k square right) (between (suc k) height) ≡ true
        back e = all_from (sound_row n k square right) (between (suc k) height) (λ i m. row i (between-low i (suc k) height m))
          where
            row : (i : ℕ) → k < i → sound_row n k square right i ≡ true
            row i l = let parts = five (all finite (map (multiplier k square) (kept s lower k))) (all (λ i. finite (eliminated_right k (multiplier k square) right i)) (kept s lower k)) (all (λ i. finite (eliminated k square i i)) (with_diagonal n (kept s lower k))) (all (sound_list s upper (eliminated k square)) (kept s lower k)) (all (sound_list s lower (eliminated k square)) (kept s upper k)) e in
                sound_row_lem i l ∙ by_test (member i (kept s lower k))
                (λ m. row_in i m parts.0 parts.1 parts.2 parts.3 parts.4)
                (λ m. row_out i l m)

    -- the flags of the five parts, one after the other, tell whether the step is sound
    pub flags-sound : (f1 f2 f3 f4 f5 : ℕ) → f1 ≡ flagged 0 (all finite (map (multiplier k square) (kept s lower k)))
        → f2 ≡ flagged f1 (all (λ i. finite (eliminated_right k (multiplier k square) right i)) (kept s lower k))
        → f3 ≡ flagged f2 (all (λ i. finite (eliminated k square i i)) (with_diagonal n (kept s lower k)))
        → f4 ≡ flagged f3 (all (sound_list s upper (eliminated k square)) (kept s lower k))
        → f5 ≡ flagged f4 (all (sound_list s lower (eliminated k square)) (kept s upper k)) → f5 ≡ flagged 0 (sound_step height n k square right)
    unfolding step_flags
    flags-sound f1 f2 f3 f4 f5 a b c d e =
        e ∙ rw (sound_step_lem, d, c, b, a, flagged_more, flagged_more, flagged_more, flagged_more)

    -- a sound step leaves a square that is finite and in the slots
    pub kept_next : ((i j : ℕ) → has_slot s i j ≡ false → eliminated k square i j ≡ plus_zero) → sound_step height n k square right ≡ true → InSlots s (eliminated k square)
    kept_next out e = record { outside = out; sound = λ i j. at i j }
      where
        at : (i j : ℕ) → finite (eliminated k square i j) ≡ true
        at i j = by_test (member i (kept s lower k))
            (λ m. let l = above s n height g lower k i m in elim (dec_lt j k) [
              | yes a ↦ rw (eliminated_left k square i j a) (h.sound i j)
              | no a ↦ elim (dec_lt k j) [
                | yes b ↦ by_test (member j (kept s upper k))
                    (λ w. (row_parts i (sym (sound_row_lem i l) ∙ row_judged height n k square right e i l (row_bound k i m))).2 j b (column_bound k j w))
                    (λ w. rw (column_stays s n height g square h k i j b w) (h.sound i j))
                | no b ↦ let q : j ≡ k = omega arith in rw (q, eliminated_column k square i l) (row_parts i (sym (sound_row_lem i l) ∙ row_judged height n k square right e i l (row_bound k i m))).0
              ]
            ])
            (λ m. rw (row_stays s n height g square h k i j m) (h.sound i j))

    -- and a right side that is finite
    pub right_next : sound_step height n k square right ≡ true → (i : ℕ) → finite (eliminated_right k (multiplier k square) right i) ≡ true
    unfolding eliminated_right
    right_next e i = by_test (member i (kept s lower k))
        (λ m.
        let l = above s n height g lower k i m in
        (row_parts i (sym (sound_row_lem i l) ∙ row_judged height n k square right e i l (row_bound k i m))).1)
        (λ m. elim (dec_lt k i) [
          | yes l ↦ rw (zero-multiplier i l m, and-false (ltb k i)) (right_sound i)
          | no l ↦ rw (le-ltb k i (omega arith)) (right_sound i)
        ])
