-- Laws of a merge in place: a turn writes one number, and moves on in one list or in both.
use mathlib.Core.Path.{◌≡◌, refl, sym, ap, ◌∙◌}
use mathlib.Core.List.{List, [], ◌∷◌, ◌++◌}
use Prim.Native.Nat.{ℕ, ◌+◌, ◌-◌, ◌≤◌, ◌<◌}
use native.Mathlib.Nat.{add-zero}
use native.Mathlib.Numerals.{add-one}
use native.Mathlib.Omega.{arith}
use lib.ListN.{length, take, drop, get_or, set, length-drop, length-set, drop_of_length-le}
use lib.Seq.{drop-cons, get_or-drop, drop-set-lt, take-suc-set, append_snoc, length-take-le, take_all}
use Rattle.std.specs.List.{copy_within}
use Rattle.std.proofs.Math.Seq.{take-append_seam}
use Rattle.std.proofs.lemmas.List.{length-append}
use Rattle.std.proofs.lemmas.List.Edits.{length-paste, take-paste}
use Rattle.lists.specs.Sets.{union}
use Rattle.lists.proofs.Members.{union-length, union_less, union_more, union_equal, union-nil_left, union-nil_right}
use Rattle.store_lists.specs.Merging.{Merging}

module _ (read written : ℕ) (store whole later : List ℕ) (m : Merging read written store whole later) where
  -- what is written does not pass what is read
  pub merge_behind : written ≤ read
  merge_behind = omega (arith, m.inside, m.room, union-length (drop read store) later, length-drop read store)

  -- a number is written, the first of the union that is to come
  pub merge-turn : (x read' : ℕ) (later' : List ℕ) → written < read' → read' ≤ length store
      → union (drop read store) later ≡ x ∷ union (drop read' store) later' → Merging read' (written + 1) (set store written x) whole later'
  merge-turn x read' later' behind inside next =
      let kept : drop read' (set store written x) ≡ drop read' store = drop-set-lt read' store written x behind in
      let size : length (union (drop read store) later) ≡ length (x ∷ union (drop read' store) later') = ap length next in
      let place : written < length store = omega arith in
      record {
        inside = simp length-set inside;
        room = rw (kept, length-set) (omega (arith, m.room));
        same = rw (kept, add-one, take-suc-set store written x, append_snoc, ← next) m.same;
      }

-- The second list's next member is y.
module _ (read written y : ℕ) (store whole later : List ℕ) (m : Merging read written store whole (y ∷ later)) where
  -- a number is still to come
  some_left : (xs : List ℕ) → 0 < length (union xs (y ∷ later))
  some_left [] = rw union-nil_left (omega arith)
  some_left (x ∷ xs) = omega (arith, union-length (x ∷ xs) (y ∷ later))

  -- so there is a place for it
  pub merge_place : written < length store
  merge_place = omega (arith, m.room, some_left (drop read store))

  -- a number of the first list below y is written
  pub merge_first : read < length store → get_or store read 0 < y → Merging (read + 1) (written + 1) (set store written (get_or store read 0)) whole (y ∷ later)
  merge_first left below =
      merge-turn read written store whole (y ∷ later) m _ _ _ (omega (arith, merge_behind read written store whole (y ∷ later) m)) (omega arith)
      (rw (add-one, drop-cons store read 0) (union_less _ _ _ _ below))

  -- y is written, which the first list has too
  pub merge_common : read < length store → get_or store read 0 ≡ y → Merging (read + 1) (written + 1) (set store written y) whole later
  merge_common left same =
      merge-turn read written store whole (y ∷ later) m _ _ _ (omega (arith, merge_behind read written store whole (y ∷ later) m)) (omega arith)
      (rw (add-one, drop-cons store read 0, ← same) (union_equal _ _ _ _ refl))

  -- y goes out first, if what is left of the first list is above it
  first_out : (xs : List ℕ) → (0 < length xs → y < get_or xs 0 0) → union xs (y ∷ later) ≡ y ∷ union xs later
  first_out [] above = union-nil_left (y ∷ later) ∙ ap (λ (l : List ℕ). y ∷ l) (sym (union-nil_left later))
  first_out (x ∷ xs) above = union_more x y xs later (above (omega arith))

  -- y is written, which the first list does not have
  pub merge_second : (read < length store → y < get_or store read 0) → Merging read (written + 1) (set store written y) whole later
  merge_second above =
      let next : union (drop read store) (y ∷ later) ≡ y ∷ union (drop read store) later = first_out (drop read store)
      (λ some. simp (get_or-drop, add-zero) (above (omega (arith, length-drop read store)))) in
      let more : length (union (drop read store) (y ∷ later)) ≡ length (y ∷ union (drop read store) later) = ap length next in
      merge-turn read written store whole (y ∷ later) m _ _ _ (omega (arith, m.inside, m.room, union-length (drop read store) later, length-drop read store)) m.inside next

-- The first list is passed whole.
module _ (read written at : ℕ) (store whole more : List ℕ) (m : Merging read written store whole (drop at more)) (passed : length store ≤ read) where
  -- what is left of the second, as the code hands it on
  abbrev left : List ℕ
  left = take (length more - at) (drop at more)

  -- is still to come
  to_come : union (drop read store) (drop at more) ≡ left
  to_come = rw (drop_of_length-le store passed) (union-nil_left (drop at more) ∙ sym (take_all (length more - at) (drop at more) (omega (arith, length-drop at more))))

  -- and has room behind what is written
  pub left_fits : written + length left ≤ length store
  left_fits = rw to_come at m.room

  -- appended there, it ends the union
  pub merge_appended : (end : ℕ) (now : List ℕ) → (end ≡ written + length left) × (now ≡ take written store ++ left ++ drop (written + length left) store)
      → (end ≡ length whole) × (take end now ≡ whole)
  merge_appended end now (count, laid) =
      let front : length (take written store) ≡ written = length-take-le written store (omega (arith, left_fits)) in
      let size : end ≡ length (take written store ++ left) = rw (count, length-append, front) refl in
      let ends : take written store ++ left ≡ whole = rw to_come at m.same in
      let all : take end now ≡ whole = rw (size, laid) (take-append_seam (take written store ++ left) (drop (written + length left) store) ∙ ends) in
      (size ∙ ap length ends, all)

-- The second list is passed whole.
module _ (read written place : ℕ) (store whole more : List ℕ) (m : Merging read written store whole (drop place more)) (passed : length more ≤ place) where
  -- what is left of the first has room behind what is written
  pub rest_fits : written + (length store - read) ≤ length store
  rest_fits = omega (arith, m.inside, merge_behind read written store whole (drop place more) m)

  -- and moved there, it ends the union
  pub merge_end : (now : List ℕ) → now ≡ copy_within store read (length store) written
      → (written + (length now - read) ≡ length whole) × (take (written + (length now - read)) now ≡ whole)
  merge_end now moved =
      let rest = drop read store in
      let n = length store - read in
      let long : length rest ≡ n = length-drop read store in
      let behind = merge_behind read written store whole (drop place more) m in
      let size : length now ≡ length store = ap length moved ∙ length-paste store written rest n rest_fits (omega (arith, long)) in
      let all : take (written + (length now - read)) now ≡ whole = rw (size, moved, take-paste store written rest n (omega (arith, m.inside)) (omega (arith, long)), take_all n rest (omega (arith, long)))
      (rw (drop_of_length-le more passed, union-nil_right) at m.same) in
      let count : length (take (written + (length now - read)) now) ≡ written + (length now - read) = length-take-le _ now (omega (arith, rest_fits, size)) in
      (sym count ∙ ap length all, all)
