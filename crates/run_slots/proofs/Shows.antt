-- Reading and writing the slots of a list.
use mathlib.Core.Bool.{true}
use mathlib.Core.List.{List, ◌∷◌, ◌++◌, map, append_assoc}
use mathlib.Core.Path.{◌≡◌, refl, sym, ap, ◌∙◌}
use Prim.Native.Nat.{ℕ, zero, suc, ◌+◌, ◌-◌, ◌≤◌, ◌<◌}
use native.Mathlib.Nat.{add-zero, add-suc}
use native.Mathlib.Omega.{arith}
use lib.Ieee.{Float, nan}
use lib.ListN.{length, take, drop, get_or, set, replicate, length-map}
use lib.Seq.{take_at, drop_at, drop-drop, get_or-take, get_or-drop}
use borrow.Rule.Slice.PartMut.{set_mid_at}
use Rattle.run_slots.proofs.Mapped.{map_cong, chain_cong, upto-split, set-map, replaced}
use Rattle.lists.specs.Functions.{chain, padded}
use Rattle.lists.specs.Sets.{member, upto, Ascending}
use Rattle.lists.proofs.Members.{upto-low, upto-high}
use Rattle.lists.proofs.Places.{chain-append, length-padded, get_or_mapped}
use Rattle.foundation.specs.Numbers.{plus_zero}
use Rattle.foundation.specs.Plan.{Planning, Side}
use Rattle.foundation.specs.Subscripts.{kept}
use Rattle.foundation.specs.Slots.{slots_of}
use Rattle.foundation.specs.Square.{Square}
use Rattle.foundation.specs.Shown.{at_side, shown}
use Rattle.foundation.proofs.LaidBack.{slots-shown}
use Rattle.run_slots.specs.Shows.{Shows}

-- ---- one list's slots

module _ (s : Planning) (side : Side) (n : ℕ) where
  -- the numbers that list k shows
  unfoldable pub part : Square Float → ℕ → List Float
  part square k = map (at_side side square k) (kept s side k)

  pub length_part : (square : Square Float) (k : ℕ) → length (part square k) ≡ length (kept s side k)
  unfolding part
  length_part square k = length-map (kept s side k) (at_side side square k)

  -- a square that differs from another in list k alone, as far as a side shows them
  abbrev pub Elsewhere : ℕ → Square Float → Square Float → Type 0
  Elsewhere k square square' =
      (l x : ℕ) → 1 ≤ l → l ≤ n → (l ≡ k → ⊥) → member x (kept s side l) ≡ true → at_side side square' l x ≡ at_side side square l x

  -- What two squares show of a side that differ in list k + 1 alone.
  record Around (k : ℕ) (square square' : Square Float) : Type 0 where
    before : List Float
    behind : List Float
    size : length before ≡ slots_of s side k
    is : shown s side n square ≡ before ++ (part square (suc k) ++ behind)
    becomes : shown s side n square' ≡ before ++ (part square' (suc k) ++ behind)

  around : (k : ℕ) → k < n → (square square' : Square Float) → Elsewhere (suc k) square square' → Around k square square'
  unfolding shown chain part
  around k h square square' agree = from (upto-split k n h)
    where
      f : ℕ → List Float
      f l = map (at_side side square l) (kept s side l)

      g : ℕ → List Float
      g l = map (at_side side square' l) (kept s side l)

      same : (l : ℕ) → 1 ≤ l → l ≤ n → (l ≡ suc k → ⊥) → g l ≡ f l
      same l low high other = map_cong (at_side side square' l) (at_side side square l) (kept s side l) (λ x m. agree l x low high other m)

      from : (rest : List ℕ) × (upto n ≡ upto k ++ suc k ∷ rest) × ((x : ℕ) → member x rest ≡ true → (suc k < x) × (x ≤ n)) → Around k square square'
      from (rest, e, in_rest) =
          let front : chain g (upto k) ≡ chain f (upto k) =
          chain_cong g f (upto k) (λ l m. same l (upto-low l k m) (omega (arith, upto-high l k m)) (λ q. omega (arith, upto-high l k m))) in
          let back : chain g rest ≡ chain f rest = chain_cong g f rest (λ l m. let b = in_rest l m in same l (omega arith) (omega arith) (λ q. omega arith)) in
          record {
            before = chain f (upto k);
            behind = chain f rest;
            size = slots-shown s side k square;
            is = rw (e, chain-append f (upto k) (suc k ∷ rest));
            becomes = rw (e, chain-append g (upto k) (suc k ∷ rest), front, back);
          }

  -- the slots of list k are as many as it has members
  pub slots_step : (k : ℕ) → 1 ≤ k → slots_of s side k ≡ slots_of s side (k - 1) + length (kept s side k)
  unfolding slots_of
  slots_step zero l = absurd (omega arith)
  slots_step (suc k) l = let e : suc k - 1 ≡ k = omega arith in rw e

  pub slots_monotone : (k m : ℕ) → slots_of s side k ≤ slots_of s side (k + m)
  unfolding slots_of
  slots_monotone k zero = rw (add-zero k) (omega arith)
  slots_monotone k (suc m) = rw (add-suc k m) (omega (arith, slots_monotone k m))

  module _ (square : Square Float) (store : List Float) (h : Shows s side n square store) where
    -- list k's slots lie in the store
    pub part_inside : (k : ℕ) → 1 ≤ k → k ≤ n → slots_of s side (k - 1) + length (kept s side k) ≤ length store
    part_inside k low high = let e : k + (n - k) ≡ n = omega arith in omega (arith, slots_step k low, rw e at (slots_monotone k (n - k)), h.fits)

    module _ (k : ℕ) (square' : Square Float) (w : Around k square square') where
      tail : List Float
      tail = replicate (length store - slots_of s side n) plus_zero

      split : store ≡ w.before ++ (part square (suc k) ++ (w.behind ++ tail))
      unfolding padded tail
      split = h.holds ∙ rw (slots-shown s side n square, w.is, append_assoc, append_assoc)

      read : take (length (kept s side (suc k))) (drop (slots_of s side k) store) ≡ part square (suc k)
      read = rw (split, drop_at w.before (part square (suc k) ++ (w.behind ++ tail)) (slots_of s side k) w.size) (take_at (part square (suc k)) (w.behind ++ tail) (length (kept s side (suc k))) (length_part square (suc k)))

      written : take (slots_of s side k) store ++ (part square' (suc k) ++ drop (slots_of s side k + length (kept s side (suc k))) store)
          ≡ w.before ++ (part square' (suc k) ++ (w.behind ++ tail))
      written = replaced w.before (part square (suc k)) (part square' (suc k)) (w.behind ++ tail) store (slots_of s side k) (length (kept s side (suc k))) w.size (length_part square (suc k)) split

      whole : padded plus_zero (length store) (shown s side n square') ≡ w.before ++ (part square' (suc k) ++ (w.behind ++ tail))
      unfolding padded tail
      whole = rw (slots-shown s side n square', w.becomes, append_assoc, append_assoc)

      write : Shows s side n square' (take (slots_of s side k) store ++ (part square' (suc k) ++ drop (slots_of s side k + length (kept s side (suc k))) store))
      write =
          let size : length (padded plus_zero (length store) (shown s side n square')) ≡ length store
          = length-padded plus_zero (length store) (shown s side n square') (rw (slots-shown s side n square') h.fits) in
          rw (written, ← whole) (record { fits = rw size h.fits; holds = rw size })

    -- Reading list k's slots.
    pub shows_part : (k : ℕ) → 1 ≤ k → k ≤ n → take (length (kept s side k)) (drop (slots_of s side (k - 1)) store) ≡ part square k
    shows_part zero low high = absurd (omega arith)
    shows_part (suc k) low high = let e : suc k - 1 ≡ k = omega arith in rw e (read k square (around k (omega arith) square square (λ l x a b c d. refl)))

    -- Writing list k's slots.
    pub shows_write : (k : ℕ) → 1 ≤ k → k ≤ n → (square' : Square Float) → Elsewhere k square square' → (new : List Float) → new ≡ part square' k
        → Shows s side n square' (take (slots_of s side (k - 1)) store ++ (new ++ drop (length (kept s side k)) (drop (slots_of s side (k - 1)) store)))
    shows_write zero low high square' agree new e = absurd (omega arith)
    shows_write (suc k) low high square' agree new e =
        let q : suc k - 1 ≡ k = omega arith in rw (q, e, drop-drop (length (kept s side (suc k))) (slots_of s side k) store) (write k square' (around k (omega arith) square square' agree))

    -- Reading one slot.
    pub shows-read : (k : ℕ) → 1 ≤ k → k ≤ n → (t : ℕ) → t < length (kept s side k)
        → get_or store (slots_of s side (k - 1) + t) nan ≡ at_side side square k (get_or (kept s side k) t 0)
    unfolding part
    shows-read k low high t l =
        sym (get_or-take (length (kept s side k)) (drop (slots_of s side (k - 1)) store) t nan l ∙ get_or-drop (slots_of s side (k - 1)) store t nan)
        ∙ ap (λ (zs : List Float). get_or zs t nan) (shows_part k low high) ∙ get_or_mapped (at_side side square k) (kept s side k) t nan l

    -- Writing one slot.
    pub shows-set : (k : ℕ) → 1 ≤ k → k ≤ n → (t : ℕ) → t < length (kept s side k) → (low' : ℕ) → Ascending low' (kept s side k) → (square' : Square Float) (v : Float)
        → Elsewhere k square square' → at_side side square' k (get_or (kept s side k) t 0) ≡ v
        → ((x : ℕ) → member x (kept s side k) ≡ true → (x ≡ get_or (kept s side k) t 0 → ⊥) → at_side side square' k x ≡ at_side side square k x)
        → Shows s side n square' (set store (slots_of s side (k - 1) + t) v)
    unfolding part
    shows-set k low high t l low' asc square' v agree here other =
        let m : t < length (take (length (kept s side k)) (drop (slots_of s side (k - 1)) store)) = rw (shows_part k low high, length_part square k) l in
        rw (← set_mid_at (slots_of s side (k - 1)) (length (kept s side k)) t store v m)
        (shows_write k low high square' agree (set (take (length (kept s side k)) (drop (slots_of s side (k - 1)) store)) t v)
        (ap (λ (zs : List Float). set zs t v) (shows_part k low high) ∙ set-map low' (at_side side square k) (at_side side square' k) (kept s side k) t v asc l here other))

    -- A square that looks the same from the side is shown as well.
    pub shows_same : (square' : Square Float) → ((l x : ℕ) → 1 ≤ l → l ≤ n → member x (kept s side l) ≡ true → at_side side square' l x ≡ at_side side square l x)
        → Shows s side n square' store
    unfolding shown
    shows_same square' agree =
        let e : shown s side n square' ≡ shown s side n square = chain_cong (λ l. map (at_side side square' l) (kept s side l)) (λ l. map (at_side side square l) (kept s side l)) (upto n)
        (λ l m. map_cong (at_side side square' l) (at_side side square l) (kept s side l) (λ x k. agree l x (upto-low l n m) (upto-high l n m) k)) in
        record { fits = h.fits; holds = rw e h.holds }
