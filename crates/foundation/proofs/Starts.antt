-- The starts of a side as stores: what stands at each place, how they grow with the steps, and on what they depend.
use mathlib.Core.List.{List, [], ◌∷◌, ◌++◌, map, map-append}
use mathlib.Core.Path.{◌≡◌, refl, sym, ap, ◌∙◌}
use Prim.Native.Nat.{ℕ, zero, suc, ◌+◌, ◌≤◌, ◌<◌}
use native.Mathlib.Decide.{dec_le}
use native.Mathlib.Numerals.{one-add}
use native.Mathlib.Omega.{arith}
use lib.ListN.{length, take, get_or}
use lib.Seq.{take_all, take-suc}
use Rattle.lists.specs.Sets.{run, upto}
use Rattle.lists.proofs.Places.{length-map_run, get_or-map_run, upto_snoc}
use Rattle.foundation.specs.Plan.{Planning, Side}
use Rattle.foundation.specs.Subscripts.{kept, sole_step, start_at, added_at, shared, starts_store}
use Rattle.foundation.specs.Slots.{slots_of, slot_starts}
use Rattle.foundation.proofs.Opening.{starts_stay}

-- ---- on what store, starts and slots depend

-- two plannings that have the same kept lists and the same sole steps up to k
pub record SameTo (s s' : Planning) (side : Side) (k : ℕ) : Type 0 where
  pub same_kept : (l : ℕ) → l ≤ k → kept s side l ≡ kept s' side l
  pub same_sole : (l : ℕ) → l ≤ k → sole_step s l ≡ sole_step s' l

-- such plannings have the same store and starts after k steps
pub depends_on : (s s' : Planning) (side : Side) (k : ℕ) → SameTo s s' side k → shared s side k ≡ shared s' side k
unfolding shared start_at added_at
depends_on s s' side zero h = refl
depends_on s s' side (suc k) h =
    let earlier : SameTo s s' side k =
    record { same_kept = λ l b. h.same_kept l (omega arith); same_sole = λ l b. h.same_sole l (omega arith) } in
    let new : kept s side (suc k) ≡ kept s' side (suc k) = h.same_kept (suc k) (omega arith) in
    rw (depends_on s s' side k earlier, new, h.same_sole (suc k) (omega arith))

-- ---- a value for each number of a run

module _ {ℓ} {A : Type ℓ} where
  -- the first values of a run are those of its first numbers
  pub take-map_run : (f : ℕ → A) (a d t : ℕ) → t ≤ d → take t (map f (run a d)) ≡ map f (run a t)
  unfolding run
  take-map_run f a d zero h = refl
  take-map_run f a zero (suc t) h = absurd (omega arith)
  take-map_run f a (suc d) (suc t) h = ap (λ (zs : List A). f a ∷ zs) (take-map_run f (suc a) d t (omega arith))

  -- functions that are the same on a run have the same values
  pub map_run_same : (f g : ℕ → A) (a d : ℕ) → ((x : ℕ) → a ≤ x → x < a + d → f x ≡ g x) → map f (run a d) ≡ map g (run a d)
  unfolding run
  map_run_same f g a zero h = refl
  map_run_same f g a (suc d) h = rw (h a (omega arith) (omega arith), map_run_same f g (suc a) d (λ x l b. h x (omega arith) (omega arith)))

module _ (s : Planning) (side : Side) where
  -- ---- slots

  -- a later number of steps has no fewer slots
  pub slots_grow : (k m : ℕ) → k ≤ m → slots_of s side k ≤ slots_of s side m
  unfolding slots_of
  slots_grow k zero h =
      let e : k ≡ 0 = omega arith in
      rw e (omega arith)
  slots_grow k (suc m) h =
      elim (dec_le k m) [
        | yes l ↦ omega (arith, slots_grow k m l)
        | no n ↦
            let e : k ≡ suc m = omega arith in
            rw e (omega arith)
      ]

  -- the slots after a step
  pub slots_next : (k : ℕ) → slots_of s side (suc k) ≡ slots_of s side k + length (kept s side (suc k))
  unfolding slots_of
  slots_next k = refl

  -- no step, no slot
  pub slots_none : slots_of s side 0 ≡ 0
  unfolding slots_of
  slots_none = refl

  -- the starts of n lists of slots are n + 1 numbers
  pub length-slot-starts : (n : ℕ) → length (slot_starts s side n) ≡ suc n
  unfolding slot_starts upto
  length-slot-starts n = ap suc (length-map_run (slots_of s side) 1 n)

  -- place q has the number of slots after q steps
  pub slot_start_at : (n q : ℕ) → q ≤ n → get_or (slot_starts s side n) q 0 ≡ slots_of s side q
  unfolding slot_starts upto
  slot_start_at n zero h = refl
  slot_start_at n (suc q) h = get_or-map_run (slots_of s side) 1 n q 0 (omega arith) ∙ rw (one-add q)

  -- one more step, one more start behind the others
  pub slot-starts_next : (n : ℕ) → slot_starts s side (suc n) ≡ slot_starts s side n ++ slots_of s side (suc n) ∷ []
  unfolding slot_starts
  slot-starts_next n = rw (upto_snoc n, map-append (slots_of s side) (upto n) (suc n ∷ []))

  -- ---- starts

  -- the starts of n lists are n numbers
  pub length-starts : (n : ℕ) → length (starts_store s side n) ≡ n
  unfolding starts_store upto
  length-starts n = length-map_run (shared s side n).start 1 n

  -- place q has the start of step q + 1
  pub start_at_lem : (n q : ℕ) → q < n → get_or (starts_store s side n) q 0 ≡ (shared s side n).start (suc q)
  unfolding starts_store upto
  start_at_lem n q h = get_or-map_run (shared s side n).start 1 n q 0 h ∙ rw (one-add q)

  -- the first places are the starts of the first lists
  pub take-starts : (n k : ℕ) → k ≤ n → take k (starts_store s side n) ≡ starts_store s side k
  unfolding starts_store upto
  take-starts n k h =
      take-map_run (shared s side n).start 1 n k h
      ∙ map_run_same _ _ 1 k (λ x l b. starts_stay s side x k n (omega arith) h)

  -- one more step, one more start behind the others
  pub starts_next : (n : ℕ) → starts_store s side (suc n) ≡ starts_store s side n ++ (shared s side (suc n)).start (suc n) ∷ []
  starts_next n =
      let all : List ℕ = starts_store s side (suc n) in
      let size : length all ≡ suc n = length-starts (suc n) in
      sym (take_all (suc n) all (omega arith))
      ∙ take-suc all n 0 (omega arith)
      ∙ rw (take-starts (suc n) n (omega arith), start_at_lem (suc n) n (omega arith))
