-- One entry more in the slots: the square so far, and the stores that show it.
use mathlib.Core.Bool.{true}
use mathlib.Core.List.{List, [], ◌∷◌, ◌++◌}
use mathlib.Core.Path.{◌≡◌, refl, sym, ◌∙◌}
use Prim.Native.Nat.{ℕ, ◌+◌, ◌-◌, ◌≤◌, ◌<◌}
use native.Mathlib.Omega.{arith}
use lib.Dec.{eqb}
use lib.Ieee.{Float, nan}
use lib.ListN.{length, get_or, set, length-set}
use lib.Seq.{get_or-set_same, get_or-set_other}
use borrow.Author.Tests.{eqb-true, eqb-false, eq-eqb, le-ltb}
use Rattle.lists.specs.Sets.{member, Ascending, index_of}
use Rattle.lists.proofs.Members.{by_test, or_right, member-append, member_head, member_snoc_other}
use Rattle.lists.proofs.Order.{member-low}
use Rattle.lists.proofs.Places.{index_at, index_below}
use Rattle.foundation.specs.Plan.{Planning, Side, lower, upper}
use Rattle.foundation.specs.Shown.{at_side}
use Rattle.foundation.specs.Slots.{slots_of}
use Rattle.foundation.specs.Square.{Square}
use Rattle.foundation.specs.Subscripts.{kept}
use Rattle.run_slots.specs.Shows.{Shows}
use Rattle.run_slots.proofs.Shows.{part_inside, shows-set, shows_same}
use Rattle.run_load.specs.Rows.{reached, loaded_to, Loaded}

-- ---- which places are reached

module _ (i j : ℕ) (done : List ℕ) where
  reached_here : reached i (done ++ j ∷ []) i j ≡ true
  unfolding reached
  reached_here =
      rw (le-ltb i i (omega arith), eq-eqb i i refl, member-append j done (j ∷ []), member_head j []) (or_right (member j done) true refl)

  reached_other : (a b : ℕ) → (a ≡ i → b ≡ j → ⊥) → reached i (done ++ j ∷ []) a b ≡ reached i done a b
  unfolding reached
  reached_other a b other =
      by_test (eqb a i)
      (λ e. rw (e, member_snoc_other b j done (other (eqb-true a i e))))
      (λ e. rw e)

  module _ (target : Square Float) where
    pub loaded_here : loaded_to target i (done ++ j ∷ []) i j ≡ target i j
    unfolding loaded_to
    loaded_here = rw reached_here

    pub loaded_other : (a b : ℕ) → (a ≡ i → b ≡ j → ⊥) → loaded_to target i (done ++ j ∷ []) a b ≡ loaded_to target i done a b
    unfolding loaded_to
    loaded_other a b other = rw (reached_other a b other)

-- ---- one place of a side's store

module _ (s : Planning) (side : Side) (n : ℕ) (square square' : Square Float) (store : List Float) (h : Shows s side n square store) (k x : ℕ) (low : 1 ≤ k) (high : k ≤ n)
    (low' : ℕ) (asc : Ascending low' (kept s side k)) (there : member x (kept s side k) ≡ true) where
  -- the slot lies in the store
  pub slot-inside : slots_of s side (k - 1) + index_of x (kept s side k) < length store
  slot-inside = omega (arith, index_below x (kept s side k) there, part_inside s side n square store h k low high)

  -- a store with one place changed shows a square with one place changed
  pub shows_put : (v : Float) → at_side side square' k x ≡ v
      → ((l y : ℕ) → (l ≡ k → y ≡ x → ⊥) → at_side side square' l y ≡ at_side side square l y)
      → Shows s side n square' (set store (slots_of s side (k - 1) + index_of x (kept s side k)) v)
  shows_put v here other =
      let at : get_or (kept s side k) (index_of x (kept s side k)) 0 ≡ x = index_at x (kept s side k) there in
      shows-set s side n square store h k low high (index_of x (kept s side k)) (index_below x (kept s side k) there) low' asc square' v
      (λ l y a b c m. other l y (λ p q. c p))
      (rw at here)
      (λ y m c. other k y (λ p q. c (q ∙ sym at)))

-- ---- one entry

module _ (s : Planning) (n : ℕ) (target : Square Float) (i j : ℕ) (done : List ℕ) (l u d : List Float)
    (ascends : (side : Side) (k : ℕ) → Ascending (k + 1) (kept s side k))
    (h : Loaded s n target i done l u d) where
  after : List ℕ
  after = done ++ j ∷ []

  -- an entry that is not the diagonal's leaves the diagonal
  stays : (i ≡ j → ⊥) → (a : ℕ) → 1 ≤ a → a ≤ n → reached i after a a ≡ true → get_or d (a - 1) nan ≡ target a a
  unfolding after
  stays apart a low high r = h.diagonal a low high (sym (reached_other i j done a a (λ p q. apart (sym p ∙ q))) ∙ r)

  -- an entry that is not in a side leaves its store
  lower_stays : i ≤ j → Shows s lower n (loaded_to target i after) l
  unfolding after at_side
  lower_stays apart = shows_same s lower n (loaded_to target i done) l h.lowers (loaded_to target i after)
      (λ k x a b m. loaded_other i j done target x k (λ p q. omega (arith, member-low x (k + 1) (kept s lower k) (ascends lower k) m)))

  upper_stays : j ≤ i → Shows s upper n (loaded_to target i after) u
  unfolding after at_side
  upper_stays apart = shows_same s upper n (loaded_to target i done) u h.uppers (loaded_to target i after)
      (λ k x a b m. loaded_other i j done target k x (λ p q. omega (arith, member-low x (k + 1) (kept s upper k) (ascends upper k) m)))

  module _ (v : Float) (value : v ≡ target i j) where
    pub into_lower : j < i → 1 ≤ j → j ≤ n → member i (kept s lower j) ≡ true
        → Loaded s n target i (done ++ j ∷ []) (set l (slots_of s lower (j - 1) + index_of i (kept s lower j)) v) u d
    unfolding after at_side
    into_lower apart low high there = record {
      lowers = shows_put s lower n (loaded_to target i done) (loaded_to target i after) l h.lowers j i low high (j + 1) (ascends lower j) there v
          (loaded_here i j done target ∙ sym value) (λ k x other. loaded_other i j done target x k (λ p q. other q p));
      uppers = upper_stays (omega arith);
      size = h.size;
      diagonal = stays (λ p. omega arith);
    }

    pub into_upper : i < j → 1 ≤ i → i ≤ n → member j (kept s upper i) ≡ true
        → Loaded s n target i (done ++ j ∷ []) l (set u (slots_of s upper (i - 1) + index_of j (kept s upper i)) v) d
    unfolding after at_side
    into_upper apart low high there = record {
      lowers = lower_stays (omega arith);
      uppers = shows_put s upper n (loaded_to target i done) (loaded_to target i after) u h.uppers i j low high (i + 1) (ascends upper i) there v
          (loaded_here i j done target ∙ sym value) (λ k x other. loaded_other i j done target k x other);
      size = h.size;
      diagonal = stays (λ p. omega arith);
    }

    pub into_diagonal : i ≡ j → 1 ≤ i → i ≤ n → Loaded s n target i (done ++ j ∷ []) l u (set d (i - 1) v)
    unfolding after
    into_diagonal same low high = record {
      lowers = lower_stays (omega arith);
      uppers = upper_stays (omega arith);
      size = simp length-set h.size;
      diagonal = λ a from to r. by_test (eqb a i)
          (λ e. let q : a ≡ i = eqb-true a i e in rw q (get_or-set_same d (i - 1) v nan (omega (arith, h.size)) ∙ value ∙ rw same))
          (λ e. let q : a ≡ i → ⊥ = eqb-false a i e in
          get_or-set_other d (i - 1) (a - 1) v nan (λ p. q (omega arith)) ∙ h.diagonal a from to (sym (reached_other i j done a a (λ p t. q p)) ∙ r));
    }
