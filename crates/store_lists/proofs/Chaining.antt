-- Laws of lists kept as chains: one member more, and walking a chain.
use mathlib.Core.Bool.{true}
use mathlib.Core.List.{List, [], ◌∷◌}
use mathlib.Core.Logic.{⊎_elim}
use mathlib.Core.Path.{◌≡◌, refl, ap, ◌∙◌}
use Prim.Native.Nat.{ℕ, suc, ◌+◌, ◌≤◌, ◌<◌}
use native.Mathlib.Omega.{arith}
use lib.Dec.{eqb}
use lib.ListN.{length, set, get_or, replicate, length-set, length-replicate, get_or-replicate}
use lib.Seq.{get_or-set_same, get_or-set_other}
use borrow.Author.Tests.{eqb-true, eqb-false}
use Rattle.lists.specs.Functions.{update, total}
use Rattle.lists.specs.Sets.{member}
use Rattle.lists.proofs.Members.{by_test, member_head, member_tail, member_cases, not-member-nil}
use Rattle.lists.proofs.Places.{update_same, update-untouched}
use Rattle.store_lists.specs.Chains.{Linked, linked_unique, Chained, Sized}

-- ---- one chain

-- a write at a place that is no member keeps a chain
pub linked-frame : (links : List ℕ) (x y v : ℕ) (xs : List ℕ) → (member y xs ≡ true → ⊥) → Linked links x xs → Linked (set links y v) x xs
unfolding Linked
linked-frame links x y v [] out h = h
linked-frame links x y v (z ∷ zs) out h =
    let apart : z ≡ y → ⊥ = λ e. out (rw e (member_head y zs)) in (
      h.0,
      h.1,
      simp length-set h.2,
      rw (get_or-set_other links y z v 0 apart) (linked-frame links (get_or links z 0) y v zs (λ m. out (member_tail y z zs m)) h.3),
    )

-- a chain that begins at 0 has no member
pub linked_end : (links : List ℕ) (x : ℕ) (xs : List ℕ) → x ≡ 0 → Linked links x xs → xs ≡ []
unfolding Linked
linked_end links x [] e h = refl
linked_end links x (y ∷ ys) e h = absurd (omega arith)

-- any other chain has its first member, and the links lead on
pub linked_next : (links : List ℕ) (x : ℕ) (xs : List ℕ) → (x ≡ 0 → ⊥) → Linked links x xs
    → (later : List ℕ) × (xs ≡ x ∷ later) × (x < length links) × Linked links (get_or links x 0) later
unfolding Linked
linked_next links x [] d h = absurd (d h)
linked_next links x (y ∷ ys) d h = (ys, rw h.0, rw h.0 h.2, rw h.0 h.3)

-- what is left behind the first member of a chain
pub linked_rest : (links : List ℕ) (x : ℕ) (xs later : List ℕ) → (x ≡ 0 → ⊥) → Linked links x xs → Linked links (get_or links x 0) later → xs ≡ x ∷ later
linked_rest links x xs later d h rest =
    let (ys, e, inside, on) = linked_next links x xs d h in
    e ∙ ap (λ (zs : List ℕ). x ∷ zs) (linked_unique links (get_or links x 0) ys later on rest)

-- ---- all chains

-- the chains of stores of zeros are empty
pub chained_none : (last n : ℕ) → n ≤ last → Chained (replicate (suc last) 0) (replicate (suc last) 0) last n (λ k. [])
unfolding Linked
chained_none last n within = record {
  heads_size = length-replicate (suc last) 0;
  links_size = length-replicate (suc last) 0;
  within = within;
  chain_at = λ k low high. get_or-replicate (suc last) k 0 0 (omega arith);
}

-- only the lists of 1 to n count
pub chained_cong : (heads links : List ℕ) (last n : ℕ) (lists lists' : ℕ → List ℕ) → ((k : ℕ) → 1 ≤ k → k ≤ n → lists k ≡ lists' k)
    → Chained heads links last n lists → Chained heads links last n lists'
chained_cong heads links last n lists lists' same h = record {
  heads_size = h.heads_size;
  links_size = h.links_size;
  within = h.within;
  chain_at = λ k low high. rw (same k low high) at (h.chain_at k low high);
}

-- who is in no list may join one
pub chained_push : (heads links : List ℕ) (last n : ℕ) (lists : ℕ → List ℕ) (k x : ℕ) → 1 ≤ k → k ≤ n → 1 ≤ x → x ≤ last
    → ((j : ℕ) → 1 ≤ j → j ≤ n → member x (lists j) ≡ true → ⊥) → Chained heads links last n lists
    → Chained (set heads k x) (set links x (get_or heads k 0)) last n (update lists k (x ∷ lists k))
unfolding Linked
chained_push heads links last n lists k x low high some few out h =
    let hs = h.heads_size in
    let ls = h.links_size in
    let fit = h.within in
    let v = get_or heads k 0 in
    record {
      heads_size = simp length-set hs;
      links_size = simp length-set ls;
      within = fit;
      chain_at = λ j l u. by_test (eqb j k)
          (λ e.
          let q : j ≡ k = eqb-true j k e in
          rw (q, update_same lists k (x ∷ lists k), get_or-set_same heads k x 0 (omega arith), get_or-set_same links x v 0 (omega arith))
          (refl, some, simp length-set (omega arith), linked-frame links v x v (lists k) (out k low high) (h.chain_at k low high)))
          (λ e.
          rw (update-untouched lists k (x ∷ lists k) j e, get_or-set_other heads k j x 0 (eqb-false j k e))
          (linked-frame links (get_or heads j 0) x v (lists j) (out j l u) (h.chain_at j l u)));
    }

-- a chain is emptied
pub chained_drop : (heads links : List ℕ) (last n : ℕ) (lists : ℕ → List ℕ) (k : ℕ) → 1 ≤ k → k ≤ n → Chained heads links last n lists
    → Chained (set heads k 0) links last n (update lists k [])
unfolding Linked
chained_drop heads links last n lists k low high h =
    let hs = h.heads_size in
    let fit = h.within in
    record {
      heads_size = simp length-set hs;
      links_size = h.links_size;
      within = fit;
      chain_at = λ j l u. by_test (eqb j k)
          (λ e. let q : j ≡ k = eqb-true j k e in rw (q, update_same lists k []) (get_or-set_same heads k 0 0 (omega arith)))
          (λ e. rw (update-untouched lists k [] j e, get_or-set_other heads k j 0 0 (eqb-false j k e)) (h.chain_at j l u));
    }

-- ---- walking a chain

-- the members of a chain are above 0
pub linked_above : (links : List ℕ) (x : ℕ) (xs : List ℕ) → Linked links x xs → (y : ℕ) → member y xs ≡ true → 0 < y
unfolding Linked
linked_above links x [] h y m = absurd (not-member-nil y m)
linked_above links x (z ∷ zs) h y m =
    ⊎_elim (λ (q : y ≡ z). rw q h.1) (λ later. linked_above links (get_or links z 0) zs h.3 y later) (member_cases y z zs m)

-- a member's size is at most that of all
pub total_member : (size : ℕ → ℕ) (x : ℕ) (xs : List ℕ) → member x xs ≡ true → size x ≤ total size xs
unfolding total
total_member size x [] m = absurd (not-member-nil x m)
total_member size x (y ∷ ys) m =
    ⊎_elim (λ (q : x ≡ y). rw q (omega arith)) (λ later. omega (arith, total_member size x ys later)) (member_cases x y ys m)

-- Where a chain is walked, `left` is still to come, and the sizes of the members passed sum to `done`.
pub record Walked (size : ℕ → ℕ) (all : List ℕ) (done : ℕ) (left : List ℕ) : Type 0 where
  pub among : (x : ℕ) → member x left ≡ true → member x all ≡ true
  pub same : done + total size left ≡ total size all

module _ {post : ℕ → ℕ → Type 0} {links : List ℕ} {first : ℕ} {size : ℕ → ℕ} {all : List ℕ} (a : Sized post links first size all) where
  -- nothing is passed yet
  pub walk_start : Walked size all 0 all
  walk_start = record { among = λ x m. m; same = omega arith }

  module _ {done : ℕ} {left : List ℕ} (w : Walked size all done left) where
    module _ {x : ℕ} {later : List ℕ} (next : left ≡ x ∷ later) where
      -- the next member
      pub walk_member : member x all ≡ true
      walk_member = w.among x (rw next (member_head x later))

      sum : total size left ≡ size x + total size later
      unfolding total
      sum = ap (total size) next

      module _ (r : ℕ) (p : post x r) where
        is : r ≡ size x
        is = a.gives x r walk_member p

        -- what the function gives at it does not pass the whole
        pub walk_fits : done + r ≤ total size all
        walk_fits = omega (arith, is, sum, w.same)

        -- and is added
        pub walk_turn : Walked size all (done + r) later
        walk_turn = record { among = λ y m. w.among y (rw next (member_tail y x later m)); same = omega (arith, is, sum, w.same) }

    -- every member is passed
    pub walk_end : left ≡ [] → done ≡ total size all
    unfolding total
    walk_end none = let sum : total size left ≡ 0 = ap (total size) none in omega (arith, w.same)
