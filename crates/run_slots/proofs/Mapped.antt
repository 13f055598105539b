-- Laws on lists that the elimination leans on: values mapped over a list of subscripts, read, written and cut.
use mathlib.Core.Bool.{Bool, true}
use mathlib.Core.List.{List, [], ◌∷◌, ◌++◌, map, append_assoc}
use mathlib.Core.Logic.{⊎_elim}
use mathlib.Core.Path.{◌≡◌, refl, sym, ap, ◌∙◌}
use Prim.Native.Nat.{ℕ, zero, suc, ◌+◌, ◌-◌, ◌≤◌, ◌<◌}
use native.Mathlib.Decide.{dec_lt}
use native.Mathlib.Omega.{arith}
use lib.Ieee.{Float}
use lib.ListN.{length, take, drop, get_or, set}
use lib.Seq.{take_at, drop_at, drop-drop}
use Rattle.lists.specs.Functions.{all, chain}
use Rattle.lists.specs.Sets.{member, upto, Ascending}
use Rattle.lists.proofs.Members.{and_left, and_right, member_head, member_tail, member_cases, not-member-nil, member-append, or_true_cases}
use Rattle.lists.proofs.Order.{member-low, ascending-upto}
use Rattle.lists.proofs.Places.{upto_snoc, member_at, upto_at, length-upto}

-- values that agree on the members make the same list
pub map_cong {ℓ} : {A : Type ℓ} (f g : ℕ → A) (xs : List ℕ) → ((x : ℕ) → member x xs ≡ true → f x ≡ g x) → map f xs ≡ map g xs
map_cong f g [] agree = refl
map_cong f g (x ∷ xs) agree = rw (agree x (member_head x xs), map_cong f g xs (λ z m. agree z (member_tail z x xs m)))

-- lists that agree on the members are one behind the other the same
pub chain_cong {ℓ} : {A : Type ℓ} (f g : ℕ → List A) (xs : List ℕ) → ((x : ℕ) → member x xs ≡ true → f x ≡ g x) → chain f xs ≡ chain g xs
unfolding chain
chain_cong f g [] agree = refl
chain_cong f g (x ∷ xs) agree = rw (agree x (member_head x xs), chain_cong f g xs (λ z m. agree z (member_tail z x xs m)))

-- the numbers up to n are those up to k, k + 1, and later ones
pub upto-split : (k n : ℕ) → k < n → (rest : List ℕ) × (upto n ≡ upto k ++ suc k ∷ rest) × ((x : ℕ) → member x rest ≡ true → (suc k < x) × (x ≤ n))
upto-split k zero h = absurd (omega arith)
upto-split k (suc m) h =
    elim (dec_lt k m) [
      | yes l ↦
          let (rest, e, in_rest) = upto-split k m l in (
            rest ++ suc m ∷ [],
            upto_snoc m ∙ rw e (append_assoc (upto k) (suc k ∷ rest) (suc m ∷ [])),
            λ x mem. ⊎_elim (λ p. let b = in_rest x p in omega arith) (λ p. ⊎_elim (λ (q : x ≡ suc m). omega arith) (λ z. absurd (not-member-nil x z)) (member_cases x (suc m) [] p))
                (or_true_cases (member x rest) (member x (suc m ∷ [])) (sym (member-append x rest (suc m ∷ [])) ∙ mem)),
          )
      | no n ↦
          let e : m ≡ k = omega arith in
          ([], upto_snoc m ∙ rw e, λ x mem. absurd (not-member-nil x mem))
    ]

-- one place of mapped values changed is one value changed
pub set-map {ℓ} : {A : Type ℓ} (low : ℕ) (f g : ℕ → A) (xs : List ℕ) (t : ℕ) (v : A) → Ascending low xs → t < length xs → g (get_or xs t 0) ≡ v
    → ((x : ℕ) → member x xs ≡ true → (x ≡ get_or xs t 0 → ⊥) → g x ≡ f x) → set (map f xs) t v ≡ map g xs
unfolding Ascending
set-map low f g [] t v h l here other = absurd (omega arith)
set-map low f g (x ∷ xs) zero v h l here other =
    rw (here, map_cong g f xs (λ z m. other z (member_tail z x xs m) (λ (q : z ≡ x). omega (arith, member-low z (suc x) xs h.1 m))))
set-map low f g (x ∷ xs) (suc t) v h l here other =
    rw (
      other x (member_head x xs) (λ (q : x ≡ get_or xs t 0). omega (arith, member-low (get_or xs t 0) (suc x) xs h.1 (member_at t xs (omega arith)))),
      set-map (suc x) f g xs t v h.1 (omega arith) here (λ z m n. other z (member_tail z x xs m) n),
    )

-- a middle part replaced
pub replaced {ℓ} : {A : Type ℓ} (before mid mid' rest l : List A) (a c : ℕ) → length before ≡ a → length mid ≡ c → l ≡ before ++ (mid ++ rest)
    → take a l ++ (mid' ++ drop (a + c) l) ≡ before ++ (mid' ++ rest)
replaced before mid mid' rest l a c p q e =
    rw (← drop-drop c a l, e, take_at before (mid ++ rest) a p, drop_at before (mid ++ rest) a p, drop_at mid rest c q)

-- all pass, so the one at a place does
pub all_at : (t : Float → Bool) (xs : List Float) (q : ℕ) (z : Float) → all t xs ≡ true → q < length xs → t (get_or xs q z) ≡ true
unfolding all
all_at t [] q z h l = absurd (omega arith)
all_at t (x ∷ xs) zero z h l = and_left (t x) (all t xs) h
all_at t (x ∷ xs) (suc q) z h l = all_at t xs q z (and_right (t x) (all t xs) h) (omega arith)

-- of values by the numbers from 1 to n, one written
pub map-upto-set : (f g : ℕ → Float) (n i : ℕ) (v : Float) → 1 ≤ i → i ≤ n → g i ≡ v → ((j : ℕ) → (j ≡ i → ⊥) → g j ≡ f j) → set (map f (upto n)) (i - 1) v ≡ map g (upto n)
map-upto-set f g n i v low high here others =
    let at = upto_at n i low high in
    set-map 1 f g (upto n) (i - 1) v (ascending-upto n) (omega (arith, length-upto n)) (ap g at ∙ here) (λ j m ne. others j (λ e. ne (e ∙ sym at)))
