-- Lists with no member twice: falling lists, ascending lists, lists that share no member, one behind the other.
use mathlib.Core.Path.{◌≡◌, refl, sym, ap, ◌∙◌}
use mathlib.Core.Logic.{⊎_elim}
use mathlib.Core.Bool.{true, false, true≢false}
use mathlib.Core.List.{List, [], ◌∷◌, ◌++◌}
use Prim.Native.Nat.{ℕ, suc, ◌≤◌, ◌<◌}
use native.Mathlib.Omega.{arith}
use lib.Dec.{eqb}
use lib.ListN.{length}
use borrow.Author.Tests.{eqb-true, eqb-false}
use Rattle.lists.specs.Functions.{keep, chain}
use Rattle.lists.specs.Sets.{member, Ascending, Falling}
use Rattle.lists.proofs.Members.{by_test, fails, or_true_cases, or_left, or_right, member_head, member_tail, member_cases, member-append, not-member-nil}
use Rattle.lists.proofs.Order.{member-above}

-- no member stands twice
unfoldable pub Once : List ℕ → Type 0
Once [] = Unit
Once (x ∷ xs) = (member x xs ≡ false) × Once xs

-- a falling list may be said to begin higher
pub falling_weaken : (a b : ℕ) (xs : List ℕ) → a ≤ b → Falling a xs → Falling b xs
unfolding Falling
falling_weaken a b [] l h = tt
falling_weaken a b (x ∷ xs) l h = (omega arith, h.1)

-- every member of a falling list is below the bound
pub falling-high : (x high : ℕ) (xs : List ℕ) → Falling high xs → member x xs ≡ true → x < high
unfolding Falling
falling-high x high [] h e = absurd (not-member-nil x e)
falling-high x high (y ∷ ys) h e = ⊎_elim (λ (q : x ≡ y). omega arith) (λ m. let l = falling-high x y ys h.1 m in omega arith) (member_cases x y ys e)

-- a falling list has no member twice
pub falling-once : (high : ℕ) (xs : List ℕ) → Falling high xs → Once xs
unfolding Falling Once
falling-once high [] h = tt
falling-once high (x ∷ xs) h = (fails (member x xs) (λ m. let l = falling-high x x xs h.1 m in omega arith), falling-once x xs h.1)

-- an ascending list has no member twice
pub ascending-once : (low : ℕ) (xs : List ℕ) → Ascending low xs → Once xs
unfolding Ascending Once
ascending-once low [] h = tt
ascending-once low (x ∷ xs) h = (fails (member x xs) (λ m. let l = member-above x low x xs h m in omega arith), ascending-once (suc x) xs h.1)

-- two lists that share no member, neither with a member twice, have none twice together
pub once-append : (xs ys : List ℕ) → Once xs → Once ys → ((x : ℕ) → member x xs ≡ true → member x ys ≡ true → ⊥) → Once (xs ++ ys)
unfolding Once
once-append [] ys h k apart = k
once-append (x ∷ xs) ys h k apart = (
  fails (member x (xs ++ ys)) (λ m. ⊎_elim
      (λ p. true≢false (sym p ∙ h.0))
      (λ p. apart x (member_head x xs) p)
      (or_true_cases (member x xs) (member x ys) (sym (member-append x xs ys) ∙ m))),
  once-append xs ys h.1 k (λ z m n. apart z (member_tail z x xs m) n),
)

-- a member of one of the lists is a member of them all, one behind the other
pub chain_part : (x i : ℕ) (f : ℕ → List ℕ) (is : List ℕ) → member i is ≡ true → member x (f i) ≡ true → member x (chain f is) ≡ true
unfolding chain
chain_part x i f [] m e = absurd (not-member-nil i m)
chain_part x i f (j ∷ js) m e = member-append x (f j) (chain f js) ∙ ⊎_elim
    (λ q. or_left (member x (f j)) (member x (chain f js)) (rw q at e))
    (λ n. or_right (member x (f j)) (member x (chain f js)) (chain_part x i f js n e))
    (member_cases i j js m)

-- a member of all the lists, one behind the other, is one of one of them
pub chain_cases : (x : ℕ) (f : ℕ → List ℕ) (is : List ℕ) → member x (chain f is) ≡ true → (i : ℕ) × (member i is ≡ true) × (member x (f i) ≡ true)
unfolding chain
chain_cases x f [] e = absurd (not-member-nil x e)
chain_cases x f (j ∷ js) e = ⊎_elim
    (λ p. (j, member_head j js, p))
    (λ p. let r = chain_cases x f js p in (r.0, member_tail r.0 j js r.1, r.2))
    (or_true_cases (member x (f j)) (member x (chain f js)) (sym (member-append x (f j) (chain f js)) ∙ e))

-- lists that share no member, none with a member twice, have none twice together
pub once-chain : (f : ℕ → List ℕ) (ks : List ℕ) → Once ks → ((k : ℕ) → member k ks ≡ true → Once (f k))
    → ((j k x : ℕ) → member j ks ≡ true → member k ks ≡ true → member x (f j) ≡ true → member x (f k) ≡ true → j ≡ k) → Once (chain f ks)
unfolding chain Once
once-chain f [] h each apart = tt
once-chain f (k ∷ ks) h each apart = once-append (f k) (chain f ks)
    (each k (member_head k ks))
    (once-chain f ks h.1 (λ j m. each j (member_tail j k ks m)) (λ i j x m n. apart i j x (member_tail i k ks m) (member_tail j k ks n)))
    λ x m n.
    let r = chain_cases x f ks n in
    let q : r.0 ≡ k = apart r.0 k x (member_tail r.0 k ks r.1) (member_head k ks) r.2 m in
    true≢false (sym (rw q at r.1) ∙ h.0)

-- no member, no place where it stands
pub count_none : (x : ℕ) (xs : List ℕ) → member x xs ≡ false → length (keep (eqb x) xs) ≡ 0
unfolding keep member
count_none x [] m = refl
count_none x (y ∷ ys) m = by_test (eqb x y)
    (λ e. absurd (true≢false (sym (rw e) ∙ m)))
    (λ e. rw e (count_none x ys (rw e at m)))

-- a member of a list with none twice stands there once
pub once_count : (x : ℕ) (xs : List ℕ) → Once xs → member x xs ≡ true → length (keep (eqb x) xs) ≡ 1
unfolding Once keep
once_count x [] h m = absurd (not-member-nil x m)
once_count x (y ∷ ys) h m = by_test (eqb x y)
    (λ e. let q : x ≡ y = eqb-true x y e in rw e (ap suc (count_none x ys (rw q h.0))))
    (λ e. rw e (once_count x ys h.1 (⊎_elim (λ q. absurd (eqb-false x y e q)) (λ n. n) (member_cases x y ys m))))
