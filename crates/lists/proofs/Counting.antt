-- Sums over the members of a list: laws of sums, counting by rows and by columns, and sums over lists with no member twice.
use mathlib.Core.Path.{◌≡◌, refl, sym, ap, ◌∙◌}
use mathlib.Core.Logic.{⊎_elim}
use mathlib.Core.Bool.{Bool, true, cond, not, true≢false}
use mathlib.Core.List.{List, [], ◌∷◌}
use Prim.Native.Nat.{ℕ, ◌+◌, ◌*◌, ◌≤◌, zero-le}
use native.Mathlib.Nat.{zero-mul, suc-mul}
use native.Mathlib.Omega.{arith}
use lib.Dec.{eqb}
use lib.ListN.{length}
use borrow.Author.Tests.{eqb-true, eqb-false, ne_eqb}
use Rattle.lists.specs.Functions.{keep, total, chain}
use Rattle.lists.specs.Sets.{member, Ascending, upto}
use Rattle.lists.proofs.Members.{by_test, member_head, member_tail, member_cases, not-member-nil, kept_passes, in_keep, in_upto}
use Rattle.lists.proofs.Order.{member-low, ascending-keep, ascending-upto, same_members-by}
use Rattle.lists.proofs.Places.{total-append}
use Rattle.lists.proofs.Once.{Once, ascending-once, once-chain, chain_cases}

-- sizes that agree on the members have the same sum
pub total_cong : (f g : ℕ → ℕ) (xs : List ℕ) → ((x : ℕ) → member x xs ≡ true → f x ≡ g x) → total f xs ≡ total g xs
unfolding total
total_cong f g [] agree = refl
total_cong f g (x ∷ xs) agree = rw (agree x (member_head x xs), total_cong f g xs (λ z m. agree z (member_tail z x xs m)))

-- sizes that are no greater at any member have no greater sum
pub total-le : (f g : ℕ → ℕ) (xs : List ℕ) → ((x : ℕ) → member x xs ≡ true → f x ≤ g x) → total f xs ≤ total g xs
unfolding total
total-le f g [] under = zero-le
total-le f g (x ∷ xs) under = omega (arith, under x (member_head x xs), total-le f g xs (λ z m. under z (member_tail z x xs m)))

module _ {ℓ} {A : Type ℓ} where
  -- a sum of sums is both sums
  pub total-sum : (f g : A → ℕ) (xs : List A) → total (λ x. f x + g x) xs ≡ total f xs + total g xs
  unfolding total
  total-sum f g [] = refl
  total-sum f g (x ∷ xs) = rw (total-sum f g xs) (omega arith)

  -- one number for each member is that number as often as there are members
  pub total_constant : (c : ℕ) (xs : List A) → total (λ x. c) xs ≡ length xs * c
  unfolding total
  total_constant c [] = sym (zero-mul c)
  total_constant c (x ∷ xs) = rw (total_constant c xs, suc-mul) (omega arith)

  -- nothing for each member is nothing
  pub total-zero : (xs : List A) → total (λ x. 0) xs ≡ 0
  unfolding total
  total-zero [] = refl
  total-zero (x ∷ xs) = rw (total-zero xs)

  -- one for each member that passes counts those that are kept
  pub total_passing : (t : A → Bool) (xs : List A) → total (λ x. cond (t x) 1 0) xs ≡ length (keep t xs)
  unfolding total keep
  total_passing t [] = refl
  total_passing t (x ∷ xs) = by_test (t x) (λ e. rw (e, total_passing t xs) (omega arith)) (λ e. rw (e, total_passing t xs) (omega arith))

-- the sum over lists one behind the other is the sum of their sums
pub total-chain {ℓ κ} : {A : Type ℓ} {B : Type κ} (g : B → ℕ) (f : A → List B) (xs : List A) → total g (chain f xs) ≡ total (λ x. total g (f x)) xs
unfolding total chain
total-chain g f [] = refl
total-chain g f (x ∷ xs) = rw (total-append, total-chain g f xs)

-- the numbers 1 to n that are members of a set between them are that set
pub upto-members : (n : ℕ) (xs : List ℕ) → Ascending 1 xs → ((x : ℕ) → member x xs ≡ true → x ≤ n) → keep (λ k. member k xs) (upto n) ≡ xs
upto-members n xs h under =
    let t : ℕ → Bool = λ k. member k xs in
    same_members-by 1 1 (keep t (upto n)) xs (ascending-keep 1 t (upto n) (ascending-upto n)) h
    (λ x m. kept_passes x t (upto n) m)
    (λ x m. in_keep x t (upto n) (in_upto x n (member-low x 1 xs h m) (under x m)) m)

-- keeping one more member or not counts one more or none
length_kept : (t : ℕ → Bool) (i : ℕ) (is : List ℕ) → length (keep t (i ∷ is)) ≡ cond (t i) 1 0 + length (keep t is)
unfolding keep
length_kept t i is = by_test (t i) (λ e. rw e (omega arith)) (λ e. rw e (omega arith))

-- the places of a square counted by columns are those counted by rows
pub count_both_ways : (n : ℕ) (row : ℕ → List ℕ) (is : List ℕ) → ((i : ℕ) → member i is ≡ true → Ascending 1 (row i))
    → ((i x : ℕ) → member i is ≡ true → member x (row i) ≡ true → x ≤ n)
    → total (λ k. length (keep (λ i. member k (row i)) is)) (upto n) ≡ total (λ i. length (row i)) is
unfolding total keep
count_both_ways n row [] h under = total-zero (upto n)
count_both_ways n row (i ∷ is) h under =
    let here = member_head i is in
    let first = total_passing (λ k. member k (row i)) (upto n) ∙ ap length (upto-members n (row i) (h i here) (λ x m. under i x here m)) in
    let rest = count_both_ways n row is (λ j m. h j (member_tail j i is m)) (λ j x m. under j x (member_tail j i is m)) in
    let each : ℕ → ℕ = λ k. length (keep (λ j. member k (row j)) is) in
    total_cong (λ k. length (keep (λ j. member k (row j)) (i ∷ is))) (λ k. cond (member k (row i)) 1 0 + each k) (upto n) (λ k m. length_kept (λ j. member k (row j)) i is)
    ∙ total-sum (λ k. cond (member k (row i)) 1 0) each (upto n)
    ∙ rw (first, rest)

-- the sum over a kept part is no more than the sum over all
pub total_kept {ℓ} : {A : Type ℓ} (g : A → ℕ) (t : A → Bool) (xs : List A) → total g (keep t xs) ≤ total g xs
unfolding total keep
total_kept g t [] = zero-le
total_kept g t (x ∷ xs) = by_test (t x) (λ e. rw e (omega (arith, total_kept g t xs))) (λ e. rw e (omega (arith, total_kept g t xs)))

-- a member, and the sum without it, are no more than the sum
total-without : (g : ℕ → ℕ) (x : ℕ) (ys : List ℕ) → member x ys ≡ true → g x + total g (keep (λ y. not (eqb y x)) ys) ≤ total g ys
unfolding total keep
total-without g x [] m = absurd (not-member-nil x m)
total-without g x (y ∷ ys) m = by_test (eqb y x)
    (λ e. rw (e, eqb-true y x e) (omega (arith, total_kept g (λ z. not (eqb z x)) ys)))
    (λ e. rw e (⊎_elim (λ (q : x ≡ y). absurd (eqb-false y x e (sym q))) (λ n. omega (arith, total-without g x ys n)) (member_cases x y ys m)))

-- where no member stands twice and each is in a second list, the sum is no more than the second list's
pub total-within : (g : ℕ → ℕ) (xs ys : List ℕ) → Once xs → ((x : ℕ) → member x xs ≡ true → member x ys ≡ true) → total g xs ≤ total g ys
unfolding total Once
total-within g [] ys h inside = zero-le
total-within g (x ∷ xs) ys h inside =
    let t : ℕ → Bool = λ y. not (eqb y x) in
    let rest = total-within g xs (keep t ys) h.1 (λ z m. in_keep z t ys (inside z (member_tail z x xs m))
    (ap not (ne_eqb z x (λ q. true≢false (sym (rw q at m) ∙ h.0))))) in
    omega (arith, total-without g x ys (inside x (member_head x xs)))

-- lists that share no member, none with a member twice, sum to no more than a list that holds all their members
pub total-apart : (g : ℕ → ℕ) (f : ℕ → List ℕ) (ks ls : List ℕ) → Once ks → ((k : ℕ) → member k ks ≡ true → Once (f k))
    → ((j k l : ℕ) → member j ks ≡ true → member k ks ≡ true → member l (f j) ≡ true → member l (f k) ≡ true → j ≡ k)
    → ((k l : ℕ) → member k ks ≡ true → member l (f k) ≡ true → member l ls ≡ true) → total (λ k. total g (f k)) ks ≤ total g ls
total-apart g f ks ls h each apart inside = rw (← total-chain g f ks)
    (total-within g (chain f ks) ls (once-chain f ks h each apart) (λ l m. let r = chain_cases l f ks m in inside r.0 l r.1 r.2))

-- lists for 1 to n of numbers 1 to n that share no member, none with a member twice, sum to no more than 1 to n do
pub total-once : (n : ℕ) (g : ℕ → ℕ) (f : ℕ → List ℕ) → ((k : ℕ) → member k (upto n) ≡ true → Once (f k))
    → ((j k l : ℕ) → member j (upto n) ≡ true → member k (upto n) ≡ true → member l (f j) ≡ true → member l (f k) ≡ true → j ≡ k)
    → ((k l : ℕ) → member k (upto n) ≡ true → member l (f k) ≡ true → (1 ≤ l) × (l ≤ n)) → total (λ k. total g (f k)) (upto n) ≤ total g (upto n)
total-once n g f each apart inside = total-apart g f (upto n) (upto n) (ascending-once 1 (upto n) (ascending-upto n)) each apart
    (λ k l m e. let b = inside k l m e in in_upto l n b.0 b.1)
