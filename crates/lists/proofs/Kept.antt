-- The members that pass a test: all of them, those of a union.
use mathlib.Core.Path.{◌≡◌, refl, ap, ◌∙◌}
use mathlib.Core.Bool.{Bool, true, false, not, and-or_distrib_right}
use mathlib.Core.List.{List, [], ◌∷◌}
use Prim.Native.Nat.{ℕ, suc}
use native.Mathlib.Omega.{arith}
use lib.Dec.{eqb}
use borrow.Author.Tests.{eq-eqb, ne_eqb}
use Rattle.lists.specs.Functions.{keep}
use Rattle.lists.specs.Sets.{member, Ascending, union, join_all}
use Rattle.lists.proofs.Members.{member_head, member_tail, member-keep, member_union}
use Rattle.lists.proofs.Order.{member-low, ascending-keep, ascending-union, same_members}

-- tests that agree on the members keep the same
pub keep_cong : (s t : ℕ → Bool) (xs : List ℕ) → ((x : ℕ) → member x xs ≡ true → s x ≡ t x) → keep s xs ≡ keep t xs
unfolding keep
keep_cong s t [] agree = refl
keep_cong s t (x ∷ xs) agree = rw (agree x (member_head x xs), keep_cong s t xs (λ z m. agree z (member_tail z x xs m)))

-- where every member passes, all are kept
pub keep_all : (t : ℕ → Bool) (xs : List ℕ) → ((x : ℕ) → member x xs ≡ true → t x ≡ true) → keep t xs ≡ xs
unfolding keep
keep_all t [] pass = refl
keep_all t (x ∷ xs) pass = rw (pass x (member_head x xs), keep_all t xs (λ z m. pass z (member_tail z x xs m)))

-- where no member passes, nothing is kept
pub keep-nothing : (t : ℕ → Bool) (xs : List ℕ) → ((x : ℕ) → member x xs ≡ true → t x ≡ false) → keep t xs ≡ []
unfolding keep
keep-nothing t [] none = refl
keep-nothing t (x ∷ xs) none = rw (none x (member_head x xs)) (keep-nothing t xs (λ y m. none y (member_tail y x xs m)))

-- what is kept of a union is the union of what is kept
pub keep-union : (a : ℕ) (t : ℕ → Bool) (xs ys : List ℕ) → Ascending a xs → Ascending a ys → keep t (union xs ys) ≡ union (keep t xs) (keep t ys)
keep-union a t xs ys h k = same_members a a (keep t (union xs ys)) (union (keep t xs) (keep t ys))
    (ascending-keep a t (union xs ys) (ascending-union a xs ys h k))
    (ascending-union a (keep t xs) (keep t ys) (ascending-keep a t xs h) (ascending-keep a t ys k))
    λ x. simp (member-keep, member_union) (and-or_distrib_right (member x xs) (member x ys) (t x))

-- what is kept of sets joined is what is kept of each, joined
pub keep-join_all : (a : ℕ) (t : ℕ → Bool) (f : ℕ → List ℕ) (xs is : List ℕ) → Ascending a xs → ((i : ℕ) → member i is ≡ true → Ascending a (f i))
    → keep t (join_all f xs is) ≡ join_all (λ i. keep t (f i)) (keep t xs) is
unfolding join_all
keep-join_all a t f xs [] h parts = refl
keep-join_all a t f xs (i ∷ is) h parts =
    let p = parts i (member_head i is) in
    keep-join_all a t f (union xs (f i)) is (ascending-union a xs (f i) h p) (λ j m. parts j (member_tail j i is m))
    ∙ ap (λ (zs : List ℕ). join_all (λ j. keep t (f j)) zs is) (keep-union a t xs (f i) h p)

-- leaving out a number below all members leaves all
pub leave_absent : (k : ℕ) (xs : List ℕ) → Ascending (suc k) xs → keep (λ x. not (eqb x k)) xs ≡ xs
leave_absent k xs h = keep_all (λ x. not (eqb x k)) xs (λ x m. let l = member-low x (suc k) xs h m in ap not (ne_eqb x k (omega arith)))

-- leaving out the first member leaves the rest
pub leave_first : (k : ℕ) (xs : List ℕ) → Ascending k (k ∷ xs) → keep (λ x. not (eqb x k)) (k ∷ xs) ≡ xs
unfolding keep Ascending
leave_first k xs h = rw (eq-eqb k k refl) (leave_absent k xs h.1)
