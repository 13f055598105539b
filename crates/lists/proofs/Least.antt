-- The least member above a number.
use mathlib.Core.Path.{◌≡◌, refl}
use mathlib.Core.Bool.{true}
use mathlib.Core.List.{List, [], ◌∷◌}
use Prim.Native.Nat.{ℕ, ◌≤◌, ◌<◌}
use lib.Dec.{ltb}
use borrow.Author.Tests.{ltb-true, lt-ltb}
use Rattle.lists.specs.Functions.{keep}
use Rattle.lists.specs.Sets.{member, Ascending, first, least_above}
use Rattle.lists.proofs.Members.{member_head, not-member-nil, kept_in, kept_passes, in_keep}
use Rattle.lists.proofs.Order.{member_first, ascending-keep}

-- the first of a list that has a member is a member
pub first_member : (x : ℕ) (xs : List ℕ) → member x xs ≡ true → member (first xs) xs ≡ true
unfolding first
first_member x [] e = absurd (not-member-nil x e)
first_member x (y ∷ ys) e = member_head y ys

-- the first of an ascending list is its least member
pub first_least : (x a : ℕ) (xs : List ℕ) → Ascending a xs → member x xs ≡ true → first xs ≤ x
unfolding first
first_least x a [] h e = absurd (not-member-nil x e)
first_least x a (y ∷ ys) h e = member_first x a y ys h e

-- a first number that is not 0 is a member
pub first_nonzero : (xs : List ℕ) → (first xs ≡ 0 → ⊥) → member (first xs) xs ≡ true
unfolding first
first_nonzero [] n = absurd (n refl)
first_nonzero (x ∷ xs) n = member_head x xs

-- where a member is above k, the least above k is a member
pub least-member : (x k : ℕ) (xs : List ℕ) → member x xs ≡ true → k < x → member (least_above k xs) xs ≡ true
unfolding least_above
least-member x k xs e l = kept_in (first (keep (ltb k) xs)) (ltb k) xs (first_member x (keep (ltb k) xs) (in_keep x (ltb k) xs e (lt-ltb k x l)))

-- where a member is above k, the least above k is above k
pub least_above_lem : (x k : ℕ) (xs : List ℕ) → member x xs ≡ true → k < x → k < least_above k xs
unfolding least_above
least_above_lem x k xs e l = ltb-true k (first (keep (ltb k) xs)) (kept_passes (first (keep (ltb k) xs)) (ltb k) xs (first_member x (keep (ltb k) xs) (in_keep x (ltb k) xs e (lt-ltb k x l))))

-- no member above k is below the least above k
pub least-least : (x k a : ℕ) (xs : List ℕ) → Ascending a xs → member x xs ≡ true → k < x → least_above k xs ≤ x
unfolding least_above
least-least x k a xs h e l = first_least x a (keep (ltb k) xs) (ascending-keep a (ltb k) xs h) (in_keep x (ltb k) xs e (lt-ltb k x l))

-- a least member above k that is not 0 is a member
pub least_nonzero_member : (k : ℕ) (xs : List ℕ) → (least_above k xs ≡ 0 → ⊥) → member (least_above k xs) xs ≡ true
unfolding least_above
least_nonzero_member k xs n = kept_in (first (keep (ltb k) xs)) (ltb k) xs (first_nonzero (keep (ltb k) xs) n)

-- a least member above k that is not 0 is above k
pub least_nonzero_above : (k : ℕ) (xs : List ℕ) → (least_above k xs ≡ 0 → ⊥) → k < least_above k xs
unfolding least_above
least_nonzero_above k xs n = ltb-true k (first (keep (ltb k) xs)) (kept_passes (first (keep (ltb k) xs)) (ltb k) xs (first_nonzero (keep (ltb k) xs) n))
