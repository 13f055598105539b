-- Strictly ascending lists: what keeps them so, and that their members decide them.
use mathlib.Core.Path.{◌≡◌, refl, sym, ap, ◌∙◌}
use mathlib.Core.Logic.{⊎_elim}
use mathlib.Core.Bool.{Bool, true}
use mathlib.Core.List.{List, [], ◌∷◌, ◌++◌, append-nil}
use Prim.Native.Nat.{ℕ, zero, suc, ◌+◌, ◌-◌, ◌≤◌, ◌<◌}
use native.Mathlib.Nat.{le_refl}
use native.Mathlib.Omega.{arith}
use lib.Dec.{eqb, ltb, leb}
use lib.ListN.{length}
use borrow.Author.Tests.{eqb-true, eqb-false, ltb-true, ltb-false, leb-true}
use Rattle.lists.specs.Functions.{keep}
use Rattle.lists.specs.Sets.{member, Ascending, run, upto, between, merge_one, union, join_all, from}
use Rattle.lists.proofs.Members.{by_test, member_head, member_tail, member_cases, not-member-nil, kept_passes, union-nil_right, union_less}

-- an ascending list may be said to begin lower
pub ascending_weaken : (a b : ℕ) (xs : List ℕ) → a ≤ b → Ascending b xs → Ascending a xs
unfolding Ascending
ascending_weaken a b [] l h = tt
ascending_weaken a b (x ∷ xs) l h = (omega arith, h.1)

-- no member is below the bound
pub member-low : (x a : ℕ) (xs : List ℕ) → Ascending a xs → member x xs ≡ true → a ≤ x
unfolding Ascending
member-low x a [] h e = absurd (not-member-nil x e)
member-low x a (y ∷ ys) h e = ⊎_elim (λ (q : x ≡ y). omega arith) (λ m. let l = member-low x (suc y) ys h.1 m in omega arith) (member_cases x y ys e)

-- a later member is above the first
pub member-above : (x a y : ℕ) (ys : List ℕ) → Ascending a (y ∷ ys) → member x ys ≡ true → y < x
unfolding Ascending
member-above x a y ys h e = member-low x (suc y) ys h.1 e

-- the first member is the least
pub member_first : (x a y : ℕ) (ys : List ℕ) → Ascending a (y ∷ ys) → member x (y ∷ ys) ≡ true → y ≤ x
unfolding Ascending
member_first x a y ys h e = member-low x y (y ∷ ys) (le_refl y, h.1) e

-- the bound may be raised as far as no member is below it
pub ascending_raise : (a b : ℕ) (xs : List ℕ) → Ascending a xs → ((x : ℕ) → member x xs ≡ true → b ≤ x) → Ascending b xs
unfolding Ascending
ascending_raise a b [] h low = tt
ascending_raise a b (x ∷ xs) h low = (low x (member_head x xs), h.1)

-- a kept part of an ascending list ascends
pub ascending-keep : (a : ℕ) (t : ℕ → Bool) (xs : List ℕ) → Ascending a xs → Ascending a (keep t xs)
unfolding Ascending keep
ascending-keep a t [] h = tt
ascending-keep a t (x ∷ xs) h = by_test (t x)
    (λ e. rw e (h.0, ascending-keep (suc x) t xs h.1))
    (λ e. rw e (ascending_weaken a (suc x) (keep t xs) (omega arith) (ascending-keep (suc x) t xs h.1)))

-- a merge ascends, where what `rest` makes does
ascending-merge_one : (a x : ℕ) (rest : List ℕ → List ℕ) → ((ys : List ℕ) → Ascending (suc x) ys → Ascending (suc x) (rest ys)) → a ≤ x
    → (ys : List ℕ) → Ascending a ys → Ascending a (merge_one x rest ys)
unfolding Ascending merge_one
ascending-merge_one a x rest r l [] h = (l, r [] tt)
ascending-merge_one a x rest r l (y ∷ ys) h = by_test (ltb x y)
    (λ e. rw e (l, r (y ∷ ys) (ltb-true x y e, h.1)))
    λ e. by_test (eqb x y)
    (λ q. let p = eqb-true x y q in rw (e, q) (l, r ys (rw p h.1)))
    (λ q. let n = eqb-false x y q in
    let b = ltb-false x y e in
    rw (e, q) (h.0, ascending-merge_one (suc y) x rest r (omega (arith, n)) ys h.1))

-- the union of two ascending lists ascends
pub ascending-union : (a : ℕ) (xs ys : List ℕ) → Ascending a xs → Ascending a ys → Ascending a (union xs ys)
unfolding Ascending union
ascending-union a [] ys h k = k
ascending-union a (x ∷ xs) ys h k = ascending-merge_one a x (union xs) (λ zs. ascending-union (suc x) xs zs h.1) h.0 ys k

-- ascending lists joined to an ascending list ascend
pub ascending-join_all : (a : ℕ) (f : ℕ → List ℕ) (xs is : List ℕ) → Ascending a xs → ((i : ℕ) → member i is ≡ true → Ascending a (f i)) → Ascending a (join_all f xs is)
unfolding join_all
ascending-join_all a f xs [] h parts = h
ascending-join_all a f xs (i ∷ is) h parts = ascending-join_all a f (union xs (f i)) is
    (ascending-union a xs (f i) h (parts i (member_head i is)))
    (λ j m. parts j (member_tail j i is m))

-- a run of numbers ascends
pub ascending_run : (a d : ℕ) → Ascending a (run a d)
unfolding Ascending run
ascending_run a zero = tt
ascending_run a (suc d) = (le_refl a, ascending_run (suc a) d)

-- the numbers 1 to n ascend
pub ascending-upto : (n : ℕ) → Ascending 1 (upto n)
unfolding upto
ascending-upto n = ascending_run 1 n

-- the numbers a to b ascend
pub ascending-between : (a b : ℕ) → Ascending a (between a b)
unfolding between
ascending-between a b = ascending_run a (suc b - a)

-- the members that are k or more ascend from k
pub ascending-from : (a k : ℕ) (xs : List ℕ) → Ascending a xs → Ascending k (from k xs)
unfolding from
ascending-from a k xs h = ascending_raise a k (keep (leb k) xs) (ascending-keep a (leb k) xs h) (λ x m. leb-true k x (kept_passes x (leb k) xs m))

-- two ascending lists, the second from above the first, ascend one behind the other
pub ascending-append : (a b : ℕ) (xs ys : List ℕ) → Ascending a xs → Ascending b ys → ((x : ℕ) → member x xs ≡ true → x < b) → a ≤ b → Ascending a (xs ++ ys)
unfolding Ascending
ascending-append a b [] ys h k low l = ascending_weaken a b ys l k
ascending-append a b (x ∷ xs) ys h k low l =
    (h.0, ascending-append (suc x) b xs ys h.1 k (λ z m. low z (member_tail z x xs m)) (low x (member_head x xs)))

-- ascending lists of which each holds the other's members are equal
pub same_members-by : (a b : ℕ) (xs ys : List ℕ) → Ascending a xs → Ascending b ys
    → ((x : ℕ) → member x xs ≡ true → member x ys ≡ true) → ((x : ℕ) → member x ys ≡ true → member x xs ≡ true) → xs ≡ ys
unfolding Ascending
same_members-by a b [] [] h k to back = refl
same_members-by a b [] (y ∷ ys) h k to back = absurd (not-member-nil y (back y (member_head y ys)))
same_members-by a b (x ∷ xs) [] h k to back = absurd (not-member-nil x (to x (member_head x xs)))
same_members-by a b (x ∷ xs) (y ∷ ys) h k to back =
    let up : y ≤ x = member_first x b y ys k (to x (member_head x xs)) in
    let down : x ≤ y = member_first y a x xs h (back y (member_head y ys)) in
    let q : x ≡ y = omega arith in
    let rest : xs ≡ ys = same_members-by (suc x) (suc y) xs ys h.1 k.1
    (λ z m. let l = member-above z a x xs h m in ⊎_elim (λ (e : z ≡ y). absurd (omega arith)) (λ n. n) (member_cases z y ys (to z (member_tail z x xs m))))
    (λ z m. let l = member-above z b y ys k m in ⊎_elim (λ (e : z ≡ x). absurd (omega arith)) (λ n. n) (member_cases z x xs (back z (member_tail z y ys m)))) in
    cc

-- ascending lists with the same members are equal
pub same_members : (a b : ℕ) (xs ys : List ℕ) → Ascending a xs → Ascending b ys → ((x : ℕ) → member x xs ≡ member x ys) → xs ≡ ys
same_members a b xs ys h k same = same_members-by a b xs ys h k (λ x m. sym (same x) ∙ m) (λ x m. same x ∙ m)

-- an ascending list between two bounds is no longer than they are apart
pub ascending-length : (low high : ℕ) (xs : List ℕ) → low ≤ high → Ascending low xs → ((x : ℕ) → member x xs ≡ true → x < high) → length xs + low ≤ high
unfolding Ascending
ascending-length low high [] l h under = omega arith
ascending-length low high (x ∷ xs) l h under =
    let r = ascending-length (suc x) high xs (under x (member_head x xs)) h.1 (λ z m. under z (member_tail z x xs m)) in
    omega arith

-- the union of two sets, the second above the first, is one behind the other
pub union-append : (xs ys : List ℕ) → ((x y : ℕ) → member x xs ≡ true → member y ys ≡ true → x < y) → union xs ys ≡ xs ++ ys
unfolding union
union-append [] ys below = refl
union-append (x ∷ xs) [] below = union-nil_right (x ∷ xs) ∙ sym (append-nil (x ∷ xs))
union-append (x ∷ xs) (y ∷ ys) below =
    union_less x y xs ys (below x y (member_head x xs) (member_head y ys))
    ∙ ap (λ (zs : List ℕ). x ∷ zs) (union-append xs (y ∷ ys) (λ u v m n. below u v (member_tail u x xs m) n))
