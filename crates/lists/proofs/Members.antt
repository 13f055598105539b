-- Membership, as a Boolean test: what is a member of a kept part, a union, a run, two lists one behind the other.
use mathlib.Core.Path.{◌≡◌, refl, sym, ◌∙◌}
use mathlib.Core.Logic.{◌⊎◌, inl, inr, ⊎_elim}
use mathlib.Core.Bool.{Bool, true, false, cond, ◌&&◌, ◌||◌, false≢true, or_assoc, or-true, and-true, and-false, and-or_distrib_right}
use mathlib.Core.List.{List, [], ◌∷◌, ◌++◌}
use Prim.Native.Nat.{ℕ, zero, suc, ◌+◌, ◌-◌, ◌≤◌, ◌<◌, suc-le-suc}
use native.Mathlib.Omega.{arith}
use lib.Dec.{eqb, ltb}
use lib.ListN.{length, drop}
use borrow.Author.Tests.{eqb-true, eqb-false, eq-eqb, ne_eqb, lt-ltb, le-ltb}
use Rattle.lists.specs.Functions.{keep, all, some, empty, same}
use Rattle.lists.specs.Sets.{member, run, upto, between, merge_one, union, join_all}

-- a statement by the two cases of a test
pub by_test {ℓ} : {P : Type ℓ} (b : Bool) → (b ≡ true → P) → (b ≡ false → P) → P
by_test true f g = f refl
by_test false f g = g refl

-- one of two tests passes where their disjunction does
pub or_true_cases : (a b : Bool) → a || b ≡ true → a ≡ true ⊎ b ≡ true
or_true_cases true b e = inl refl
or_true_cases false b e = inr e

-- a disjunction passes where its first test does
pub or_left : (a b : Bool) → a ≡ true → a || b ≡ true
or_left a b e = rw e

-- a disjunction passes where its second test does
pub or_right : (a b : Bool) → b ≡ true → a || b ≡ true
or_right a b e = rw e (or-true a)

-- the first test passes where a conjunction does
pub and_left : (a b : Bool) → a && b ≡ true → a ≡ true
and_left true b e = refl
and_left false b e = e

-- the second test passes where a conjunction does
pub and_right : (a b : Bool) → a && b ≡ true → b ≡ true
and_right true b e = e
and_right false b e = absurd (false≢true e)

-- a conjunction passes where both tests do
pub and_both : (a b : Bool) → a ≡ true → b ≡ true → a && b ≡ true
and_both a b p q = rw (p, q)

-- two tests that pass together are equal
pub same_test : (a b : Bool) → (a ≡ true → b ≡ true) → (b ≡ true → a ≡ true) → a ≡ b
same_test true b f g = sym (f refl)
same_test false true f g = g refl
same_test false false f g = refl

-- a test that cannot pass fails
pub fails : (a : Bool) → (a ≡ true → ⊥) → a ≡ false
fails true f = absurd (f refl)
fails false f = refl

-- all of a list and one more pass
pub all_snoc : {A : Type 0} (t : A → Bool) (xs : List A) (x : A) → all t (xs ++ x ∷ []) ≡ all t xs && t x
unfolding all
all_snoc t [] x = by_test (t x) (λ e. rw e) (λ e. rw e)
all_snoc t (y ∷ xs) x = by_test (t y) (λ e. rw e (all_snoc t xs x)) (λ e. rw e)

-- a list that is empty by the test has no member
pub empty-nil : (xs : List ℕ) → empty xs ≡ true → xs ≡ []
unfolding empty
empty-nil [] e = refl
empty-nil (x ∷ xs) e = absurd (false≢true e)

-- lists that are the same by the test are equal
pub same_equal : (xs ys : List ℕ) → same xs ys ≡ true → xs ≡ ys
unfolding same
same_equal [] [] h = refl
same_equal [] (y ∷ ys) h = absurd (false≢true h)
same_equal (x ∷ xs) [] h = absurd (false≢true h)
same_equal (x ∷ xs) (y ∷ ys) h = rw (eqb-true x y (and_left (eqb x y) (same xs ys) h), same_equal xs ys (and_right (eqb x y) (same xs ys) h))

-- a list is the same as itself, by the test
pub same_self : (xs : List ℕ) → same xs xs ≡ true
unfolding same
same_self [] = refl
same_self (x ∷ xs) = rw (eq-eqb x x refl) (same_self xs)

-- equal lists are the same by the test
pub equal_same : (xs ys : List ℕ) → xs ≡ ys → same xs ys ≡ true
equal_same xs ys e = rw e (same_self ys)

-- a number is a member of each list that begins with it
pub member_head : (x : ℕ) (xs : List ℕ) → member x (x ∷ xs) ≡ true
unfolding member
member_head x xs = rw (eq-eqb x x refl)

-- a member stays one with one more before it
pub member_tail : (x y : ℕ) (ys : List ℕ) → member x ys ≡ true → member x (y ∷ ys) ≡ true
unfolding member
member_tail x y ys e = or_right (eqb x y) (member x ys) e

-- a member is the first one or a later one
pub member_cases : (x y : ℕ) (ys : List ℕ) → member x (y ∷ ys) ≡ true → x ≡ y ⊎ member x ys ≡ true
unfolding member
member_cases x y ys e = ⊎_elim (λ p. inl (eqb-true x y p)) (λ p. inr p) (or_true_cases (eqb x y) (member x ys) e)

-- nothing is a member of the empty list
pub not-member-nil : (x : ℕ) → member x [] ≡ true → ⊥
unfolding member
not-member-nil x e = false≢true e

-- what is neither the first nor a later member is none
pub not_in : (x y : ℕ) (ys : List ℕ) → (x ≡ y → ⊥) → member x ys ≡ false → member x (y ∷ ys) ≡ false
unfolding member
not_in x y ys n m = rw (ne_eqb x y n, m)

-- a member of the rest of a list is a member
pub drop_in : (x a : ℕ) (xs : List ℕ) → member x (drop a xs) ≡ true → member x xs ≡ true
drop_in x zero xs m = m
drop_in x (suc a) [] m = m
drop_in x (suc a) (y ∷ ys) m = member_tail x y ys (drop_in x a ys m)

-- a number is a member of each list that ends with it
pub member_snoc : (x : ℕ) (xs : List ℕ) → member x (xs ++ x ∷ []) ≡ true
member_snoc x [] = member_head x []
member_snoc x (y ∷ ys) = member_tail x y (ys ++ x ∷ []) (member_snoc x ys)

-- one number more behind a list does not change whether another one is a member
pub member_snoc_other : (x y : ℕ) (xs : List ℕ) → (x ≡ y → ⊥) → member x (xs ++ y ∷ []) ≡ member x xs
unfolding member
member_snoc_other x y [] n = rw (ne_eqb x y n)
member_snoc_other x y (z ∷ zs) n = rw (member_snoc_other x y zs n)

-- the members of two lists one behind the other are those of both
pub member-append : (x : ℕ) (xs ys : List ℕ) → member x (xs ++ ys) ≡ member x xs || member x ys
unfolding member
member-append x [] ys = refl
member-append x (z ∷ zs) ys = rw (member-append x zs ys) (sym (or_assoc (eqb x z) (member x zs) (member x ys)))

-- x is y, with both passing a test: the same, told of either
same_pass : (t : ℕ → Bool) (x y : ℕ) → eqb x y && t y ≡ eqb x y && t x
same_pass t x y = by_test (eqb x y) (λ e. rw (e, eqb-true x y e)) (λ e. rw e)

-- one number kept or not, before a list
member-one : (x y : ℕ) (b : Bool) (zs : List ℕ) → member x (cond b (y ∷ zs) zs) ≡ eqb x y && b || member x zs
unfolding member
member-one x y true zs = rw and-true
member-one x y false zs = rw and-false

-- the members of a kept part are the members that pass
pub member-keep : (x : ℕ) (t : ℕ → Bool) (xs : List ℕ) → member x (keep t xs) ≡ member x xs && t x
unfolding member keep
member-keep x t [] = refl
member-keep x t (y ∷ ys) = rw (member-one, member-keep x t ys, same_pass t x y) (sym (and-or_distrib_right (eqb x y) (member x ys) (t x)))

-- a member of a kept part is a member
pub kept_in : (x : ℕ) (t : ℕ → Bool) (xs : List ℕ) → member x (keep t xs) ≡ true → member x xs ≡ true
kept_in x t xs e = and_left (member x xs) (t x) (sym (member-keep x t xs) ∙ e)

-- a member of a kept part passes the test
pub kept_passes : (x : ℕ) (t : ℕ → Bool) (xs : List ℕ) → member x (keep t xs) ≡ true → t x ≡ true
kept_passes x t xs e = and_right (member x xs) (t x) (sym (member-keep x t xs) ∙ e)

-- a member that passes the test is a member of the kept part
pub in_keep : (x : ℕ) (t : ℕ → Bool) (xs : List ℕ) → member x xs ≡ true → t x ≡ true → member x (keep t xs) ≡ true
in_keep x t xs p q = member-keep x t xs ∙ and_both (member x xs) (t x) p q

-- the union of no number and a set is that set
pub union-nil_left : (ys : List ℕ) → union [] ys ≡ ys
unfolding union
union-nil_left ys = refl

-- the union of a set and no number is that set
pub union-nil_right : (xs : List ℕ) → union xs [] ≡ xs
unfolding union merge_one
union-nil_right [] = refl
union-nil_right (x ∷ xs) = rw (union-nil_right xs)

-- in a merge the lesser first number goes out first: the first list's
pub union_less : (x y : ℕ) (xs ys : List ℕ) → x < y → union (x ∷ xs) (y ∷ ys) ≡ x ∷ union xs (y ∷ ys)
unfolding union merge_one
union_less x y xs ys h = rw (lt-ltb x y)

-- in a merge the lesser first number goes out first: the second list's
pub union_more : (x y : ℕ) (xs ys : List ℕ) → y < x → union (x ∷ xs) (y ∷ ys) ≡ y ∷ union (x ∷ xs) ys
unfolding union merge_one
union_more x y xs ys h =
    let e : eqb x y ≡ false = ne_eqb x y (omega arith) in
    let l : ltb x y ≡ false = le-ltb x y (omega arith) in
    rw (l, e)

-- in a merge a common first number goes out once
pub union_equal : (x y : ℕ) (xs ys : List ℕ) → x ≡ y → union (x ∷ xs) (y ∷ ys) ≡ x ∷ union xs ys
unfolding union merge_one
union_equal x y xs ys h =
    let l : ltb x y ≡ false = le-ltb x y (omega arith) in
    rw (l, eq-eqb x y h)

-- a merge with one more member is longer by one at least
merge_one-length : (x n : ℕ) (rest : List ℕ → List ℕ) → ((ys : List ℕ) → n ≤ length (rest ys)) → (ys : List ℕ) → suc n ≤ length (merge_one x rest ys)
unfolding merge_one
merge_one-length x n rest h [] = suc-le-suc (h [])
merge_one-length x n rest h (y ∷ ys) = by_test (ltb x y) (λ l. rw l (suc-le-suc (h (y ∷ ys)))) λ l. by_test (eqb x y)
    (λ e. rw (l, e) (suc-le-suc (h ys)))
    (λ e. rw (l, e) (let longer = merge_one-length x n rest h ys in omega arith))

-- a union is no shorter than its first list
pub union-length : (xs ys : List ℕ) → length xs ≤ length (union xs ys)
unfolding union
union-length [] ys = omega arith
union-length (x ∷ xs) ys = merge_one-length x (length xs) (union xs) (union-length xs) ys

-- a test named twice in a disjunction counts once
once : (a m r : Bool) → a || (m || r) ≡ a || (m || (a || r))
once true m r = refl
once false m r = refl

-- the order in a disjunction does not count
third_first : (b a m r : Bool) → b || (a || (m || r)) ≡ a || (m || (b || r))
third_first true true m r = refl
third_first true false true r = refl
third_first true false false r = refl
third_first false a m r = refl

-- the members of a merge, from those of what `rest` makes
member-merge_one : (z x : ℕ) (rest : List ℕ → List ℕ) (m : Bool) → ((ys : List ℕ) → member z (rest ys) ≡ m || member z ys)
    → (ys : List ℕ) → member z (merge_one x rest ys) ≡ eqb z x || (m || member z ys)
unfolding member merge_one
member-merge_one z x rest m h [] = rw (h [])
member-merge_one z x rest m h (y ∷ ys) = by_test (ltb x y) (λ l. rw (l, h (y ∷ ys))) λ l. by_test (eqb x y)
    (λ e. rw (l, e, h ys, ← eqb-true x y e) (once (eqb z x) m (member z ys)))
    (λ e. rw (l, e, member-merge_one z x rest m h ys) (third_first (eqb z y) (eqb z x) m (member z ys)))

-- the members of a union are those of both sets
pub member_union : (x : ℕ) (xs ys : List ℕ) → member x (union xs ys) ≡ member x xs || member x ys
unfolding member union
member_union x [] ys = refl
member_union x (z ∷ zs) ys = member-merge_one x z (union zs) (member x zs) (member_union x zs) ys ∙ sym (or_assoc (eqb x z) (member x zs) (member x ys))

-- a member of the first set is one of the union
pub in_union_left : (x : ℕ) (xs ys : List ℕ) → member x xs ≡ true → member x (union xs ys) ≡ true
in_union_left x xs ys e = member_union x xs ys ∙ or_left (member x xs) (member x ys) e

-- a member of the second set is one of the union
pub in_union_right : (x : ℕ) (xs ys : List ℕ) → member x ys ≡ true → member x (union xs ys) ≡ true
in_union_right x xs ys e = member_union x xs ys ∙ or_right (member x xs) (member x ys) e

-- a member of a union is one of either set
pub union_cases : (x : ℕ) (xs ys : List ℕ) → member x (union xs ys) ≡ true → member x xs ≡ true ⊎ member x ys ≡ true
union_cases x xs ys e = or_true_cases (member x xs) (member x ys) (sym (member_union x xs ys) ∙ e)

-- joining sets to a set keeps its members
pub joined_keeps : (x : ℕ) (f : ℕ → List ℕ) (a is : List ℕ) → member x a ≡ true → member x (join_all f a is) ≡ true
unfolding join_all
joined_keeps x f a [] e = e
joined_keeps x f a (i ∷ is) e = joined_keeps x f (union a (f i)) is (in_union_left x a (f i) e)

-- the members of each set that is joined are members of the whole
pub joined_part : (x i : ℕ) (f : ℕ → List ℕ) (a is : List ℕ) → member i is ≡ true → member x (f i) ≡ true → member x (join_all f a is) ≡ true
unfolding join_all
joined_part x i f a [] h e = absurd (not-member-nil i h)
joined_part x i f a (j ∷ js) h e = ⊎_elim
    (λ q. joined_keeps x f (union a (f j)) js (in_union_right x a (f j) (rw q at e)))
    (λ m. joined_part x i f (union a (f j)) js m e)
    (member_cases i j js h)

-- a member of the whole is one of the first set or of a set that is joined
pub joined_cases : (x : ℕ) (f : ℕ → List ℕ) (a is : List ℕ) → member x (join_all f a is) ≡ true
    → member x a ≡ true ⊎ ((i : ℕ) × (member i is ≡ true) × (member x (f i) ≡ true))
unfolding join_all
joined_cases x f a [] e = inl e
joined_cases x f a (i ∷ is) e = ⊎_elim
    (λ u. ⊎_elim (λ p. inl p) (λ p. inr (i, member_head i is, p)) (union_cases x a (f i) u))
    (λ r. inr (r.0, member_tail r.0 i is r.1, r.2))
    (joined_cases x f (union a (f i)) is e)

-- sets that agree on the members of a list join to the same
pub join_all_cong : (f g : ℕ → List ℕ) (a is : List ℕ) → ((i : ℕ) → member i is ≡ true → f i ≡ g i) → join_all f a is ≡ join_all g a is
unfolding join_all
join_all_cong f g a [] agree = refl
join_all_cong f g a (i ∷ is) agree = rw (agree i (member_head i is)) (join_all_cong f g (union a (g i)) is (λ j m. agree j (member_tail j i is m)))

-- the numbers from a on, d of them, are members of their run
pub in_run : (x a d : ℕ) → a ≤ x → x < a + d → member x (run a d) ≡ true
unfolding run
in_run x a zero l h = absurd (omega arith)
in_run x a (suc d) l h = by_test (eqb x a)
    (λ e. rw (eqb-true x a e) (member_head a (run (suc a) d)))
    (λ e. let n = eqb-false x a e in member_tail x a (run (suc a) d) (in_run x (suc a) d (omega (arith, n)) (omega arith)))

-- no member of a run is below its first number
pub run_low : (x a d : ℕ) → member x (run a d) ≡ true → a ≤ x
unfolding run
run_low x a zero e = absurd (not-member-nil x e)
run_low x a (suc d) e = ⊎_elim (λ (q : x ≡ a). omega arith) (λ m. let l = run_low x (suc a) d m in omega arith) (member_cases x a (run (suc a) d) e)

-- every member of a run is below its end
pub run_high : (x a d : ℕ) → member x (run a d) ≡ true → x < a + d
unfolding run
run_high x a zero e = absurd (not-member-nil x e)
run_high x a (suc d) e = ⊎_elim (λ (q : x ≡ a). omega arith) (λ m. let l = run_high x (suc a) d m in omega arith) (member_cases x a (run (suc a) d) e)

-- the numbers 1 to n are members of their list
pub in_upto : (x n : ℕ) → 1 ≤ x → x ≤ n → member x (upto n) ≡ true
unfolding upto
in_upto x n l h = in_run x 1 n l (omega arith)

-- every member of the numbers 1 to n is 1 or more
pub upto-low : (x n : ℕ) → member x (upto n) ≡ true → 1 ≤ x
unfolding upto
upto-low x n e = run_low x 1 n e

-- every member of the numbers 1 to n is n or less
pub upto-high : (x n : ℕ) → member x (upto n) ≡ true → x ≤ n
unfolding upto
upto-high x n e = omega (arith, run_high x 1 n e)

-- the numbers a to b are members of their list
pub in_between : (x a b : ℕ) → a ≤ x → x ≤ b → member x (between a b) ≡ true
unfolding between
in_between x a b l h = in_run x a (suc b - a) l (omega arith)

-- every member of the numbers a to b is a or more
pub between-low : (x a b : ℕ) → member x (between a b) ≡ true → a ≤ x
unfolding between
between-low x a b e = run_low x a (suc b - a) e

-- every member of the numbers a to b is b or less
pub between-high : (x a b : ℕ) → member x (between a b) ≡ true → x ≤ b
unfolding between
between-high x a b e = omega (arith, run_low x a (suc b - a) e, run_high x a (suc b - a) e)

-- a test that every member passes is passed by each
pub all_in : (x : ℕ) (t : ℕ → Bool) (xs : List ℕ) → all t xs ≡ true → member x xs ≡ true → t x ≡ true
unfolding all
all_in x t [] h e = absurd (not-member-nil x e)
all_in x t (y ∷ ys) h e = ⊎_elim
    (λ q. rw q (and_left (t y) (all t ys) h))
    (λ m. all_in x t ys (and_right (t y) (all t ys) h) m)
    (member_cases x y ys e)

-- a test that each member passes is passed by all
pub all_from : (t : ℕ → Bool) (xs : List ℕ) → ((x : ℕ) → member x xs ≡ true → t x ≡ true) → all t xs ≡ true
unfolding all
all_from t [] h = refl
all_from t (y ∷ ys) h = and_both (t y) (all t ys) (h y (member_head y ys)) (all_from t ys (λ x m. h x (member_tail x y ys m)))

-- tests that agree on the members are passed by all or not alike
pub all_cong : (s t : ℕ → Bool) (xs : List ℕ) → ((x : ℕ) → member x xs ≡ true → s x ≡ t x) → all s xs ≡ all t xs
unfolding all
all_cong s t [] agree = refl
all_cong s t (x ∷ xs) agree = rw (agree x (member_head x xs), all_cong s t xs (λ z m. agree z (member_tail z x xs m)))

-- a test that a member passes is passed by some member, and where it is, by one that can be named
pub some_of : (x : ℕ) (t : ℕ → Bool) (xs : List ℕ) → member x xs ≡ true → t x ≡ true → some t xs ≡ true
unfolding some
some_of x t [] m e = absurd (not-member-nil x m)
some_of x t (y ∷ ys) m e = ⊎_elim
    (λ q. or_left (t y) (some t ys) (rw q at e))
    (λ l. or_right (t y) (some t ys) (some_of x t ys l e))
    (member_cases x y ys m)

pub some-found : (t : ℕ → Bool) (xs : List ℕ) → some t xs ≡ true → (x : ℕ) × (member x xs ≡ true) × (t x ≡ true)
unfolding some
some-found t [] e = absurd (false≢true e)
some-found t (y ∷ ys) e =
    by_test (t y)
    (λ h. (y, member_head y ys, h))
    (λ h. let (x, m, passes) = some-found t ys (rw h at e) in (x, member_tail x y ys m, passes))
