-- How far the end of one list is the beginning of another.
use mathlib.Core.Path.{◌≡◌, refl, sym, ◌∙◌}
use mathlib.Core.Bool.{true, false≢true, true≢false}
use mathlib.Core.List.{List, [], ◌∷◌}
use Prim.Native.Nat.{ℕ, suc, ◌+◌, ◌-◌, ◌≤◌, ◌<◌, zero-le, suc-le-suc}
use native.Mathlib.Nat.{sub_self}
use native.Mathlib.Omega.{arith}
use lib.Dec.{eqb, ltb, leb}
use lib.ListN.{length, take, drop, get_or}
use lib.Seq.{get_or-take, get_or-drop}
use borrow.Author.Tests.{eqb-true, eq-eqb, leb-true, leb-false, ltb-true, ltb-false}
use Rattle.lists.specs.Sets.{begins, overlap}
use Rattle.lists.proofs.Members.{by_test, and_left, and_right, and_both}

-- the list that a list begins with is what its first places hold
pub begins-take : (xs ys : List ℕ) → begins xs ys ≡ true → take (length xs) ys ≡ xs
unfolding begins
begins-take [] ys e = refl
begins-take (x ∷ xs) [] e = absurd (false≢true e)
begins-take (x ∷ xs) (y ∷ ys) e =
    rw (begins-take xs ys (and_right (eqb x y) (begins xs ys) e), eqb-true x y (and_left (eqb x y) (begins xs ys) e))

-- the list that a list begins with is no longer
pub begins-length : (xs ys : List ℕ) → begins xs ys ≡ true → length xs ≤ length ys
unfolding begins
begins-length [] ys e = zero-le
begins-length (x ∷ xs) [] e = absurd (false≢true e)
begins-length (x ∷ xs) (y ∷ ys) e = suc-le-suc (begins-length xs ys (and_right (eqb x y) (begins xs ys) e))

-- a list begins with what its first places hold
pub take_begins : (xs ys : List ℕ) → length xs ≤ length ys → take (length xs) ys ≡ xs → begins xs ys ≡ true
unfolding begins
take_begins [] ys l e = refl
take_begins (x ∷ xs) [] l e = absurd (omega arith)
take_begins (x ∷ xs) (y ∷ ys) l e =
    let q : x ≡ y = cc in
    let r : take (length xs) ys ≡ xs = cc in
    and_both (eqb x y) (begins xs ys) (eq-eqb x y q) (take_begins xs ys (omega arith) r)

-- an overlap is no longer than the first list
pub overlap_left : (xs ys : List ℕ) → overlap xs ys ≤ length xs
unfolding overlap
overlap_left [] ys = zero-le
overlap_left (x ∷ xs) ys = by_test (begins (x ∷ xs) ys) (λ e. rw e (omega arith)) (λ e. let r = overlap_left xs ys in rw e (omega arith))

-- an overlap is no longer than the second list
pub overlap_right : (xs ys : List ℕ) → overlap xs ys ≤ length ys
unfolding overlap
overlap_right [] ys = zero-le
overlap_right (x ∷ xs) ys = by_test (begins (x ∷ xs) ys) (λ e. rw e (begins-length (x ∷ xs) ys e)) (λ e. rw e (overlap_right xs ys))

-- the last of the first list are the first of the second, as far as the overlap goes
pub overlap_same : (xs ys : List ℕ) → drop (length xs - overlap xs ys) xs ≡ take (overlap xs ys) ys
unfolding overlap
overlap_same [] ys = refl
overlap_same (x ∷ xs) ys = by_test (begins (x ∷ xs) ys)
    (λ e. rw (e, sub_self) (sym (begins-take (x ∷ xs) ys e)))
    (λ e. let l = overlap_left xs ys in
    let s : suc (length xs) - overlap xs ys ≡ suc (length xs - overlap xs ys) = omega arith in
    rw (e, s) (overlap_same xs ys))

-- no longer end of the first list is the beginning of the second
pub overlap_longest : (t : ℕ) (xs ys : List ℕ) → t ≤ length xs → t ≤ length ys → drop (length xs - t) xs ≡ take t ys → t ≤ overlap xs ys
unfolding overlap
overlap_longest t [] ys l m e = l
overlap_longest t (x ∷ xs) ys l m e = by_test (begins (x ∷ xs) ys) (λ b. rw b l) λ b. rw b (by_test (leb t (length xs))
    (λ c. let k = leb-true t (length xs) c in
    let s : suc (length xs) - t ≡ suc (length xs - t) = omega arith in
    overlap_longest t xs ys k m (rw s at e))
    (λ c. let k = leb-false t (length xs) c in
    let s : t ≡ suc (length xs) = omega arith in
    let whole : x ∷ xs ≡ take (suc (length xs)) ys = rw (s, sub_self) at e in
    absurd (true≢false (sym (take_begins (x ∷ xs) ys (omega arith) (sym whole)) ∙ b))))

-- the overlap is the one length at which end and beginning are the same and above which they never are
pub overlap_is : (t : ℕ) (xs ys : List ℕ) → t ≤ length xs → t ≤ length ys → drop (length xs - t) xs ≡ take t ys
    → ((u : ℕ) → t < u → u ≤ length xs → u ≤ length ys → drop (length xs - u) xs ≡ take u ys → ⊥) → overlap xs ys ≡ t
overlap_is t xs ys l m e none =
    let o = overlap_longest t xs ys l m e in
    by_test (ltb t (overlap xs ys))
    (λ c. absurd (none (overlap xs ys) (ltb-true t (overlap xs ys) c) (overlap_left xs ys) (overlap_right xs ys) (overlap_same xs ys)))
    (λ c. let k = ltb-false t (overlap xs ys) c in omega arith)

-- an end and a beginning that are the same have the same numbers
pub same_at : (xs ys : List ℕ) (t i : ℕ) → i < t → drop (length xs - t) xs ≡ take t ys → get_or xs (length xs - t + i) 0 ≡ get_or ys i 0
same_at xs ys t i h e = sym (get_or-drop (length xs - t) xs i 0) ∙ rw e (get_or-take t ys i 0 h)

-- and, if there are any, end in the same number
pub last_same : (xs ys : List ℕ) (t : ℕ) → 0 < t → t ≤ length xs → drop (length xs - t) xs ≡ take t ys → get_or xs (length xs - 1) 0 ≡ get_or ys (t - 1) 0
last_same xs ys t some l e =
    let place : length xs - t + (t - 1) ≡ length xs - 1 = omega arith in
    rw place at (same_at xs ys t (t - 1) (omega arith) e)
