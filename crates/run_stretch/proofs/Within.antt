-- Laws of ascending lists: one list that lies in another, its stretch there, and the members before and behind a place.
use mathlib.Core.Bool.{true}
use mathlib.Core.List.{List, [], ◌∷◌}
use mathlib.Core.Logic.{⊎_elim}
use mathlib.Core.Path.{◌≡◌, refl, sym, ◌∙◌}
use Prim.Native.Nat.{ℕ, zero, suc, ◌+◌, ◌≤◌, ◌<◌}
use native.Mathlib.Omega.{arith}
use lib.ListN.{length, take, drop, get_or, length-take, length-drop}
use lib.Seq.{get_or-drop}
use Rattle.lists.specs.Sets.{member, Ascending}
use Rattle.lists.proofs.Members.{member_head, member_tail, member_cases, not-member-nil}
use Rattle.lists.proofs.Order.{member-above, member_first, ascending_weaken}
use Rattle.lists.proofs.Places.{member_at, member_last}

-- ---- one list in another

abbrev pub Within : List ℕ → List ℕ → Type 0
Within xs ys = (x : ℕ) → member x xs ≡ true → member x ys ≡ true

-- where the first members are equal the rest lies in the rest
within_tail : (a b x : ℕ) (xs ys : List ℕ) → Ascending a (x ∷ xs) → Within (x ∷ xs) (x ∷ ys) → Within xs ys
within_tail a b x xs ys h w z m =
    ⊎_elim (λ (q : z ≡ x). absurd (omega (arith, member-above z a x xs h m))) (λ r. r) (member_cases z x ys (w z (member_tail z x xs m)))

-- where the other list begins below it lies in that list's rest
within-later : (a x y : ℕ) (xs ys : List ℕ) → Ascending a (x ∷ xs) → y < x → Within (x ∷ xs) (y ∷ ys) → Within (x ∷ xs) ys
within-later a x y xs ys h l w z m =
    ⊎_elim (λ (q : z ≡ y). absurd (omega (arith, member_first z a x xs h m))) (λ r. r) (member_cases z y ys (w z m))

-- a list within another is no longer
pub within-length : (a b : ℕ) (xs ys : List ℕ) → Ascending a xs → Ascending b ys → Within xs ys → length xs ≤ length ys
unfolding Ascending
within-length a b [] ys h k w = omega arith
within-length a b (x ∷ xs) [] h k w = absurd (not-member-nil x (w x (member_head x xs)))
within-length a b (x ∷ xs) (y ∷ ys) h k w =
    ⊎_elim
    (λ (q : x ≡ y). let r = within-length (suc x) (suc y) xs ys h.1 k.1 (within_tail a b x xs ys h (rw (sym q) at w)) in omega arith)
    (λ m. let r = within-length a (suc y) (x ∷ xs) ys h k.1 (within-later a x y xs ys h (member-above x b y ys k m) w) in omega arith)
    (member_cases x y ys (w x (member_head x xs)))

-- a list within one that is no longer is that list
pub within_same : (a b : ℕ) (xs ys : List ℕ) → Ascending a xs → Ascending b ys → Within xs ys → length ys ≤ length xs → ys ≡ xs
unfolding Ascending
within_same a b [] [] h k w l = refl
within_same a b [] (y ∷ ys) h k w l = absurd (omega arith)
within_same a b (x ∷ xs) [] h k w l = absurd (not-member-nil x (w x (member_head x xs)))
within_same a b (x ∷ xs) (y ∷ ys) h k w l =
    ⊎_elim
    (λ (q : x ≡ y). rw (sym q, within_same (suc x) (suc y) xs ys h.1 k.1 (within_tail a b x xs ys h (rw (sym q) at w)) (omega arith)))
    (λ m. absurd (omega (arith, within-length a (suc y) (x ∷ xs) ys h k.1 (within-later a x y xs ys h (member-above x b y ys k m) w))))
    (member_cases x y ys (w x (member_head x xs)))

-- a list within another whose first member stands at o lies in that list from o on
pub within-drop : (a b x o : ℕ) (xs ys : List ℕ) → Ascending a (x ∷ xs) → Ascending b ys → Within (x ∷ xs) ys → o < length ys → get_or ys o 0 ≡ x → Within (x ∷ xs) (drop o ys)
unfolding Ascending
within-drop a b x zero xs ys h k w l e = w
within-drop a b x (suc o) xs [] h k w l e = absurd (omega arith)
within-drop a b x (suc o) xs (y ∷ ys) h k w l e =
    let m : member (get_or ys o 0) ys ≡ true = member_at o ys (omega arith) in
    let up : y < x = omega (arith, member-above (get_or ys o 0) b y ys k m) in
    within-drop a (suc y) x o xs ys h k.1 (within-later a x y xs ys h up w) (omega arith) e

-- a member up to the one at t is among the first t + 1
pub member-take : (b x t : ℕ) (ys : List ℕ) → Ascending b ys → member x ys ≡ true → t < length ys → x ≤ get_or ys t 0 → member x (take (suc t) ys) ≡ true
unfolding Ascending
member-take b x t [] k m l u = absurd (omega arith)
member-take b x zero (y ∷ ys) k m l u =
    ⊎_elim (λ (q : x ≡ y). rw q (member_head y [])) (λ r. absurd (omega (arith, member-above x b y ys k r))) (member_cases x y ys m)
member-take b x (suc t) (y ∷ ys) k m l u =
    ⊎_elim (λ (q : x ≡ y). rw q (member_head y (take (suc t) ys))) (λ r. member_tail x y (take (suc t) ys) (member-take (suc y) x t ys k.1 r (omega arith) u)) (member_cases x y ys m)

pub ascending-drop : (b o : ℕ) (ys : List ℕ) → Ascending b ys → Ascending b (drop o ys)
unfolding Ascending
ascending-drop b zero ys k = k
ascending-drop b (suc o) [] k = k
ascending-drop b (suc o) (y ∷ ys) k = ascending_weaken b (suc y) (drop o ys) (omega arith) (ascending-drop (suc y) o ys k.1)

pub ascending-take : (b c : ℕ) (ys : List ℕ) → Ascending b ys → Ascending b (take c ys)
unfolding Ascending
ascending-take b zero ys k = tt
ascending-take b (suc c) [] k = tt
ascending-take b (suc c) (y ∷ ys) k = (k.0, ascending-take (suc y) c ys k.1)

-- If the first and the last member of a list that lies in another stand as far apart there, it is that part of it.
pub stretch : (a b x t o : ℕ) (xs ys : List ℕ) → Ascending a (x ∷ xs) → Ascending b ys → Within (x ∷ xs) ys → length (x ∷ xs) ≡ suc t
    → o + t < length ys → get_or ys o 0 ≡ x → get_or ys (o + t) 0 ≡ get_or (x ∷ xs) t 0 → take (suc t) (drop o ys) ≡ x ∷ xs
stretch a b x t o xs ys h k w e l first last =
    let behind = within-drop a b x o xs ys h k w (omega arith) first in
    let at : get_or (drop o ys) t 0 ≡ get_or (x ∷ xs) t 0 = get_or-drop o ys t 0 ∙ last in
    within_same a b (x ∷ xs) (take (suc t) (drop o ys)) h (ascending-take b (suc t) (drop o ys) (ascending-drop b o ys k))
    (λ z m. member-take b z t (drop o ys) (ascending-drop b o ys k) (behind z m) (simp length-drop (omega arith)) (rw at (member_last a z t (x ∷ xs) h e m)))
    (simp (length-take, length-drop) (omega arith))

-- ---- members before and behind a place

-- the members before a place are smaller
pub take_below : (b z o : ℕ) (ys : List ℕ) → Ascending b ys → o < length ys → member z (take o ys) ≡ true → (member z ys ≡ true) × (z < get_or ys o 0)
unfolding Ascending
take_below b z zero ys k l m = absurd (not-member-nil z m)
take_below b z (suc o) [] k l m = absurd (not-member-nil z m)
take_below b z (suc o) (y ∷ ys) k l m =
    ⊎_elim (λ (q : z ≡ y). rw q (member_head y ys, member-above (get_or ys o 0) b y ys k (member_at o ys (omega arith))))
    (λ r. let (i, j) = take_below (suc y) z o ys k.1 (omega arith) r in (member_tail z y ys i, j)) (member_cases z y (take o ys) m)

-- those behind a place are greater
pub drop-above : (b z t : ℕ) (ys : List ℕ) → Ascending b ys → member z (drop (suc t) ys) ≡ true → (member z ys ≡ true) × (get_or ys t 0 < z)
unfolding Ascending
drop-above b z t [] k m = absurd (not-member-nil z m)
drop-above b z zero (y ∷ ys) k m = (member_tail z y ys m, member-above z b y ys k m)
drop-above b z (suc t) (y ∷ ys) k m = let (i, j) = drop-above (suc y) z t ys k.1 m in (member_tail z y ys i, j)

-- those from a place on are no smaller than the one there
pub drop-from : (b z s : ℕ) (ys : List ℕ) → Ascending b ys → member z (drop s ys) ≡ true → (member z ys ≡ true) × (s < length ys) × (get_or ys s 0 ≤ z)
unfolding Ascending
drop-from b z zero [] k m = absurd (not-member-nil z m)
drop-from b z zero (y ∷ ys) k m = (m, omega arith, member_first z b y ys k m)
drop-from b z (suc s) [] k m = absurd (not-member-nil z m)
drop-from b z (suc s) (y ∷ ys) k m = let (i, j, u) = drop-from (suc y) z s ys k.1 m in (member_tail z y ys i, omega arith, u)

-- a member at or behind a place is among those from it on
pub in_drop : (s q : ℕ) (ys : List ℕ) → s ≤ q → q < length ys → member (get_or ys q 0) (drop s ys) ≡ true
in_drop zero q ys l u = member_at q ys u
in_drop (suc s) q [] l u = absurd (omega arith)
in_drop (suc s) zero (y ∷ ys) l u = absurd (omega arith)
in_drop (suc s) (suc q) (y ∷ ys) l u = in_drop s q ys (omega arith) (omega arith)

pub take_in : (x c : ℕ) (ys : List ℕ) → member x (take c ys) ≡ true → member x ys ≡ true
take_in x zero ys m = absurd (not-member-nil x m)
take_in x (suc c) [] m = m
take_in x (suc c) (y ∷ ys) m = ⊎_elim (λ (q : x ≡ y). rw q (member_head y ys)) (λ r. member_tail x y ys (take_in x c ys r)) (member_cases x y (take c ys) m)
