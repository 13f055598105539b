-- What a search of a second list's members in a first has passed, turn by turn, and what the union then is.
use mathlib.Core.Bool.{true}
use mathlib.Core.List.{List, [], ◌∷◌, ◌++◌, append-nil, append_assoc}
use mathlib.Core.Logic.{⊎_elim}
use mathlib.Core.Path.{◌≡◌, refl, sym, ◌∙◌}
use Prim.Native.Nat.{ℕ, suc, ◌-◌, ◌<◌}
use native.Mathlib.Omega.{arith}
use lib.ListN.{length, get_or}
use lib.Seq.{append_snoc}
use Rattle.lists.specs.Sets.{member, union, Ascending}
use Rattle.lists.proofs.Members.{member_head, member_tail, member_cases, not-member-nil, member-append, or_right, union_less, union_equal, union-nil_left, union-nil_right}
use Rattle.lists.proofs.Order.{member-above}
use Rattle.lists.proofs.Places.{member_last}
use Rattle.store_search.specs.Behind.{BehindMember}

in_behind : (x : ℕ) (xs ys : List ℕ) → member x ys ≡ true → member x (xs ++ ys) ≡ true
in_behind x xs ys m = member-append x xs ys ∙ or_right (member x xs) (member x ys) m

-- ---- a list that ascends, in two parts

-- its end ascends
ascending_end : (low : ℕ) (xs ys : List ℕ) → Ascending low (xs ++ ys) → (from : ℕ) × Ascending from ys
unfolding Ascending
ascending_end low [] ys up = (low, up)
ascending_end low (x ∷ xs) ys up = ascending_end (suc x) xs ys up.1

-- what stands before a member is below it
front_below : (low w x : ℕ) (front rest : List ℕ) → Ascending low (front ++ x ∷ rest) → member w front ≡ true → w < x
unfolding Ascending
front_below low w x [] rest up m = absurd (not-member-nil w m)
front_below low w x (y ∷ front) rest up m =
    ⊎_elim
    (λ (q : w ≡ y). rw q (member-above x low y (front ++ x ∷ rest) up (in_behind x front (x ∷ rest) (member_head x rest))))
    (λ n. front_below (suc y) w x front rest up.1 n)
    (member_cases w y front m)

-- ---- unions

-- behind a list with no member stands all of another
pub behind-nothing : (have more : List ℕ) → length have ≡ 0 → (low : ℕ) → Ascending low have → union have more ≡ have ++ more
behind-nothing [] more e low up = union-nil_left more
behind-nothing (x ∷ xs) more e low up = absurd (omega arith)

-- what is below the first member of the second list goes out first
union-front :
    (xs zs : List ℕ) (y : ℕ) (ys : List ℕ) → ((x : ℕ) → member x xs ≡ true → x < y) → union (xs ++ zs) (y ∷ ys) ≡ xs ++ union zs (y ∷ ys)
union-front [] zs y ys below = refl
union-front (x ∷ xs) zs y ys below =
    union_less x y (xs ++ zs) ys (below x (member_head x xs))
    ∙ rw (union-front xs zs y ys (λ w m. below w (member_tail w x xs m)))

-- ---- what is passed

-- A first list is passed up to what is `left`, and a second up to what is `to_come`: the members passed of the second are among those of the first.
pub record Passed (have more left to_come : List ℕ) : Type 0 where
  pub front : List ℕ
  pub stands : have ≡ front ++ left
  pub same : (low : ℕ) → Ascending low have → front ++ union left to_come ≡ union have more

-- nothing is passed yet
pub passed_none : (have more : List ℕ) → Passed have more have more
passed_none have more = record { front = []; stands = refl; same = λ low up. refl }

module _ (have more left : List ℕ) where
  -- the next member of the second list is found in the first
  pub passed_on : (x : ℕ) (later behind : List ℕ) → BehindMember left x behind → Passed have more left (x ∷ later) → Passed have more behind later
  passed_on x later behind (part, stands) p = record {
    front = p.front ++ part ++ x ∷ [];
    stands = p.stands ∙ rw (stands, append_snoc, append_assoc) refl;
    same = λ low up.
        let ascends : (from : ℕ) × Ascending from (part ++ x ∷ behind) = rw stands at (ascending_end low p.front left (rw p.stands at up)) in
        let below : (w : ℕ) → member w part ≡ true → w < x = λ w m. front_below ascends.0 w x part behind ascends.1 m in
        let out : union left (x ∷ later) ≡ part ++ x ∷ union behind later =
        rw stands (union-front part (x ∷ behind) x later below ∙ rw (union_equal x x behind later refl) refl) in
        rw (append_snoc, append_assoc, ← out) (p.same low up);
  }

  -- the second list is passed whole
  pub passed_all : Passed have more left [] → (low : ℕ) → Ascending low have → union have more ≡ have
  passed_all p low up = sym (p.same low up) ∙ rw union-nil_right (sym p.stands)

  -- the next member of the second list is above the first list's last
  pub passed_behind :
      (x : ℕ) (later : List ℕ) → 0 < length have → get_or have (length have - 1) 0 < x → Passed have more left (x ∷ later)
      → (low : ℕ) → Ascending low have → union have more ≡ have ++ x ∷ later
  passed_behind x later some above p low up =
      let below : (w : ℕ) → member w left ≡ true → w < x = λ w m.
      let l = member_last low w (length have - 1) have up (omega arith) (rw p.stands (in_behind w p.front left m)) in
      omega arith in
      let out : union left (x ∷ later) ≡ left ++ x ∷ later =
      rw append-nil at (union-front left [] x later below) ∙ rw union-nil_left refl in
      sym (p.same low up) ∙ rw (out, ← append_assoc, ← p.stands) refl
