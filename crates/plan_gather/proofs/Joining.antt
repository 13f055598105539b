-- Lists without the step at hand, lists within bounds, and sets that are joined.
use mathlib.Core.Bool.{true, not}
use mathlib.Core.List.{List, [], ◌∷◌}
use mathlib.Core.Logic.{⊎_elim}
use mathlib.Core.Path.{◌≡◌, refl, ap, ◌∙◌}
use Prim.Native.Nat.{ℕ, suc, ◌-◌, ◌≤◌, ◌<◌}
use native.Mathlib.Nat.{le_refl}
use native.Mathlib.Omega.{arith}
use lib.Dec.{eqb}
use lib.ListN.{length, take, drop, get_or, length-drop}
use lib.Seq.{take_all}
use borrow.Author.Tests.{eqb-true, eqb-false, eq-eqb, ne_eqb}
use Rattle.lists.specs.Functions.{keep}
use Rattle.lists.specs.Sets.{member, Ascending, union, join_all, from}
use Rattle.lists.proofs.Members.{by_test, member_head, member_tail, not-member-nil, union_cases, join_all_cong}
use Rattle.lists.proofs.Order.{ascending_weaken, ascending-union, ascending-length}
use Rattle.lists.proofs.Kept.{keep-join_all, leave_absent}
use Rattle.plan_gather.specs.Gathering.{without, omit, Within, GrownIn}

-- ---- a list without its own step

-- The part of a list from `from` on is the list without its own step k.
pub record Cut (k from : ℕ) (more : List ℕ) : Type 0 where
  pub inside : from ≤ length more
  pub small : from ≤ 1
  pub is : take (length more - from) (drop from more) ≡ without k more

-- the part of a list from a place on, as the code lends it
pub part_is : (more : List ℕ) (at : ℕ) → take (length more - at) (drop at more) ≡ drop at more
part_is more at = take_all (length more - at) (drop at more) (simp length-drop (le_refl (length more - at)))

cut_leads : (k : ℕ) (more : List ℕ) → 0 < length more → get_or more 0 0 ≡ k → drop 1 more ≡ without k more
unfolding without
cut_leads k [] some e = absurd (omega arith)
cut_leads k (x ∷ xs) some e = rw (eq-eqb x k e)

cut-whole : (k : ℕ) (more : List ℕ) → (0 < length more → get_or more 0 0 ≡ k → ⊥) → more ≡ without k more
unfolding without
cut-whole k [] other = refl
cut-whole k (x ∷ xs) other = rw (ne_eqb x k (other (omega arith)))

-- the step leads the list
pub cut_first : (k from : ℕ) (more : List ℕ) → 0 < length more → get_or more 0 0 ≡ k → from ≡ 1 → Cut k from more
cut_first k from more some e one = record { inside = omega arith; small = omega arith; is = part_is more from ∙ rw one (cut_leads k more some e) }

-- the step does not lead it
pub cut_none : (k from : ℕ) (more : List ℕ) → (0 < length more → get_or more 0 0 ≡ k → ⊥) → from ≡ 0 → Cut k from more
cut_none k from more other none = record { inside = omega arith; small = omega arith; is = part_is more from ∙ rw none (cut-whole k more other) }

-- the members but k of a list that ascends from k
pub omit-without : (k : ℕ) (xs : List ℕ) → Ascending k xs → omit k xs ≡ without k xs
unfolding omit without Ascending keep
omit-without k [] up = refl
omit-without k (x ∷ xs) up =
    by_test (eqb x k)
    (λ e. let q : x ≡ k = eqb-true x k e in rw e (leave_absent k xs (rw q at up.1)))
    (λ e. let n : x ≡ k → ⊥ = eqb-false x k e in rw e (ap (λ (ys : List ℕ). x ∷ ys) (leave_absent k xs (ascending_weaken (suc k) (suc x) xs (omega arith) up.1))))

-- ---- lists within bounds

within-union : (low high : ℕ) (xs ys : List ℕ) → Within low high xs → Within low high ys → Within low high (union xs ys)
within-union low high xs ys a b =
    record {
      ascending = ascending-union low xs ys a.ascending b.ascending;
      bounded = λ x m. ⊎_elim (a.bounded x) (b.bounded x) (union_cases x xs ys m);
    }

pub without-within : (k high : ℕ) (xs : List ℕ) → Within k high xs → Within (suc k) high (without k xs)
unfolding without Ascending
without-within k high [] w = record { ascending = tt; bounded = w.bounded }
without-within k high (x ∷ xs) w =
    let up : Ascending k (x ∷ xs) = w.ascending in
    by_test (eqb x k)
    (λ e.
    let q : x ≡ k = eqb-true x k e in
    rw e (record { ascending = rw q at up.1; bounded = λ y m. w.bounded y (member_tail y x xs m) }))
    (λ e. let n : x ≡ k → ⊥ = eqb-false x k e in rw e (record { ascending = (omega arith, up.1); bounded = w.bounded }))

-- the list that a list and another without its own step make
pub joined_within : (k n : ℕ) (xs more : List ℕ) → Within (suc k) n xs → Within k n more → Within (suc k) n (union xs (without k more))
joined_within k n xs more a b = within-union (suc k) n xs (without k more) a (without-within k n more b)

pub within_to : (low : ℕ) {m n : ℕ} (xs : List ℕ) → m ≡ n → Within low m xs → Within low n xs
within_to low xs e w = rw e at w

-- such a list has no more than n members
pub within-length : (k n : ℕ) (xs : List ℕ) → Within (suc k) n xs → length xs ≤ n
within-length k n xs w =
    omega (
      arith,
      ascending-length 1 (suc n) xs (omega arith) (ascending_weaken 1 (suc k) xs (omega arith) w.ascending) (λ x m. omega (arith, w.bounded x m)),
    )

-- ---- sets that are joined

pub join_all-within :
    (low high : ℕ) (f : ℕ → List ℕ) (xs is : List ℕ) → Within low high xs → ((i : ℕ) → member i is ≡ true → Within low high (f i))
    → Within low high (join_all f xs is)
unfolding join_all
join_all-within low high f xs [] w each = w
join_all-within low high f xs (i ∷ is) w each =
    join_all-within low high f (union xs (f i)) is (within-union low high xs (f i) w (each i (member_head i is))) (λ j m. each j (member_tail j i is m))

-- leaving k out of sets joined is leaving it out of each
pub omit-join_all :
    (k : ℕ) (f g : ℕ → List ℕ) (xs is : List ℕ) → Ascending k xs → ((i : ℕ) → member i is ≡ true → Ascending k (f i))
    → ((i : ℕ) → member i is ≡ true → omit k (f i) ≡ g i) → omit k (join_all f xs is) ≡ join_all g (omit k xs) is
unfolding omit
omit-join_all k f g xs is up each agree =
    keep-join_all k (λ x. not (eqb x k)) f xs is up each ∙ join_all_cong (λ i. keep (λ x. not (eqb x k)) (f i)) g (omit k xs) is agree

pub within_none : (low high : ℕ) → Within low high []
unfolding Ascending
within_none low high = record { ascending = tt; bounded = λ x m. absurd (not-member-nil x m) }

-- no list is grown yet
pub grown_none : (n : ℕ) (growing : List ℕ) → length growing ≡ n → GrownIn n 0 growing []
grown_none n growing size = record { store_size = size; size = refl; fits = omega arith; is = refl }
