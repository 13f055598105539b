-- Laws of the best row: rows whose entries cannot serve may be left out, so a column's list does for all its rows.
use mathlib.Core.Bool.{true, false, true≢false}
use mathlib.Core.List.{List, [], ◌∷◌, ◌++◌}
use mathlib.Core.Logic.{⊎_elim}
use mathlib.Core.Path.{◌≡◌, refl, sym, ap, ◌∙◌}
use Prim.Native.Nat.{ℕ, zero, suc, ◌+◌, ◌-◌, ◌≤◌, ◌<◌}
use native.Mathlib.Nat.{le_refl}
use native.Mathlib.Omega.{arith}
use lib.Dec.{eqb}
use lib.Ieee.{Float}
use borrow.Author.Tests.{eqb-true, eqb-false}
use Rattle.lists.specs.Sets.{member, between, run, Ascending}
use Rattle.lists.proofs.Members.{by_test, fails, member_head, member_tail, member_cases, run_low, run_high, not_in}
use Rattle.lists.proofs.Order.{member-low}
use Rattle.foundation.specs.Numbers.{may_pivot}
use Rattle.foundation.specs.Reference.{largest, pivot_row, better, best}

pub best_snoc : (entry : ℕ → Float) (found : ℕ) (xs : List ℕ) (x : ℕ) → best entry found (xs ++ x ∷ []) ≡ better entry (best entry found xs) x
unfolding best
best_snoc entry found [] x = refl
best_snoc entry found (y ∷ xs) x = best_snoc entry (better entry found y) xs x

-- rows whose entries cannot serve do nothing
better_skips : (entry : ℕ → Float) (found a : ℕ) → may_pivot (entry a) ≡ false → better entry found a ≡ found
unfolding better
better_skips entry found a e = rw e

best_skips : (entry : ℕ → Float) (found : ℕ) (xs : List ℕ) → ((x : ℕ) → member x xs ≡ true → may_pivot (entry x) ≡ false) → best entry found xs ≡ found
unfolding best better
best_skips entry found [] none = refl
best_skips entry found (x ∷ xs) none = rw (none x (member_head x xs)) (best_skips entry found xs (λ z m. none z (member_tail z x xs m)))

not_tail : (z x : ℕ) (xs : List ℕ) → member z (x ∷ xs) ≡ false → member z xs ≡ false
not_tail z x xs m = fails (member z xs) (λ t. true≢false (sym (member_tail z x xs t) ∙ m))

below_not : (low z : ℕ) (xs : List ℕ) → Ascending low xs → z < low → member z xs ≡ false
below_not low z xs h l = fails (member z xs) (λ m. omega (arith, member-low z low xs h m))

-- the rows from a on, d of them, and an ascending list of some of these that has all that may serve
best_sparse : (entry : ℕ → Float) (found a d : ℕ) (xs : List ℕ) → Ascending a xs → ((x : ℕ) → member x xs ≡ true → x < a + d)
    → ((x : ℕ) → a ≤ x → x < a + d → member x xs ≡ false → may_pivot (entry x) ≡ false) → best entry found (run a d) ≡ best entry found xs
unfolding run best Ascending member
best_sparse entry found a zero [] h under none = refl
best_sparse entry found a zero (x ∷ xs) h under none =
    absurd (omega (arith, member-low x a (x ∷ xs) h (member_head x xs), under x (member_head x xs)))
best_sparse entry found a (suc d) [] h under none =
    best_skips entry found (a ∷ run (suc a) d) (λ x m. none x (run_low x a (suc d) m) (run_high x a (suc d) m) refl)
best_sparse entry found a (suc d) (x ∷ xs) h under none =
    by_test (eqb x a)
    (λ e. let q : x ≡ a = eqb-true x a e in rw (sym q) (best_sparse entry (better entry found x) (suc x) d xs h.1
    (λ z m. omega (arith, under z (member_tail z x xs m)))
    (λ z l u m. none z (omega arith) (omega arith) (not_in z x xs (λ (r : z ≡ x). omega arith) m))))
    (λ e. let ne : x ≡ a → ⊥ = eqb-false x a e in
    let low : suc a ≤ x = omega (arith, h.0) in
    let out : may_pivot (entry a) ≡ false =
    none a (omega arith) (omega arith) (not_in a x xs (λ (r : a ≡ x). omega arith) (below_not (suc x) a xs h.1 (omega arith))) in
    ap (λ (f : ℕ). best entry f (run (suc a) d)) (better_skips entry found a out) ∙ best_sparse entry found (suc a) d (x ∷ xs) (low, h.1)
    (λ z m. omega (arith, under z m)) (λ z l u m. none z (omega arith) (omega arith) m))

-- The pivot row of step k: the best of k and a list, where no other row from k + 1 on may serve.
pub pivot_sparse : (entry : ℕ → Float) (k height : ℕ) (xs : List ℕ) → 1 ≤ k → k ≤ height → Ascending (suc k) xs → ((x : ℕ) → member x xs ≡ true → x ≤ height)
    → ((x : ℕ) → k < x → x ≤ height → member x xs ≡ false → may_pivot (entry x) ≡ false) → pivot_row largest height k entry ≡ best entry 0 (k ∷ xs)
unfolding pivot_row between Ascending
pivot_sparse entry zero height xs low fit h under none = absurd (omega arith)
pivot_sparse entry (suc k) height xs low fit h under none =
    best_sparse entry 0 (suc k) (suc height - suc k) (suc k ∷ xs) (le_refl (suc k), h)
    (λ x m. ⊎_elim (λ (q : x ≡ suc k). omega arith) (λ r. omega (arith, under x r)) (member_cases x (suc k) xs m))
    (λ x l u m. none x (above x l m) (omega arith) (not_tail x (suc k) xs m))
  where
    above : (x : ℕ) → suc k ≤ x → member x (suc k ∷ xs) ≡ false → suc k < x
    above x l m =
        by_test (eqb x (suc k))
        (λ e. absurd (true≢false (sym (rw (eqb-true x (suc k) e) (member_head (suc k) xs)) ∙ m)))
        (λ e. let n = eqb-false x (suc k) e in omega arith)
