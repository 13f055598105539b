-- The pivot row of a step: the fold over the rows from k on gives the lowest row of the largest magnitude.
use mathlib.Core.Bool.{true, false, false≢true}
use mathlib.Core.Path.{◌≡◌, refl, sym, subst, ◌∙◌}
use Prim.Native.Nat.{ℕ, zero, suc, ◌+◌, ◌-◌, ◌≤◌, ◌<◌}
use native.Mathlib.Decide.{dec_lt}
use native.Mathlib.Omega.{arith}
use lib.Dec.{eqb}
use lib.Ieee.{Float, lt}
use borrow.Author.Tests.{eqb-true, eqb-false}
use Rattle.lists.specs.Sets.{run, between}
use Rattle.lists.proofs.Members.{by_test}
use Rattle.lists.proofs.Small.{less_one}
use Rattle.foundation.specs.Claims.{LargestFrom, LargestRow, ListedRow}
use Rattle.foundation.specs.Numbers.{finite, magnitude, may_pivot}
use Rattle.foundation.specs.Reference.{better, best, pivot_row}
use Rattle.foundation.proofs.Magnitudes.{reverse, not_below_self, passed_on, faint_below}

-- r leads among the rows from k to before `end`
record Leads (k end : ℕ) (entry : ℕ → Float) (r : ℕ) : Type 0 where
  without : r ≡ 0 → (i : ℕ) → k ≤ i → i < end → may_pivot (entry i) ≡ false
  found : 1 ≤ r → (k ≤ r) × (r < end) × (may_pivot (entry r) ≡ true)
  greatest : 1 ≤ r → (i : ℕ) → k ≤ i → i < end → lt (magnitude (entry r)) (magnitude (entry i)) ≡ false
  lowest : 1 ≤ r → (i : ℕ) → k ≤ i → i < r → lt (magnitude (entry i)) (magnitude (entry r)) ≡ true

-- a fact of the rows before `end` and of `end` itself
and_last : (P : ℕ → Type 0) (k end : ℕ) → ((i : ℕ) → k ≤ i → i < end → P i) → P end → (i : ℕ) → k ≤ i → i < suc end → P i
and_last P k end before at i low high =
    elim (dec_lt i end) [
      | yes h ↦ before i low h
      | no n ↦ let same : end ≡ i = omega arith in subst P same at
    ]

module _ (last k : ℕ) (entry : ℕ → Float) (low : 1 ≤ k) (sound : (i : ℕ) → k ≤ i → i ≤ last → finite (entry i) ≡ true) where
  -- the leading row stays where the next one is not larger, or cannot serve
  stays :
      (end r : ℕ) → Leads k end entry r → (r ≡ 0 → may_pivot (entry end) ≡ false)
      → (1 ≤ r → lt (magnitude (entry r)) (magnitude (entry end)) ≡ false) → Leads k (suc end) entry r
  stays end r was none small =
      record {
        without = λ z. and_last (λ i. may_pivot (entry i) ≡ false) k end (was.without z) (none z);
        found = λ some. let (a, b, c) = was.found some in (a, omega arith, c);
        greatest = λ some. and_last (λ i. lt (magnitude (entry r)) (magnitude (entry i)) ≡ false) k end (was.greatest some) (small some);
        lowest = was.lowest;
      }

  -- the next row leads where it may serve and every row before it is smaller
  takes_over :
      (end : ℕ) → k ≤ end → end ≤ last → may_pivot (entry end) ≡ true
      → ((i : ℕ) → k ≤ i → i < end → lt (magnitude (entry i)) (magnitude (entry end)) ≡ true) → Leads k (suc end) entry end
  takes_over end from high may smaller =
      record {
        without = λ z. absurd (omega arith);
        found = λ some. (from, omega arith, may);
        greatest = λ some. and_last (λ i. lt (magnitude (entry end)) (magnitude (entry i)) ≡ false) k end
            (λ i a b. reverse (entry i) (entry end) (sound i a (omega arith)) (sound end from high) (smaller i a b)) (not_below_self (entry end) (sound end from high));
        lowest = λ some. smaller;
      }

  next_leads : (end r : ℕ) → k ≤ end → end ≤ last → Leads k end entry r → Leads k (suc end) entry (better entry r end)
  unfolding better
  next_leads end r from high was =
      by_test (may_pivot (entry end))
      (λ may.
      by_test (eqb r 0)
      (λ e.
      rw (may, e)
      (takes_over end from high may
      (λ i a b. faint_below (entry i) (entry end) (sound i a (omega arith)) (sound end from high) (was.without (eqb-true r 0 e) i a b) may)))
      (λ e.
      let some : r ≡ 0 → ⊥ = eqb-false r 0 e in
      let one : 1 ≤ r = omega (arith, some) in
      let within : (k ≤ r) × (r < end) × (may_pivot (entry r) ≡ true) = was.found one in
      let leader : finite (entry r) ≡ true = sound r within.0 (omega (arith, within.1)) in
      by_test (lt (magnitude (entry r)) (magnitude (entry end)))
      (λ l.
      rw (may, e, l)
      (takes_over end from high may
      (λ i a b. passed_on (entry r) (entry i) (entry end) leader (sound i a (omega arith)) (sound end from high) l (was.greatest one i a b))))
      (λ l. rw (may, e, l) (stays end r was (λ z. absurd (some z)) (λ o. l)))))
      (λ no.
      rw no
      (stays end r was (λ z. no)
      (λ one.
      let within : (k ≤ r) × (r < end) × (may_pivot (entry r) ≡ true) = was.found one in
      let leader : finite (entry r) ≡ true = sound r within.0 (omega (arith, within.1)) in
      reverse (entry end) (entry r) (sound end from high) leader (faint_below (entry end) (entry r) (sound end from high) leader no within.2))))

  best_leads :
      (count end r : ℕ) → k ≤ end → (1 ≤ count → end + count ≤ suc last) → Leads k end entry r → (stop : ℕ) → end + count ≡ stop
      → Leads k stop entry (best entry r (run end count))
  unfolding best run
  best_leads zero end r from high was stop e = let same : end ≡ stop = omega arith in subst (λ (v : ℕ). Leads k v entry r) same was
  best_leads (suc count) end r from high was stop e =
      best_leads count (suc end) (better entry r end) (omega arith) (λ some. omega (arith, high (omega arith))) (next_leads end r from (omega (arith, high (omega arith))) was) stop (omega arith)

  -- no row leads among none
  none_leads : Leads k k entry 0
  none_leads =
      record {
        without = λ z i a b. absurd (omega arith);
        found = λ some. absurd (omega arith);
        greatest = λ some i a b. absurd (omega arith);
        lowest = λ some i a b. absurd (omega arith);
      }

  largest-from : LargestFrom k last entry (best entry 0 (between k last))
  unfolding between
  largest-from = of (k + (suc last - k)) refl (best entry 0 (run k (suc last - k)))
      (best_leads (suc last - k) k 0 (omega arith) (λ some. omega arith) none_leads (k + (suc last - k)) refl)
    where
      of : (stop : ℕ) → k + (suc last - k) ≡ stop → (r : ℕ) → Leads k stop entry r → LargestFrom k last entry r
      of stop ends r leads =
          record {
            without = (
              λ z i b. leads.without z i b.0 (omega (arith, b.1)),
              λ none. by_test (eqb r 0) (λ e. eqb-true r 0 e)
                  (λ e.
                  let some : r ≡ 0 → ⊥ = eqb-false r 0 e in
                  let within : (k ≤ r) × (r < stop) × (may_pivot (entry r) ≡ true) = leads.found (omega (arith, some)) in
                  absurd (false≢true (sym (none r (within.0, omega (arith, within.0, within.1))) ∙ within.2))),
            );
            found = λ some. let (a, b, c) = leads.found some in (a, omega arith, c);
            greatest = λ some i b. leads.greatest some i b.0 (omega (arith, b.1));
            lowest = λ some i b. leads.lowest some i b.0 b.1;
          }

pub largest_row : LargestRow
unfolding LargestRow pivot_row
largest_row last zero entry low sound = absurd (omega arith)
largest_row last (suc before) entry low sound = largest-from last (suc before) entry low (λ i a b. sound i (a, b))

pub listed_row : ListedRow
unfolding ListedRow pivot_row
listed_row rows last zero entry low = absurd (omega arith)
listed_row rows last (suc before) entry low = rw (less_one before) (λ e. rw e, λ e. rw e)
