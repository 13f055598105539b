-- The reads of a plan: "The reads never exceed 2 × entries plus the sizes of all L_k and U_k".
use mathlib.Core.Bool.{true, not}
use mathlib.Core.Path.{◌≡◌, sym, ◌∙◌}
use Prim.Native.Nat.{ℕ, zero, suc, ◌+◌, ◌*◌, ◌≤◌}
use native.Mathlib.Decide.{dec_le}
use native.Mathlib.Omega.{arith}
use lib.ListN.{length}
use Rattle.lists.specs.Functions.{total}
use Rattle.lists.specs.Sets.{member, Ascending, least_above, upto}
use Rattle.lists.proofs.Members.{in_upto, upto-low, upto-high}
use Rattle.lists.proofs.Order.{ascending-keep, ascending-upto, ascending-length}
use Rattle.lists.proofs.Places.{length-upto}
use Rattle.lists.proofs.Once.{ascending-once, falling-once}
use Rattle.lists.proofs.Counting.{total-sum, total-le, total_constant, total-apart, total-once, count_both_ways}
use Rattle.foundation.specs.Pattern.{Pattern, column}
use Rattle.foundation.specs.Plan.{Side, lower, upper, Planning, list, unmet_rows, after}
use Rattle.foundation.specs.Facts.{Plannable, entries_of, sizes_of}
use Rattle.foundation.proofs.Steps.{reads_of, joined, S-falls, plan_first, reads_after, turn_reads}
use Rattle.foundation.proofs.Gathered.{first_met_at}
use Rattle.foundation.proofs.Listed.{limit, list_ascends, list_within}

-- The reads grow from step to step.
pub reads_grow : (p : Pattern) (t m : ℕ) → t ≤ m → (after p t).reads ≤ (after p m).reads
unfolding after
reads_grow p t zero h = let q : t ≡ 0 = omega arith in rw q (omega arith)
reads_grow p t (suc m) h =
    elim (dec_le t m) [
      | yes l ↦ omega (arith, reads_grow p t m l, turn_reads p (suc m) (after p m))
      | no n ↦ let q : t ≡ suc m = omega arith in rw q (omega arith)
    ]

-- The rows first met at a step ascend.
pub first_ascends : (p : Pattern) (m k : ℕ) → 1 ≤ k → k ≤ m → Ascending 1 ((after p m).first_met k)
unfolding unmet_rows column
first_ascends p m zero low high = absurd (omega arith)
first_ascends p m (suc k) low high =
    rw (plan_first p m k high)
    (ascending-keep 1 (λ i. not ((after p k).met i)) (column p (suc k))
    (ascending-keep 1 (λ i. member (suc k) (p.row i)) (upto p.height) (ascending-upto p.height)))

module _ (p : Pattern) (ok : Plannable p) where
  -- The columns C_k are read once: as many reads as entries.
  columns-read : total (λ k. length (column p k)) (upto p.n) ≡ entries_of p
  unfolding column entries_of
  columns-read =
      count_both_ways p.n p.row (upto p.height)
      (λ i e. ok.ascending i (upto-low i p.height e) (upto-high i p.height e))
      (λ i x e. ok.bounded i x (upto-low i p.height e) (upto-high i p.height e))

  -- Each row is first met once at most.
  rows-read : total (λ k. total (λ i. length (p.row i)) ((after p p.n).first_met k)) (upto p.n) ≤ entries_of p
  unfolding entries_of
  rows-read =
      let n : ℕ = p.n in
      let met : (k i : ℕ) → member k (upto n) ≡ true → member i ((after p n).first_met k) ≡ true → (1 ≤ i) × (i ≤ p.height) × (least_above 0 (p.row i) ≡ k) =
      λ k i e. (first_met_at p ok n k i (upto-low k n e) (upto-high k n e)).0 in
      total-apart (λ i. length (p.row i)) (after p n).first_met (upto n) (upto p.height) (ascending-once 1 (upto n) (ascending-upto n))
      (λ k e. ascending-once 1 ((after p n).first_met k) (first_ascends p n k (upto-low k n e) (upto-high k n e)))
      (λ j k i ej ek mj mk. sym (met j i ej mj).2 ∙ (met k i ek mk).2)
      (λ k i e mi. in_upto i p.height (met k i e mi).0 (met k i e mi).1)

  -- Each step is in one set S at most.
  steps-read :
      total (λ k. total (λ l. length ((after p p.n).L l) + length ((after p p.n).U l)) ((after p p.n).S k)) (upto p.n) ≤ sizes_of p (after p p.n)
  unfolding sizes_of
  steps-read =
      let n : ℕ = p.n in
      let s : Planning = after p n in
      total-once n (λ l. length (s.L l) + length (s.U l)) s.S
      (λ k e. falling-once (suc n) (s.S k) (S-falls p n k))
      (λ j k l ej ek mj mk. sym (joined p n l j (upto-low j n ej) mj).3 ∙ (joined p n l k (upto-low k n ek) mk).3)
      (λ k l e ml. let r = joined p n l k (upto-low k n e) ml in (r.0, r.1))

  -- The reads of a plan are no more than twice the entries and the sizes of all lists.
  pub reads_within : (after p p.n).reads ≤ 2 * entries_of p + sizes_of p (after p p.n)
  unfolding reads_of
  reads_within =
      let n : ℕ = p.n in
      let s : Planning = after p n in
      let a : ℕ → ℕ = λ k. length (column p k) in
      let b : ℕ → ℕ = λ k. total (λ i. length (p.row i)) (s.first_met k) in
      let c : ℕ → ℕ = λ k. total (λ l. length (s.L l) + length (s.U l)) (s.S k) in
      omega (arith, reads_after p n n (omega arith), total-sum a (λ k. b k + c k) (upto n), total-sum b c (upto n), columns-read, rows-read, steps-read)

  columns_fit : (side : Side) → p.n ≤ limit p side
  unfolding limit
  columns_fit lower = ok.tall
  columns_fit upper = omega arith

  -- A step's L has no more members than there are rows, its U no more than there are columns.
  pub list_size_lem : (m : ℕ) → m ≤ p.n → (side : Side) (k : ℕ) → 1 ≤ k → k ≤ m → length (list (after p m) side k) ≤ limit p side
  list_size_lem m small side k low high =
      let tall = columns_fit side in
      omega (
        arith,
        ascending-length k (suc (limit p side)) (list (after p m) side k) (omega arith) (list_ascends p ok m small side k)
            (λ x e. omega (arith, list_within p ok m small side k x e)),
      )

  -- The sizes of all lists are no more than n times the rows and columns.
  pub sizes_within : sizes_of p (after p p.n) ≤ p.n * (p.height + p.n)
  unfolding sizes_of limit list
  sizes_within =
      let n : ℕ = p.n in
      let s : Planning = after p n in
      omega (
        arith,
        total-le (λ k. length (s.L k) + length (s.U k)) (λ k. p.height + n) (upto n)
            (λ k e.
            let low = upto-low k n e in
            let high = upto-high k n e in
            omega (arith, list_size_lem n (omega arith) lower k low high, list_size_lem n (omega arith) upper k low high)),
        rw length-upto at (total_constant (p.height + n) (upto n)),
      )
