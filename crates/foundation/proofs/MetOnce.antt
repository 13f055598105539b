-- Each row with an entry is met exactly once, an empty one never.
use mathlib.Core.Bool.{true, false, cond}
use mathlib.Core.List.{List, [], ◌∷◌}
use mathlib.Core.Path.{◌≡◌, refl, sym, ◌∙◌}
use Prim.Native.Nat.{ℕ, ◌≤◌}
use native.Mathlib.Omega.{arith}
use lib.Dec.{eqb}
use lib.ListN.{length}
use Rattle.lists.specs.Functions.{keep, empty, chain}
use Rattle.lists.specs.Sets.{member, first, least_above, upto}
use Rattle.lists.proofs.Members.{fails, member_head, in_upto, upto-low, upto-high}
use Rattle.lists.proofs.Least.{least_above_lem, least-member}
use Rattle.lists.proofs.Order.{member-low, ascending-upto}
use Rattle.lists.proofs.Once.{Once, ascending-once, once-chain, chain_part, chain_cases, count_none, once_count}
use Rattle.foundation.specs.Claims.{MetOnce}
use Rattle.foundation.specs.Facts.{Plannable, PlanFacts}
use Rattle.foundation.specs.Pattern.{Lent, Pattern, row_of, pattern_of, pattern_fault}
use Rattle.foundation.specs.Plan.{plan}
use Rattle.foundation.proofs.ReadsBound.{first_ascends}

module _ (p : Pattern) (ok : Plannable p) (facts : PlanFacts p (plan p)) where
  -- no row stands twice in the lists of rows first met
  pub met-apart : Once (chain (plan p).first_met (upto p.n))
  unfolding plan
  met-apart =
      once-chain (plan p).first_met (upto p.n) (ascending-once 1 (upto p.n) (ascending-upto p.n))
      (λ k e. ascending-once 1 ((plan p).first_met k) (first_ascends p p.n k (upto-low k p.n e) (upto-high k p.n e)))
      (λ j k x mj mk ej ek.
      let (a, b, at_j) = (facts.first_met_lem j x (upto-low j p.n mj) (upto-high j p.n mj)).0 ej in
      let (c, d, at-k) = (facts.first_met_lem k x (upto-low k p.n mk) (upto-high k p.n mk)).0 ek in
      sym at_j ∙ at-k)

  -- every row with an entry stands in them, at its least column
  pub met_some : (i j : ℕ) → 1 ≤ i → i ≤ p.height → member j (p.row i) ≡ true → member i (chain (plan p).first_met (upto p.n)) ≡ true
  met_some i j low tall own =
      let j_low : 1 ≤ j = member-low j 1 (p.row i) (ok.ascending i low tall) own in
      let k_low : 1 ≤ least_above 0 (p.row i) = least_above_lem j 0 (p.row i) own (omega arith) in
      let k_high : least_above 0 (p.row i) ≤ p.n = ok.bounded i (least_above 0 (p.row i)) low tall (least-member j 0 (p.row i) own (omega arith)) in
      chain_part i (least_above 0 (p.row i)) (plan p).first_met (upto p.n) (in_upto (least_above 0 (p.row i)) p.n k_low k_high)
      ((facts.first_met_lem (least_above 0 (p.row i)) i k_low k_high).1 (low, tall, refl))

  -- an empty row stands in none
  pub met_none : (i : ℕ) → p.row i ≡ [] → member i (chain (plan p).first_met (upto p.n)) ≡ false
  unfolding least_above first keep
  met_none i e = fails (member i (chain (plan p).first_met (upto p.n))) (λ m.
      let (k, mk, mi) = chain_cases i (plan p).first_met (upto p.n) m in
      let k_low : 1 ≤ k = upto-low k p.n mk in
      let (a, b, at) = (facts.first_met_lem k i k_low (upto-high k p.n mk)).0 mi in
      let none : least_above 0 (p.row i) ≡ 0 = rw e in
      omega arith)

-- Each row is met once, if what passes can be planned and the plan of such a pattern is as PlanFacts says.
pub met-once-from :
    ((p : Pattern) → Plannable p → PlanFacts p (plan p)) → ((most : ℕ) (p : Lent) → pattern_fault most p ≡ 0 → Plannable (pattern_of p)) → MetOnce
unfolding MetOnce pattern_of empty
met-once-from facts passes most p ok i (low, high) =
    let able : Plannable (pattern_of p) = passes most p ok in
    at able (row_of p i) refl
  where
    at : Plannable (pattern_of p) → (row : List ℕ) → row_of p i ≡ row → length (keep (eqb i) (chain (plan (pattern_of p)).first_met (upto p.n))) ≡ cond (empty row) 0 1
    at able [] e = count_none i (chain (plan (pattern_of p)).first_met (upto p.n)) (met_none (pattern_of p) able (facts (pattern_of p) able) i e)
    at able (j ∷ js) e =
        once_count i (chain (plan (pattern_of p)).first_met (upto p.n))
        (met-apart (pattern_of p) able (facts (pattern_of p) able))
        (met_some (pattern_of p) able (facts (pattern_of p) able) i j low high (rw e (member_head j js)))
