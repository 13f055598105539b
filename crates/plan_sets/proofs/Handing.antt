-- To which set S a step is handed on.
use mathlib.Core.Bool.{true, false, not, and-false}
use mathlib.Core.List.{List}
use mathlib.Core.Path.{◌≡◌, refl, ◌∙◌}
use Prim.Native.Nat.{ℕ, suc, ◌+◌, ◌-◌, ◌≤◌, ◌<◌}
use native.Mathlib.Omega.{arith}
use lib.Dec.{eqb, ltb}
use lib.ListN.{length, set, get_or}
use borrow.Author.Tests.{eqb-true, eqb-false, ltb-true, ltb-false, lt-ltb, le-ltb}
use Rattle.lists.specs.Functions.{keep}
use Rattle.lists.specs.Sets.{member, Ascending, first, least_above}
use Rattle.lists.proofs.Members.{by_test}
use Rattle.lists.proofs.Order.{member-low}
use Rattle.lists.proofs.Kept.{keep_cong}
use Rattle.lists.proofs.Least.{least_nonzero_member}
use Rattle.foundation.specs.Pattern.{Lent, pattern_of}
use Rattle.foundation.specs.Plan.{lower, upper, list, hand_on, after, plan}
use Rattle.foundation.specs.Subscripts.{kept}
use Rattle.foundation.proofs.Steps.{joined, turn_S, plan-gathered}
use Rattle.store_lists.specs.Chains.{Chained}
use Rattle.store_lists.proofs.Chaining.{chained_push}
use Rattle.plan_gather.specs.Ready.{plan_of}
use Rattle.plan_gather.specs.Steps.{StepOf}
use Rattle.plan_gather.proofs.Chaining.{kept_size}
use Rattle.plan_gather.proofs.Turning.{step_high}
use Rattle.plan_gather.proofs.Contains.{facts}

-- of an ascending list from k on, the members above k are those that are not k
above_is_other : (k : ℕ) (xs : List ℕ) → Ascending k xs → keep (ltb k) xs ≡ keep (λ x. not (eqb x k)) xs
above_is_other k xs up = keep_cong (ltb k) (λ x. not (eqb x k)) xs λ x m.
    let low : k ≤ x = member-low x k xs up m in
    by_test (eqb x k)
    (λ e. let q = eqb-true x k e in rw e (le-ltb k x (omega arith)))
    (λ e. let d = eqb-false x k e in rw e (lt-ltb k x (omega arith)))

-- a step hands its sets S on by the plan's lists
sets-after :
    (p : Lent) (j : ℕ) → j < p.n
    → (after (pattern_of p) (suc j)).S ≡ hand_on (suc j) (list (plan_of p) lower (suc j)) (list (plan_of p) upper (suc j)) (after (pattern_of p) j).S
unfolding plan_of plan pattern_of after
sets-after p j h =
    turn_S (pattern_of p) (suc j) (after (pattern_of p) j)
    ∙ rw (plan-gathered (pattern_of p) p.n j lower h, plan-gathered (pattern_of p) p.n j upper h) refl

module _ {p : Lent} {n k : ℕ} (step : StepOf p n k) where
  -- so does step k
  sets_next : (after (pattern_of p) k).S ≡ hand_on k (list (plan_of p) lower k) (list (plan_of p) upper k) (after (pattern_of p) (k - 1)).S
  sets_next =
      let low = step.low in
      let h = step_high step in
      let e : suc (k - 1) ≡ k = omega arith in
      rw e at (sets-after p (k - 1) (omega arith))

  -- L_k has one member more than are kept
  further : length (kept (plan_of p) lower k) + 1 ≡ length (list (plan_of p) lower k)
  further = kept_size p step.ready lower k step.low (step_high step)

  -- where it has no further member the sets S stay
  pub hands_none : {heads links : List ℕ} → ltb 0 (length (kept (plan_of p) lower k)) ≡ false
      → Chained heads links p.height n (after (pattern_of p) (k - 1)).S → Chained heads links p.height n (after (pattern_of p) k).S
  unfolding hand_on
  hands_none none h =
      let e = further in
      rw (sets_next, le-ltb 1 (length (list (plan_of p) lower k)) (omega (arith, ltb-false 0 (length (kept (plan_of p) lower k)) none))) h

  -- the kept list of U_k has the members above k
  others : keep (ltb k) (list (plan_of p) upper k) ≡ kept (plan_of p) upper k
  unfolding kept
  others = above_is_other k (list (plan_of p) upper k) ((facts p step.ready).ascending upper k)

  -- so its first is the least of them, or 0
  module _ {r : ℕ} (first_is : r ≡ first (kept (plan_of p) upper k)) where
    r_is : r ≡ least_above k (list (plan_of p) upper k)
    unfolding least_above
    r_is = first_is ∙ rw (← others) refl

    -- where it has none the sets S stay too
    pub hands_nowhere : {heads links : List ℕ} → r ≡ 0
        → Chained heads links p.height n (after (pattern_of p) (k - 1)).S → Chained heads links p.height n (after (pattern_of p) k).S
    unfolding hand_on
    hands_nowhere none h = rw (sets_next, ← r_is, none, and-false (ltb 1 (length (list (plan_of p) lower k)))) h

    -- where both have one k joins the set of that first
    module _ (some : ltb 0 (length (kept (plan_of p) lower k)) ≡ true) (other : r ≡ 0 → ⊥) {heads links : List ℕ}
        (chains : Chained heads links p.height n (after (pattern_of p) (k - 1)).S) where
      in_upper : member r (list (plan_of p) upper k) ≡ true
      in_upper = rw r_is (least_nonzero_member k (list (plan_of p) upper k) (λ e. other (r_is ∙ e)))

      r_high : r ≤ n
      unfolding list pattern_of
      r_high = rw (← step.same_n) ((facts p step.ready).upper_bounded k r in_upper)

      pub in_heads : (r < length heads) × (k < length links)
      in_heads = let h = step.high in let w = chains.within in (omega (arith, r_high, chains.heads_size), omega (arith, chains.links_size))

      pub hands_some : Chained (set heads r k) (set links k (get_or heads r 0)) p.height n (after (pattern_of p) k).S
      unfolding hand_on
      hands_some =
          let e = further in
          let far : 0 < r = omega (arith, other) in
          rw (sets_next, lt-ltb 1 (length (list (plan_of p) lower k)) (omega (arith, ltb-true 0 (length (kept (plan_of p) lower k)) some)), ← r_is, lt-ltb 0 r far)
          (chained_push heads links p.height n (after (pattern_of p) (k - 1)).S r k far r_high step.low (omega (arith, step.high, chains.within))
          (λ j l u m. let d = joined (pattern_of p) (k - 1) k j l m in omega (arith, d.1, step.low))
          chains)
