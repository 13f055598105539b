-- The facts of the plan: what PlanFacts claims, and the part of it that holds after any number of steps.
use mathlib.Core.Bool.{Bool, true, not, ◌&&◌}
use mathlib.Core.List.{List, [], ◌∷◌}
use mathlib.Core.Logic.{◌↔◌, ⊎_elim}
use mathlib.Core.Path.{◌≡◌, refl, ap, ◌∙◌}
use Prim.Native.Nat.{ℕ, suc, ◌≤◌, ◌<◌}
use native.Mathlib.Omega.{arith}
use lib.Dec.{eqb, leb}
use borrow.Author.Tests.{eqb-true, eqb-false, ne_eqb, not-true, leb-true, le-leb}
use Rattle.lists.specs.Functions.{keep, empty}
use Rattle.lists.specs.Sets.{member, Ascending, join_all, from, least_above}
use Rattle.lists.proofs.Members.{by_test, and_left, and_right, member_head, member_tail, member_cases, kept_in, kept_passes, in_keep, union-nil_left, empty-nil}
use Rattle.lists.proofs.Order.{member-low, ascending_raise, ascending-keep, same_members-by}
use Rattle.lists.proofs.Least.{least-member, least_above_lem}
use Rattle.foundation.specs.Pattern.{Pattern, present}
use Rattle.foundation.specs.Plan.{Side, lower, upper, Planning, list, brings, from_steps, after, plan}
use Rattle.foundation.specs.Subscripts.{kept, only, sole_step}
use Rattle.foundation.specs.Closed.{Closed}
use Rattle.foundation.specs.Facts.{Plannable, PlanFacts}
use Rattle.foundation.proofs.Steps.{from_rows, joined, plan_list}
use Rattle.foundation.proofs.Gathered.{list_row, first_met_at}
use Rattle.foundation.proofs.Listed.{limit, list_ascends, list_within, low_in_up, further_above, handed_on, list_own, list_many}
use Rattle.foundation.proofs.ReadsBound.{reads_within}

-- What PlanFacts claims, as far as it holds after m steps: of every list, and of the steps 1 to m.
pub record FactsAfter (p : Pattern) (m : ℕ) (s : Planning) : Type 0 where
  pub ascending : (side : Side) (k : ℕ) → Ascending k (list s side k)
  pub lower_bounded : (k i : ℕ) → member i (s.L k) ≡ true → i ≤ p.height
  pub upper_bounded : (k j : ℕ) → member j (s.U k) ≡ true → j ≤ p.n
  pub own : (side : Side) (k : ℕ) → 1 ≤ k → k ≤ m → member k (list s side k) ≡ true
  pub lower_in_upper : (k i : ℕ) → member i (s.L k) ≡ true → i ≤ p.n → member i (s.U k) ≡ true
  pub first_met_lem :
      (k i : ℕ) → 1 ≤ k → k ≤ m → (member i (s.first_met k) ≡ true) ↔ ((1 ≤ i) × (i ≤ p.height) × (least_above 0 (p.row i) ≡ k))
  pub joins_one : (l k : ℕ) → 1 ≤ k → member l (s.S k) ≡ true → (1 ≤ l) × (l < k) × (least_above l (s.U l) ≡ k)
  pub sole : (side : Side) (k : ℕ) → 1 ≤ k → k ≤ m → 0 < sole_step s k → (sole_step s k < k) × (kept s side (sole_step s k) ≡ k ∷ kept s side k)

-- ---- sole steps

only_one : (xs : List ℕ) → 0 < only xs → xs ≡ only xs ∷ []
unfolding only
only_one [] h = absurd (omega arith)
only_one (l ∷ []) h = refl
only_one (l ∷ (m ∷ ms)) h = absurd (omega arith)

-- Where a step has a sole step, no row was first met at it and its set S is that one step.
pub sole_parts : (s : Planning) (k : ℕ) → 0 < sole_step s k → (s.first_met k ≡ []) × (s.S k ≡ sole_step s k ∷ [])
unfolding sole_step
sole_parts s k = by_test (empty (s.first_met k))
    (λ e. rw e (λ h. (empty-nil (s.first_met k) e, only_one (s.S k) h)))
    (λ e. rw e (λ h. absurd (omega arith)))

module _ (p : Pattern) (ok : Plannable p) (m : ℕ) (small : m ≤ p.n) where
  module _ (side : Side) (k : ℕ) (low : 1 ≤ k) (high : k ≤ m) (sole : 0 < sole_step (after p m) k) where
    sole_in : member (sole_step (after p m) k) ((after p m).S k) ≡ true
    sole_in = rw (sole_parts (after p m) k sole).1 (member_head (sole_step (after p m) k) [])

    -- The lists of a step with a sole step are that step's lists, from this step on.
    pub sole_list : list (after p m) side k ≡ from k (list (after p m) side (sole_step (after p m) k))
    unfolding from_steps from_rows join_all
    sole_list =
        let (none, one) = sole_parts (after p m) k sole in
        plan_list p m k side low high ∙ rw (none, one) (union-nil_left (from k (list (after p m) side (sole_step (after p m) k))))

    -- The kept lists of a sole step are this step and then this step's kept lists.
    pub sole_kept : kept (after p m) side (sole_step (after p m) k) ≡ k ∷ kept (after p m) side k
    unfolding kept from Ascending list
    sole_kept = same_members-by l k (keep t xs) (k ∷ keep u ys)
        (ascending-keep l t xs (list_ascends p ok m small side l))
        (omega arith, ascending_raise k (suc k) (keep u ys) (ascending-keep k u ys up) (λ x e. omega (arith, member-low x k ys up (kept_in x u ys e), other x k ys e)))
        to back
      where
        l : ℕ
        l = sole_step (after p m) k

        xs : List ℕ
        xs = list (after p m) side l

        ys : List ℕ
        ys = list (after p m) side k

        t : ℕ → Bool
        t = λ x. not (eqb x l)

        u : ℕ → Bool
        u = λ x. not (eqb x k)

        up : Ascending k ys
        up = list_ascends p ok m small side k

        -- what is kept differs from what is omitted
        other : (x y : ℕ) (zs : List ℕ) → member x (keep (λ z. not (eqb z y)) zs) ≡ true → x ≡ y → ⊥
        other x y zs e = eqb-false x y (not-true (eqb x y) (kept_passes x (λ z. not (eqb z y)) zs e))

        step : (l < k) × (least_above l (list (after p m) upper l) ≡ k)
        step = let r = joined p m l k low sole_in in (r.2, r.3)

        earlier : (x : ℕ) → member x ys ≡ true → member x xs ≡ true
        earlier x e = kept_in x (leb k) xs (rw sole_list at e)

        to : (x : ℕ) → member x (keep t xs) ≡ true → member x (k ∷ keep u ys) ≡ true
        to x e =
            let mx : member x xs ≡ true = kept_in x t xs e in
            let above : l < x = omega (arith, member-low x l xs (list_ascends p ok m small side l) mx, other x l xs e) in
            let high : k ≤ x = omega (arith, step.1, further_above p ok m small side l x mx above (omega (arith, step.1))) in
            let my : member x ys ≡ true = rw sole_list (in_keep x (leb k) xs mx (le-leb k x high)) in
            by_test (eqb x k)
            (λ q. rw (eqb-true x k q) (member_head k (keep u ys)))
            (λ q. member_tail x k (keep u ys) (in_keep x u ys my (ap not q)))

        back : (x : ℕ) → member x (k ∷ keep u ys) ≡ true → member x (keep t xs) ≡ true
        back x e = ⊎_elim
            (λ (q : x ≡ k). in_keep x t xs (earlier x (rw q (list_own p ok m small side k low high))) (ap not (ne_eqb x l (omega (arith, step.0)))))
            (λ n.
            let my : member x ys ≡ true = kept_in x u ys n in
            in_keep x t xs (earlier x my) (ap not (ne_eqb x l (omega (arith, step.0, member-low x k ys up my)))))
            (member_cases x k (keep u ys) e)

-- ---- the facts

-- The facts hold after any number of steps.
pub facts_after : (p : Pattern) → Plannable p → (m : ℕ) → m ≤ p.n → FactsAfter p m (after p m)
unfolding list limit
facts_after p ok m small = record {
  ascending = list_ascends p ok m small;
  lower_bounded = list_within p ok m small lower;
  upper_bounded = list_within p ok m small upper;
  own = list_own p ok m small;
  lower_in_upper = low_in_up p ok m small;
  first_met_lem = first_met_at p ok m;
  joins_one = λ l k low e. let r = joined p m l k low e in (r.0, r.2, r.3);
  sole = λ side k low high h. ((joined p m (sole_step (after p m) k) k low (sole_in p ok m small side k low high h)).2, sole_kept p ok m small side k low high h);
}

module _ (p : Pattern) (ok : Plannable p) where
  all_steps : p.n ≤ p.n
  all_steps = omega arith

  -- a row with an entry is first met at its least column, which is a step
  entry-met :
      (i j : ℕ) → present p i j ≡ true
      → (member j (p.row i) ≡ true) × (1 ≤ least_above 0 (p.row i)) × (least_above 0 (p.row i) ≤ p.n)
      × (member i ((after p p.n).first_met (least_above 0 (p.row i))) ≡ true)
  unfolding present
  entry-met i j e =
      let ends = and_left (leb 1 i && leb i p.height) (member j (p.row i)) e in
      let mj : member j (p.row i) ≡ true = and_right (leb 1 i && leb i p.height) (member j (p.row i)) e in
      let a : 1 ≤ i = leb-true 1 i (and_left (leb 1 i) (leb i p.height) ends) in
      let b : i ≤ p.height = leb-true i p.height (and_right (leb 1 i) (leb i p.height) ends) in
      let from_one : 0 < j = member-low j 1 (p.row i) (ok.ascending i a b) mj in
      let low : 1 ≤ least_above 0 (p.row i) = least_above_lem j 0 (p.row i) mj from_one in
      let high : least_above 0 (p.row i) ≤ p.n = ok.bounded i (least_above 0 (p.row i)) a b (least-member j 0 (p.row i) mj from_one) in
      (mj, low, high, (first_met_at p ok p.n (least_above 0 (p.row i)) i low high).1 (a, b, refl))

  -- where L_k and U_k both have further members, both sides are handed on
  handed :
      (side : Side) (k x i j : ℕ) → member i (list (after p p.n) lower k) ≡ true → k < i → member j (list (after p p.n) upper k) ≡ true → k < j
      → member x (list (after p p.n) side k) ≡ true → k < x
      → member x (list (after p p.n) side (least_above k (list (after p p.n) upper k))) ≡ true
  unfolding limit
  handed side k x i j mi ki mj kj mx kx =
      let uk : List ℕ = list (after p p.n) upper k in
      handed_on p ok p.n all_steps side k x (list_many p ok p.n all_steps k i mi ki) (omega (arith, least_above_lem j k uk mj kj))
      (list_within p ok p.n all_steps upper k (least_above k uk) (least-member j k uk mj kj)) kx mx

  -- The plan's lists are closed for the pattern.
  pub plan-closed : Closed p (plan p).L (plan p).U
  unfolding plan list limit brings
  plan-closed = record {
    lower_range = λ k i e. (member-low i k ((after p p.n).L k) (list_ascends p ok p.n all_steps lower k) e, list_within p ok p.n all_steps lower k i e);
    upper_range = λ k j e. (member-low j k ((after p p.n).U k) (list_ascends p ok p.n all_steps upper k) e, list_within p ok p.n all_steps upper k j e);
    row_in_lower = λ i j e. let (mj, low, high, first) = entry-met i j e in list_row p p.n lower _ i i low high first (member_head i []);
    row_in_upper = λ i j e. let (mj, low, high, first) = entry-met i j e in list_row p p.n upper _ i j low high first mj;
    handed_lower = λ k i j mi ki mj kj. handed lower k i i j mi ki mj kj mi ki;
    handed_upper = λ k i j mi ki mj kj. handed upper k j i j mi ki mj kj mj kj;
  }

  -- The plan of a pattern that can be planned is as claimed.
  pub plan_facts : PlanFacts p (plan p)
  unfolding plan
  plan_facts =
      let facts : FactsAfter p p.n (after p p.n) = facts_after p ok p.n all_steps in
      record {
        ascending = facts.ascending;
        lower_bounded = facts.lower_bounded;
        upper_bounded = facts.upper_bounded;
        own = facts.own;
        lower_in_upper = facts.lower_in_upper;
        first_met_lem = facts.first_met_lem;
        joins_one = facts.joins_one;
        sole = facts.sole;
        closed = plan-closed;
        reads_bounded = reads_within p ok;
      }
