-- The answer about a lent plan: the judgement, the stores' lengths, then the steps and the counts.
use mathlib.Core.Bool.{Bool, true, false}
use mathlib.Core.List.{List}
use mathlib.Core.Path.{◌≡◌, refl, sym, ap, subst, ◌∙◌}
use Prim.Native.Nat.{ℕ, suc, ◌<◌}
use native.Mathlib.Omega.{arith}
use lib.ListN.{length, get_or}
use borrow.Author.Tests.{ne_eqb}
use Rattle.lists.proofs.Members.{and_left, and_right, and_both, fails}
use Rattle.foundation.specs.Answer.{refused, granted, refuse_if, and_then}
use Rattle.foundation.specs.Pattern.{Lent, lent, pattern_of, pattern_fault, judged}
use Rattle.foundation.specs.Plan.{Planning, lower, upper, after}
use Rattle.foundation.specs.Slots.{slots_of}
use Rattle.foundation.specs.PlanCall.{Counts, LentPlan, WorkSizes, subscripts, counts_of, sizes_fit, same_counts, same_side, agrees, held_if, held}
use Rattle.answers.specs.Answers.{counted, counts_in, refusal_of, verify_answer_of, verify_answer}
use Rattle.answers.specs.Stores.{lent_plan, plan_stores, work_sizes, work_stores}
use Rattle.answers.specs.declared.PlanCounts.{PlanCounts}
use Rattle.answers.specs.declared.Refusal.{Refusal}
use Rattle.answers.specs.declared.Refusal.TheVariants.{Limits, Height, Starts, Column, Order, Diagonal, Stores, LowerRoom, UpperRoom, OtherPlan}
use Rattle.answers.specs.declared.VerifyAnswer.TheVariants.{Agrees, Refused}
use Rattle.store_clear.specs.Clearing.{Zeros}
use Rattle.store_lists.specs.Chains.{Chained}
use Rattle.plan_gather.specs.Ready.{lent_by, Ready, plan_of}
use Rattle.plan_gather.specs.Contains.{used}
use Rattle.plan_gather.specs.Steps.{unmet_at, ChainsAt, EndsAre, chain_stores}
use Rattle.plan_pattern.specs.Sizes.{lengths_fit}
use Rattle.plan_gather.proofs.Progress.{counted_all, chains-begin}
use Rattle.plan_pattern.proofs.Sizing.{fit_lengths, sizes_fit_lem}
use Rattle.plan_gather.proofs.Passing.{ready, fault-starts, fault-rows, fault-height, fault-ready}
use Rattle.verify_loop.specs.Progress.{BothContain}
use Rattle.verify_loop.proofs.Progress.{contains_same, same_contains, LentSizes}

-- ---- the answer

-- a refusal reads the same, whatever was asked for
refusal_any : (r : Refusal) → refusal_of {A = Unit {0}} r ≡ and_then (refusal_of {A = Counts} r) (λ c. granted tt)
unfolding refusal_of and_then
refusal_any Limits = refl
refusal_any Height = refl
refusal_any Starts = refl
refusal_any Column = refl
refusal_any Order = refl
refusal_any Diagonal = refl
refusal_any Stores = refl
refusal_any (LowerRoom k) = refl
refusal_any (UpperRoom k) = refl
refusal_any OtherPlan = refl

module _ (most : ℕ) (p : Lent) (q : LentPlan) (work : WorkSizes) where
  held_fault : (pattern_fault most p ≡ 0 → ⊥) → held most p q work ≡ refused (pattern_fault most p) 0
  unfolding held held_if judged and_then
  held_fault h = rw (ne_eqb (pattern_fault most p) 0 h)

  held_sizes : pattern_fault most p ≡ 0 → sizes_fit p q.stores work ≡ false → held most p q work ≡ refused 6 0
  unfolding held held_if judged and_then refuse_if
  held_sizes e f = rw (e, f)

  held_other : pattern_fault most p ≡ 0 → sizes_fit p q.stores work ≡ true → agrees p (plan_of p) q ≡ false → held most p q work ≡ refused 9 0
  unfolding held held_if judged and_then refuse_if plan_of
  held_other e f g = rw (e, f, g)

  held_granted : pattern_fault most p ≡ 0 → sizes_fit p q.stores work ≡ true → agrees p (plan_of p) q ≡ true → held most p q work ≡ granted (plan_of p)
  unfolding held held_if judged and_then refuse_if plan_of
  held_granted e f g = rw (e, f, g)

module _ (p : Lent) (l_subs l_starts l_slots u_subs u_starts u_slots : List ℕ) (counts : Counts) where
  abbrev lent_as : LentPlan
  lent_as = record {
    counts = counts;
    stores = record {
      lower_side = record { subs = l_subs; starts = l_starts; slot_starts = l_slots };
      upper_side = record { subs = u_subs; starts = u_starts; slot_starts = u_slots };
    };
  }

  -- a plan that agrees has every count, and its stores contain the plan
  pub agrees_contains :
      length l_starts ≡ p.n → length l_slots ≡ suc p.n → length u_starts ≡ p.n → length u_slots ≡ suc p.n → agrees p (plan_of p) lent_as ≡ true
      → (same_counts counts (counts_of p (plan_of p)) ≡ true) × BothContain p p.n p.n (plan_stores l_subs l_starts l_slots u_subs u_starts u_slots)
  unfolding agrees
  agrees_contains a b c d e =
      let s : Planning = plan_of p in
      let first = and_left (same_counts counts (counts_of p s)) _ e in
      let rest = and_right (same_counts counts (counts_of p s)) _ e in
      let l = and_left (same_side s lower p.n lent_as.stores.lower_side) _ rest in
      let u = and_right (same_side s lower p.n lent_as.stores.lower_side) _ rest in (
        first,
        record {
          lowers = same_contains s lower p.n _ a b l;
          uppers = same_contains s upper p.n _ c d u;
        },
      )

  pub contains_agrees :
      same_counts counts (counts_of p (plan_of p)) ≡ true → BothContain p p.n p.n (plan_stores l_subs l_starts l_slots u_subs u_starts u_slots) → agrees p (plan_of p) lent_as ≡ true
  unfolding agrees
  contains_agrees e both =
      and_both (same_counts counts (counts_of p (plan_of p))) _ e
      (and_both (same_side (plan_of p) lower p.n lent_as.stores.lower_side) _
      (contains_same (plan_of p) lower p.n _ both.lowers)
      (contains_same (plan_of p) upper p.n _ both.uppers))

  -- the counts of a plan that the stores contain
  pub planned-counts :
      Ready p → (l u reads : ℕ) → EndsAre p p.n l u reads → BothContain p p.n p.n (plan_stores l_subs l_starts l_slots u_subs u_starts u_slots)
      → counted p.n p.height (length p.columns) l u (get_or l_slots p.n 0) (get_or u_slots p.n 0) reads ≡ counts_of p (plan_of p)
  unfolding counts_of subscripts used
  planned-counts ready l u reads ends both =
      let s : Planning = plan_of p in
      let a : get_or l_slots p.n 0 ≡ slots_of s lower p.n = both.lowers.slots_at p.n (omega arith) in
      let b : get_or u_slots p.n 0 ≡ slots_of s upper p.n = both.uppers.slots_at p.n (omega arith) in
      let r : reads ≡ s.reads = ends.read ∙ counted_all p ready in
      rw (a, b, ends.lower_end, ends.upper_end, r)

module _ (most n height : ℕ) (starts columns : List ℕ) (counts : PlanCounts) (l_subs l_starts l_slots u_subs u_starts u_slots row_heads row_links set_heads set_links list spare : List ℕ) where
  abbrev pattern : Lent
  pattern = lent n height starts columns

  abbrev lent_one : LentPlan
  lent_one = lent_plan counts (plan_stores l_subs l_starts l_slots u_subs u_starts u_slots)

  abbrev sizes : WorkSizes
  sizes = work_sizes (work_stores row_heads row_links set_heads set_links list spare)

  abbrev fit : Bool
  fit =
      lengths_fit n height (length l_starts) (length l_slots) (length u_starts) (length u_slots) (length row_heads) (length row_links) (length set_heads) (length set_links)
      (length list) (length spare)

  -- refusals 1 to 5
  pub verify_fault :
      (fault : ℕ) (r : Refusal) → fault ≡ pattern_fault most pattern → (fault ≡ 0 → ⊥) → refusal_of {A = Counts} r ≡ refused fault 0
      → verify_answer_of (Refused r) ≡ verify_answer (held most pattern lent_one sizes)
  unfolding verify_answer_of verify_answer and_then
  verify_fault fault r e h f =
      let g : held most pattern lent_one sizes ≡ refused fault 0 = rw e (held_fault most pattern lent_one sizes (λ z. h (e ∙ z))) in
      refusal_any r ∙ rw (f, g)

  module _ (fault : ℕ) (told : fault ≡ pattern_fault most pattern) (passed : fault ≡ 0) where
    passes : pattern_fault most pattern ≡ 0
    passes = sym told ∙ passed

    verify_ready : Ready pattern
    verify_ready = ready most pattern passes

    -- the functions inside are told of the rows by their starts
    same_pattern : pattern ≡ lent_by n starts columns
    same_pattern = fault-height most n height starts columns fault told passed

    ready-inside : Ready (lent_by n starts columns)
    ready-inside = fault-ready most n height starts columns fault told passed

    -- refusal 6
    pub verify_sizes : (fits : Bool) → fits ≡ fit → fits ≡ false → verify_answer_of (Refused Stores) ≡ verify_answer (held most pattern lent_one sizes)
    unfolding verify_answer_of verify_answer and_then refusal_of
    verify_sizes fits e f =
        rw (held_sizes most pattern lent_one sizes passes
        (sizes_fit_lem n height starts columns l_subs l_starts l_slots u_subs u_starts u_slots row_heads row_links set_heads set_links list spare ∙ sym e ∙ f))

    module _ (fits : Bool) (tested : fits ≡ fit) (fitted : fits ≡ true) where
      all_fit : sizes_fit pattern lent_one.stores sizes ≡ true
      all_fit = sizes_fit_lem n height starts columns l_subs l_starts l_slots u_subs u_starts u_slots row_heads row_links set_heads set_links list spare ∙ sym tested ∙ fitted

      -- what chaining the rows takes for granted
      pub verify_rows_ask : Ready (lent_by n starts columns) × ((length row_heads ≡ length starts) × (length row_links ≡ length starts))
      verify_rows_ask =
          let f = fit_lengths n height _ _ _ _ _ _ _ _ _ _ (sym tested ∙ fitted) in
          let long = fault-starts most n height starts columns fault told passed in
          (ready-inside, (f.row_heads_lem ∙ sym long, f.row_links_lem ∙ sym long))

      -- what the steps take for granted
      pub verify_steps_ask :
          {row_heads' row_links' set_heads' set_links' : List ℕ} → Chained row_heads' row_links' (lent_by n starts columns).height n (unmet_at (lent_by n starts columns) (after (pattern_of (lent_by n starts columns)) 0))
          → Zeros set_heads set_heads' × Zeros set_links set_links'
          → (Ready (lent_by n starts columns) × ChainsAt (lent_by n starts columns) n 0 (chain_stores row_heads' row_links' set_heads' set_links')) × LentSizes n (lent_by n starts columns).height l_starts l_slots u_starts u_slots list spare
      verify_steps_ask rows sets =
          let f = fit_lengths n height _ _ _ _ _ _ _ _ _ _ (sym tested ∙ fitted) in
          let by-starts = fault-rows most n height starts columns fault told passed in (
            (ready-inside, chains-begin set_heads set_links rows (f.set_heads_lem ∙ ap suc by-starts) (f.set_links_lem ∙ ap suc by-starts) sets),
            (f.l_starts_lem, f.l_slots_lem, f.u_starts_lem, f.u_slots_lem, f.list_is ∙ by-starts, f.spare_is ∙ by-starts),
          )

      -- place n of the starts of the slots can be read
      pub verify_places : (n < length l_slots) × (n < length u_slots)
      verify_places =
          let f = fit_lengths n height _ _ _ _ _ _ _ _ _ _ (sym tested ∙ fitted) in
          (omega (arith, f.l_slots_lem), omega (arith, f.u_slots_lem))

      -- refusal 9, where a plan that agrees is none
      other : (agrees pattern (plan_of pattern) lent_one ≡ true → ⊥) → verify_answer_of (Refused OtherPlan) ≡ verify_answer (held most pattern lent_one sizes)
      unfolding verify_answer_of verify_answer and_then refusal_of
      other h = rw (held_other most pattern lent_one sizes passes all_fit (fails _ h))

      -- what agreeing tells
      agreed :
          agrees pattern (plan_of pattern) lent_one ≡ true
          → (same_counts (counts_in counts) (counts_of pattern (plan_of pattern)) ≡ true) × BothContain pattern n n (plan_stores l_subs l_starts l_slots u_subs u_starts u_slots)
      unfolding lent
      agreed e =
          let f = fit_lengths n height _ _ _ _ _ _ _ _ _ _ (sym tested ∙ fitted) in
          agrees_contains pattern l_subs l_starts l_slots u_subs u_starts u_slots (counts_in counts) f.l_starts_lem f.l_slots_lem f.u_starts_lem f.u_slots_lem e

      -- for a store that differs
      pub verify_differs :
          (BothContain (lent_by n starts columns) n n (plan_stores l_subs l_starts l_slots u_subs u_starts u_slots) → ⊥)
          → verify_answer_of (Refused OtherPlan) ≡ verify_answer (held most pattern lent_one sizes)
      verify_differs h = other (λ e. h (rw same_pattern at (agreed e).1))

      module _ (made : PlanCounts) (l u reads : ℕ)
          (ended' : EndsAre (lent_by n starts columns) n l u reads × BothContain (lent_by n starts columns) n n (plan_stores l_subs l_starts l_slots u_subs u_starts u_slots))
          (counted : counts_in made ≡ counted n height (length columns) l u (get_or l_slots n 0) (get_or u_slots n 0) reads) (matches : Bool)
          (compared : matches ≡ same_counts (counts_in counts) (counts_in made)) where
        ended : EndsAre pattern n l u reads × BothContain pattern n n (plan_stores l_subs l_starts l_slots u_subs u_starts u_slots)
        ended =
            subst (λ (p : Lent). EndsAre p n l u reads × BothContain p n n (plan_stores l_subs l_starts l_slots u_subs u_starts u_slots)) (sym same_pattern) ended'

        -- the test is on the plan's counts
        all_counts : matches ≡ same_counts (counts_in counts) (counts_of pattern (plan_of pattern))
        unfolding lent
        all_counts =
            compared ∙ ap (same_counts (counts_in counts))
            (counted ∙ planned-counts pattern l_subs l_starts l_slots u_subs u_starts u_slots (counts_in counts) verify_ready l u reads ended.0 ended.1)

        -- for a count that differs
        pub verify_miscounts : matches ≡ false → verify_answer_of (Refused OtherPlan) ≡ verify_answer (held most pattern lent_one sizes)
        verify_miscounts e =
            other (λ x.
            let y : matches ≡ true = all_counts ∙ (agreed x).0 in
            let z : ◌≡◌ {A = ℕ} 0 1 = cc in
            omega arith)

        -- the lent plan is this pattern's
        pub verify_agrees : matches ≡ true → verify_answer_of Agrees ≡ verify_answer (held most pattern lent_one sizes)
        unfolding verify_answer_of verify_answer and_then lent
        verify_agrees e =
            rw (held_granted most pattern lent_one sizes passes all_fit
            (contains_agrees pattern l_subs l_starts l_slots u_subs u_starts u_slots (counts_in counts) (sym all_counts ∙ e) ended.1))
