-- What a planning call answers and leaves: the judgement, the stores' lengths, the room, then the plan.
use mathlib.Core.Bool.{Bool, true, false}
use mathlib.Core.List.{List}
use mathlib.Core.Path.{◌≡◌, refl, sym, ap, subst, ◌∙◌}
use Prim.Native.Nat.{ℕ, suc, ◌<◌}
use native.Mathlib.Omega.{arith}
use lib.Dec.{eqb}
use lib.ListN.{length, get_or, replicate, length-replicate}
use borrow.Author.Tests.{eqb-true, eqb-false, ne_eqb}
use Rattle.lists.proofs.Members.{by_test}
use Rattle.foundation.specs.Answer.{refused, granted, refuse_if, and_then}
use Rattle.foundation.specs.Pattern.{Lent, lent, pattern_of, pattern_fault, judged}
use Rattle.foundation.specs.Plan.{Planning, Side, lower, upper, after}
use Rattle.foundation.specs.Subscripts.{shared, room_fault}
use Rattle.foundation.specs.Slots.{slots_of}
use Rattle.foundation.specs.PlanCall.{Counts, PlanStores, WorkSizes, subscripts, counts_of, sizes_fit, planned, plan_answer}
use Rattle.foundation.proofs.Room.{Passes, too_short, not_short, room_stops_lower, room_stops_upper, fits-granted, room_same}
use Rattle.answers.specs.Answers.{counted, counts_in, refusal_of, answer_of}
use Rattle.answers.specs.Stores.{plan_stores, work_sizes, work_stores, side_stores}
use Rattle.answers.specs.declared.PlanCounts.{PlanCounts}
use Rattle.answers.specs.declared.Refusal.{Refusal}
use Rattle.answers.specs.declared.Refusal.TheVariants.{Stores, LowerRoom, UpperRoom}
use Rattle.answers.specs.declared.PlanAnswer.{PlanAnswer}
use Rattle.answers.specs.declared.PlanAnswer.TheVariants.{Planned, Refused}
use Rattle.answers.specs.declared.SubscriptPlace.{SubscriptPlace}
use Rattle.store_lists.specs.Chains.{Chained}
use Rattle.store_clear.specs.Clearing.{Zeros}
use Rattle.store_lists.specs.Clearing.{SideZeros}
use Rattle.plan_gather.specs.Ready.{lent_by, Ready, plan_of}
use Rattle.plan_gather.specs.Contains.{used}
use Rattle.plan_gather.specs.Steps.{counted_reads, unmet_at, ChainsAt, EndsAre, chain_stores}
use Rattle.plan_pattern.specs.Sizes.{lengths_fit}
use Rattle.plan_gather.proofs.Progress.{counted_all, chains-begin}
use Rattle.plan_gather.proofs.Passing.{ready, fault-starts, fault-rows, fault-height, fault-ready}
use Rattle.plan_pattern.proofs.Sizing.{Lengths, fit_lengths, unfit, sizes_fit_lem}
use Rattle.plan_lay.specs.Filled.{Filled, BothFilled}
use Rattle.plan_lay.proofs.Filled.{filled_none, filled_contains}
use Rattle.plan_loop.specs.Progress.{FitTo, EndedAs}
use Rattle.plan_call.specs.Outcome.{PlannedAs, ended_answer}
use Rattle.plan_loop.specs.declared.steps.Ended.{Ended}
use Rattle.plan_loop.specs.declared.steps.Ended.TheVariants.{All, LowerAt, UpperAt}

module _ (most : ℕ) (p : Lent) (stores : PlanStores) (work : WorkSizes) where
  -- a pattern with a fault is refused by its number
  pub planned-fault : (pattern_fault most p ≡ 0 → ⊥) → planned most p stores work ≡ refused (pattern_fault most p) 0
  unfolding planned judged and_then
  planned-fault h = rw (ne_eqb (pattern_fault most p) 0 h)

  -- stores of other lengths are refused by 6
  pub planned_sizes : pattern_fault most p ≡ 0 → sizes_fit p stores work ≡ false → planned most p stores work ≡ refused 6 0
  unfolding planned judged and_then refuse_if
  planned_sizes e f = rw (e, f)

  -- else the room decides
  pub planned-room :
      pattern_fault most p ≡ 0 → sizes_fit p stores work ≡ true
      → planned most p stores work ≡ room_fault (plan_of p) (length stores.lower_side.subs) (length stores.upper_side.subs) 1 p.n
  unfolding planned judged and_then refuse_if plan_of
  planned-room e f = rw (e, f)

  -- what is planned is the pattern's plan
  pub planned_same : (s : Planning) → planned most p stores work ≡ granted s → s ≡ plan_of p
  planned_same s e =
      by_test (eqb (pattern_fault most p) 0)
      (λ q. let passes : pattern_fault most p ≡ 0 = eqb-true _ _ q in
      by_test (sizes_fit p stores work)
      (λ f. room_same (plan_of p) _ _ s 1 p.n (sym (planned-room passes f) ∙ e))
      (λ f. let g = planned_sizes passes f in
      let z : ◌≡◌ {A = ℕ} 0 1 = cc in
      absurd (omega arith)))
      (λ q. let g = planned-fault (eqb-false _ _ q) in
      let z : ◌≡◌ {A = ℕ} 0 1 = cc in
      absurd (omega arith))

  -- a refusal is answered as it is
  pub answer-refused : (number step : ℕ) → planned most p stores work ≡ refused number step → plan_answer p (planned most p stores work) ≡ refused number step
  unfolding plan_answer and_then
  answer-refused number step e = rw e

-- ---- the steps' ending

-- both sides fit at each step before
fit_passes : (p : Lent) (room_l room_u t : ℕ) → FitTo p t room_l room_u → Passes (plan_of p) room_l room_u t
unfolding used
fit_passes p room_l room_u t h = (not_short (plan_of p) lower room_l t h.lower_fits, not_short (plan_of p) upper room_u t h.upper_fits)

-- equal counts, one by one; the row count is the same
same_counts_lem :
    {a b c d e f g h a' c' d' e' f' g' h' : ℕ} → a ≡ a' → c ≡ c' → d ≡ d' → e ≡ e' → f ≡ f' → g ≡ g' → h ≡ h'
    → counted a b c d e f g h ≡ counted a' b c' d' e' f' g' h'
same_counts_lem p q r s t u v = rw (p, q, r, s, t, u, v)

module _ (p : Lent) (n room_l room_u : ℕ) (l_subs l_starts l_slots u_subs u_starts u_slots : List ℕ) where
  -- the counts of a plan whose stores are filled with it
  planned-counts :
      Ready p → p.n ≡ n → (l u reads : ℕ) → EndsAre p n l u reads → BothFilled p n n room_l room_u (plan_stores l_subs l_starts l_slots u_subs u_starts u_slots)
      → counts_of p (plan_of p) ≡ counted n p.height (length p.columns) l u (get_or l_slots n 0) (get_or u_slots n 0) reads
  unfolding counts_of subscripts used
  planned-counts ready same l u reads ends filled =
      let s : Planning = plan_of p in
      let a : get_or l_slots n 0 ≡ slots_of s lower n = (filled_contains s lower filled.lowers (omega arith)).slots_at n (omega arith) in
      let b : get_or u_slots n 0 ≡ slots_of s upper n = (filled_contains s upper filled.uppers (omega arith)).slots_at n (omega arith) in
      same_counts_lem same refl
      (ap (λ (m : ℕ). length (shared s lower m).store) same ∙ sym ends.lower_end)
      (ap (λ (m : ℕ). length (shared s upper m).store) same ∙ sym ends.upper_end)
      (ap (slots_of s lower) same ∙ sym a)
      (ap (slots_of s upper) same ∙ sym b)
      (sym (ends.read ∙ ap (λ (m : ℕ). counted_reads p (after (pattern_of p) m) m) (sym same) ∙ counted_all p ready))

  -- The answer by the room is what the steps ended with.
  pub ended-answer :
      (e : Ended) → Ready p → p.n ≡ n → EndedAs e p n room_l room_u (plan_stores l_subs l_starts l_slots u_subs u_starts u_slots)
      → plan_answer p (room_fault (plan_of p) room_l room_u 1 p.n) ≡ ended_answer e n p.height (length p.columns) (get_or l_slots n 0) (get_or u_slots n 0)
  unfolding ended_answer plan_answer and_then used
  ended-answer (All l u reads) ready same (ends, filled) =
      let fits : room_fault (plan_of p) room_l room_u 1 n ≡ granted (plan_of p) =
      fits-granted (plan_of p) room_l room_u n (filled.lowers.fits, filled.uppers.fits) in
      ap (λ (m : ℕ). plan_answer p (room_fault (plan_of p) room_l room_u 1 m)) same ∙ ap (plan_answer p) fits ∙ ap granted (planned-counts ready same l.0 u.0 reads ends filled)
  ended-answer (LowerAt k) ready same (low, high, fit, full) =
      let stops : room_fault (plan_of p) room_l room_u 1 n ≡ refused 7 k =
      room_stops_lower (plan_of p) room_l room_u 1 n k low (omega arith) (λ t x y. fit_passes p room_l room_u t (fit t y))
      (too_short (plan_of p) lower room_l k full) in
      ap (λ (m : ℕ). plan_answer p (room_fault (plan_of p) room_l room_u 1 m)) same ∙ ap (plan_answer p) stops
  ended-answer (UpperAt k) ready same (low, high, fit, part, full) =
      let stops : room_fault (plan_of p) room_l room_u 1 n ≡ refused 8 k =
      room_stops_upper (plan_of p) room_l room_u 1 n k low (omega arith) (λ t x y. fit_passes p room_l room_u t (fit t y))
      (not_short (plan_of p) lower room_l k part) (too_short (plan_of p) upper room_u k full) in
      ap (λ (m : ℕ). plan_answer p (room_fault (plan_of p) room_l room_u 1 m)) same ∙ ap (plan_answer p) stops

  -- a plan that is answered stands in its stores
  pub ended_made :
      (r : PlanAnswer) (e : Ended) (height entries ls us : ℕ) → answer_of r ≡ ended_answer e n height entries ls us
      → EndedAs e p n room_l room_u (plan_stores l_subs l_starts l_slots u_subs u_starts u_slots) → PlannedAs r p n room_l room_u (plan_stores l_subs l_starts l_slots u_subs u_starts u_slots)
  unfolding answer_of ended_answer
  ended_made (Refused x) e height entries ls us a h = tt
  ended_made (Planned c) (All l u reads) height entries ls us a h = h.1
  ended_made (Planned c) (LowerAt k) height entries ls us a h = let z : ◌≡◌ {A = ℕ} 0 1 = cc in absurd (omega arith)
  ended_made (Planned c) (UpperAt k) height entries ls us a h = let z : ◌≡◌ {A = ℕ} 0 1 = cc in absurd (omega arith)

-- ---- the first step

-- zeros are zeros of their own length
own_zeros : (was now : List ℕ) → Zeros was now → now ≡ replicate (length now) 0
own_zeros was now e = e ∙ ap (λ (m : ℕ). replicate m 0) (sym (ap length e ∙ length-replicate (length was) 0))

-- a side that is cleared is filled with no step
pub side-begins :
    {s : Planning} {side : Side} {n : ℕ} {subs starts slots subs' starts' slots' : List ℕ} → length starts ≡ n → length slots ≡ suc n
    → SideZeros subs starts slots subs' starts' slots' → Filled s side n 0 (length subs') (side_stores subs' starts' slots')
side-begins {s} {side} {n} {subs} {subs' = subs'} {starts'} {slots'} a b zero =
    filled_none s side n (length subs') subs' starts' slots' (own_zeros subs subs' zero.subs-zero) (rw a at zero.starts-zero) (rw b at zero.slots-zero)

-- ---- the end of the last slots

-- it stands in a store that is cleared and written, and keeps its length
pub last_inside : {n was cleared written : ℕ} → was ≡ suc n → cleared ≡ was → written ≡ cleared → n < written
last_inside a b c = omega (arith, a, b, c)

-- ---- the code's answers

module _ (e : Ended) (n height entries ls us : ℕ) where
  -- each ending is answered as it is
  pub answer_lower : (k : ℕ) → e ≡ LowerAt k → answer_of (Refused (LowerRoom k)) ≡ ended_answer e n height entries ls us
  unfolding answer_of refusal_of ended_answer
  answer_lower k q = rw q

  pub answer_upper : (k : ℕ) → e ≡ UpperAt k → answer_of (Refused (UpperRoom k)) ≡ ended_answer e n height entries ls us
  unfolding answer_of refusal_of ended_answer
  answer_upper k q = rw q

  pub answer_all :
      (l u : SubscriptPlace) (reads : ℕ) (c : PlanCounts) → e ≡ All l u reads → counts_in c ≡ counted n height entries l.0 u.0 ls us reads
      → answer_of (Planned c) ≡ ended_answer e n height entries ls us
  unfolding answer_of ended_answer
  answer_all l u reads c q h = rw q (ap granted h)

module _ (most n height : ℕ) (starts columns : List ℕ) (fault : ℕ) (found : fault ≡ pattern_fault most (lent n height starts columns)) where
  module _ (l_subs l_starts l_slots u_subs u_starts u_slots row_heads row_links set_heads set_links list spare : List ℕ) where
    -- the answer to a fault
    pub refuse_fault :
        (r : Refusal) → (fault ≡ 0 → ⊥) → refusal_of {A = Counts} r ≡ refused fault 0
        → answer_of (Refused r) ≡ plan_answer (lent n height starts columns) (planned most (lent n height starts columns) (plan_stores l_subs l_starts l_slots u_subs u_starts u_slots) (work_sizes (work_stores row_heads row_links set_heads set_links list spare)))
    unfolding answer_of
    refuse_fault r some is =
        is ∙ rw found (sym (answer-refused most (lent n height starts columns) _ _ _ 0 (planned-fault most (lent n height starts columns) _ _ (λ e. some (found ∙ e)))))

    -- the answer to a store of another length
    pub refuse_lengths :
        (fit : Bool) → fit ≡ lengths_fit n height (length l_starts) (length l_slots) (length u_starts) (length u_slots) (length row_heads) (length row_links) (length set_heads) (length set_links) (length list) (length spare)
        → fault ≡ 0 → fit ≡ false
        → answer_of (Refused Stores) ≡ plan_answer (lent n height starts columns) (planned most (lent n height starts columns) (plan_stores l_subs l_starts l_slots u_subs u_starts u_slots) (work_sizes (work_stores row_heads row_links set_heads set_links list spare)))
    unfolding answer_of refusal_of
    refuse_lengths fit is none unfit =
        sym (answer-refused most (lent n height starts columns) _ _ 6 0 (planned_sizes most (lent n height starts columns) _ _ (sym found ∙ none)
        (sizes_fit_lem n height starts columns l_subs l_starts l_slots u_subs u_starts u_slots row_heads row_links set_heads set_links list spare ∙ sym is ∙ unfit)))

    module _ (fit : Bool) (is : fit ≡ lengths_fit n height (length l_starts) (length l_slots) (length u_starts) (length u_slots) (length row_heads) (length row_links) (length set_heads) (length set_links) (length list) (length spare)) (none : fault ≡ 0) (fits : fit ≡ true) where
      pub sizes : Lengths n height (length l_starts) (length l_slots) (length u_starts) (length u_slots) (length row_heads) (length row_links) (length set_heads) (length set_links) (length list) (length spare)
      sizes = fit_lengths _ _ _ _ _ _ _ _ _ _ _ _ (sym is ∙ fits)

      -- what chaining the rows takes for granted
      pub rows_ask : Ready (lent_by n starts columns) × ((length row_heads ≡ length starts) × (length row_links ≡ length starts))
      rows_ask =
          let long = fault-starts most n height starts columns fault found none in
          (fault-ready most n height starts columns fault found none, (sizes.row_heads_lem ∙ sym long, sizes.row_links_lem ∙ sym long))

      -- what the steps take for granted
      pub steps_ask :
          {row_heads' row_links' set_heads' set_links' l_subs' l_starts' l_slots' u_subs' u_starts' u_slots' : List ℕ}
          → SideZeros l_subs l_starts l_slots l_subs' l_starts' l_slots' → SideZeros u_subs u_starts u_slots u_subs' u_starts' u_slots'
          → Chained row_heads' row_links' (lent_by n starts columns).height n (unmet_at (lent_by n starts columns) (after (pattern_of (lent_by n starts columns)) 0))
          → Zeros set_heads set_heads' × Zeros set_links set_links'
          → (Ready (lent_by n starts columns) × ChainsAt (lent_by n starts columns) n 0 (chain_stores row_heads' row_links' set_heads' set_links'))
          × (BothFilled (lent_by n starts columns) n 0 (length l_subs') (length u_subs') (plan_stores l_subs' l_starts' l_slots' u_subs' u_starts' u_slots')
          × ((length list ≡ (lent_by n starts columns).height) × (length spare ≡ (lent_by n starts columns).height)))
      steps_ask l u rows sets =
          let told = fault-rows most n height starts columns fault found none in (
            (
              fault-ready most n height starts columns fault found none,
              chains-begin set_heads set_links rows (sizes.set_heads_lem ∙ ap suc told) (sizes.set_links_lem ∙ ap suc told) sets,
            ),
            (
              record { lowers = side-begins sizes.l_starts_lem sizes.l_slots_lem l; uppers = side-begins sizes.u_starts_lem sizes.u_slots_lem u },
              (sizes.list_is ∙ told, sizes.spare_is ∙ told),
            ),
          )

      -- the answer to the steps' ending, and what stands in the stores
      pub steps_end :
          (e : Ended) (r : PlanAnswer) (room_l room_u : ℕ) (l_subs' l_starts' l_slots' u_subs' u_starts' u_slots' : List ℕ) → room_l ≡ length l_subs → room_u ≡ length u_subs
          → EndedAs e (lent_by n starts columns) n room_l room_u (plan_stores l_subs' l_starts' l_slots' u_subs' u_starts' u_slots')
          → answer_of r ≡ ended_answer e n height (length columns) (get_or l_slots' n 0) (get_or u_slots' n 0)
          → (answer_of r ≡ plan_answer (lent n height starts columns) (planned most (lent n height starts columns) (plan_stores l_subs l_starts l_slots u_subs u_starts u_slots) (work_sizes (work_stores row_heads row_links set_heads set_links list spare))))
          × PlannedAs r (lent n height starts columns) n (length l_subs) (length u_subs) (plan_stores l_subs' l_starts' l_slots' u_subs' u_starts' u_slots')
      unfolding lent
      steps_end e r room_l room_u l_subs' l_starts' l_slots' u_subs' u_starts' u_slots' same-l same-u at says =
          let ends : EndedAs e (lent n height starts columns) n (length l_subs) (length u_subs) (plan_stores l_subs' l_starts' l_slots' u_subs' u_starts' u_slots') =
          subst (λ (m : ℕ). EndedAs e (lent n height starts columns) n m (length u_subs) (plan_stores l_subs' l_starts' l_slots' u_subs' u_starts' u_slots')) same-l
          (subst (λ (m : ℕ). EndedAs e (lent n height starts columns) n room_l m (plan_stores l_subs' l_starts' l_slots' u_subs' u_starts' u_slots')) same-u
          (subst (λ (p : Lent). EndedAs e p n room_l room_u (plan_stores l_subs' l_starts' l_slots' u_subs' u_starts' u_slots'))
          (sym (fault-height most n height starts columns fault found none)) at)) in
          let fit : sizes_fit (lent n height starts columns) (plan_stores l_subs l_starts l_slots u_subs u_starts u_slots) (work_sizes (work_stores row_heads row_links set_heads set_links list spare)) ≡ true =
          sizes_fit_lem n height starts columns l_subs l_starts l_slots u_subs u_starts u_slots row_heads row_links set_heads set_links list spare ∙ sym is ∙ fits in
          let room = planned-room most (lent n height starts columns) (plan_stores l_subs l_starts l_slots u_subs u_starts u_slots) (work_sizes (work_stores row_heads row_links set_heads set_links list spare)) (sym found ∙ none) fit in (
            says ∙ sym (ended-answer (lent n height starts columns) n (length l_subs) (length u_subs) l_subs' l_starts' l_slots' u_subs' u_starts' u_slots' e (ready most (lent n height starts columns) (sym found ∙ none)) refl ends)
                ∙ ap (plan_answer (lent n height starts columns)) (sym room),
            ended_made (lent n height starts columns) n (length l_subs) (length u_subs) l_subs' l_starts' l_slots' u_subs' u_starts' u_slots' r e height (length columns) _ _ says ends,
          )
