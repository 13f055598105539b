-- How the state of planning develops: what a step leaves as it was, and the equations of the plan.
use mathlib.Core.Bool.{true, false≢true, cond, not, ◌&&◌, ◌||◌}
use mathlib.Core.List.{List, [], ◌∷◌}
use mathlib.Core.Logic.{◌⊎◌, inl, inr, ⊎_elim}
use mathlib.Core.Path.{◌≡◌, refl, sym, ap, ◌∙◌}
use Prim.Native.Nat.{ℕ, zero, suc, ◌+◌, ◌≤◌, ◌<◌}
use native.Mathlib.Omega.{arith}
use lib.Dec.{eqb, ltb}
use lib.ListN.{length}
use borrow.Author.Tests.{eqb-true, eqb-false, ltb-true, lt-ltb}
use Rattle.lists.specs.Functions.{update, total, empty}
use Rattle.lists.specs.Sets.{member, join_all, from, least_above, upto, run, Falling}
use Rattle.lists.proofs.Members.{by_test, and_left, and_right, or_left, or_right, or_true_cases, member_head, member_tail, member_cases, not-member-nil, join_all_cong}
use Rattle.lists.proofs.Places.{update_same, update_other, upto_snoc, total-append}
use Rattle.lists.proofs.Least.{least_nonzero_above}
use Rattle.lists.proofs.Counting.{total_cong}
use Rattle.lists.proofs.Once.{falling_weaken}
use Rattle.foundation.specs.Pattern.{Pattern, column}
use Rattle.foundation.specs.Plan.{Side, lower, upper, Planning, list, before_steps, unmet_rows, brings, from_steps, hand_on, reads_of_rows, reads_of_steps, InStep, initialized, rows_obtained, influenced, steps_collected, sets_updated, collected_if_influenced, turn, after}

-- ---- a step at once

-- 2.1 and 2.2: from the empty list, what the rows first met bring
unfoldable pub from_rows : Pattern → Side → List ℕ → List ℕ
from_rows p side rows = join_all (brings p side) [] rows

-- L_k or U_k: what the rows first met bring, and what the steps in S_k hand on
unfoldable pub gathered : Pattern → Planning → Side → ℕ → List ℕ
gathered p s side k = from_steps s side k (from_rows p side (unmet_rows p s k))

-- what step k reads, said of the state after it or of any later one
unfoldable pub reads_of : Pattern → Planning → ℕ → ℕ
reads_of p s k =
    length (column p k)
    + (total (λ i. length (p.row i)) (s.first_met k) + total (λ l. length (s.L l) + length (s.U l)) (s.S k))

-- ---- handing on

module _ (k : ℕ) (lk uk : List ℕ) (S : ℕ → List ℕ) where
  -- Handing on changes no set of a step that is done.
  pub hand_other : (j : ℕ) → 1 ≤ j → j ≤ k → hand_on k lk uk S j ≡ S j
  unfolding hand_on
  hand_other j low high = by_test (ltb 1 (length lk) && ltb 0 (least_above k uk))
      (λ e. rw e (update_other S (least_above k uk) (k ∷ S (least_above k uk)) j (λ q. omega (arith, least_nonzero_above k uk (omega arith)))))
      (λ e. rw e)

  -- What handing on adds to a set is the step itself, where it hands on and to which set.
  pub hand_cases : (l j : ℕ) → member l (hand_on k lk uk S j) ≡ true → ((l ≡ k) × (j ≡ least_above k uk) × (1 < length lk)) ⊎ (member l (S j) ≡ true)
  unfolding hand_on update
  hand_cases l j m = by_test (ltb 1 (length lk) && ltb 0 (least_above k uk))
      (λ e. by_test (eqb j (least_above k uk))
      (λ q. let r : j ≡ least_above k uk = eqb-true j (least_above k uk) q in
      ⊎_elim (λ (h : l ≡ k). inl (h, r, ltb-true 1 (length lk) (and_left (ltb 1 (length lk)) _ e))) (λ h. inr (rw r h)) (member_cases l k (S (least_above k uk)) (rw (e, q) at m)))
      (λ q. inr (rw (e, q) at m)))
      (λ e. inr (rw e at m))

  -- Handing on drops no member.
  pub hand_keeps : (l j : ℕ) → member l (S j) ≡ true → member l (hand_on k lk uk S j) ≡ true
  unfolding hand_on update
  hand_keeps l j m = by_test (ltb 1 (length lk) && ltb 0 (least_above k uk))
      (λ e. by_test (eqb j (least_above k uk))
      (λ q. rw (e, q) (member_tail l k (S (least_above k uk)) (rw (eqb-true j (least_above k uk) q) at m)))
      (λ q. rw (e, q) m))
      (λ e. rw e m)

  -- A step whose L has more than one member joins the set of its least further member of U, if there is one.
  pub hand_joins : 1 < length lk → 1 ≤ least_above k uk → member k (hand_on k lk uk S (least_above k uk)) ≡ true
  unfolding hand_on
  hand_joins h some = rw (lt-ltb 1 (length lk) h, lt-ltb 0 (least_above k uk) some, update_same) (member_head k (S (least_above k uk)))

  -- There is no step 0 to hand on to.
  pub hand_none : hand_on k lk uk S 0 ≡ S 0
  unfolding hand_on
  hand_none = by_test (ltb 1 (length lk) && ltb 0 (least_above k uk))
      (λ e. rw e (update_other S (least_above k uk) (k ∷ S (least_above k uk)) 0 (λ q. omega (arith, ltb-true 0 (least_above k uk) (and_right (ltb 1 (length lk)) _ e)))))
      (λ e. rw e)

  -- A set that falls goes on falling.
  pub hand_falls : (j : ℕ) → Falling k (S j) → Falling (suc k) (hand_on k lk uk S j)
  unfolding hand_on update Falling
  hand_falls j h = by_test (ltb 1 (length lk) && ltb 0 (least_above k uk))
      (λ e. by_test (eqb j (least_above k uk))
      (λ q. rw (e, q) (omega arith, rw (eqb-true j (least_above k uk) q) at h))
      (λ q. rw (e, q) (falling_weaken k (suc k) (S j) (omega arith) h)))
      (λ e. rw e (falling_weaken k (suc k) (S j) (omega arith) h))

-- ---- 2.3

more_none : (n : ℕ) → n + 0 ≡ n
more_none n = omega arith

-- Where S_k is empty, 2.4 would add nothing: passed over or not, it leaves the same.
pub collected_all : (k : ℕ) (t : InStep) → collected_if_influenced k t ≡ steps_collected k t
unfolding collected_if_influenced influenced steps_collected from_steps reads_of_steps join_all total empty
collected_all k t = at (t.known.S k) refl
  where
    at : (steps : List ℕ) → t.known.S k ≡ steps → cond (not (empty (t.known.S k))) (steps_collected k t) t ≡ steps_collected k t
    at [] e = rw (e, more_none t.known.reads) refl
    at (l ∷ ls) e = rw e refl

-- The five parts of a step with 2.4 in every case.
unfoldable turned : Pattern → ℕ → Planning → Planning
turned p k s = sets_updated k (steps_collected k (rows_obtained p k (initialized s)))

turn-whole : (p : Pattern) (k : ℕ) (s : Planning) → turn p k s ≡ turned p k s
unfolding turn turned
turn-whole p k s = ap (sets_updated k) (collected_all k (rows_obtained p k (initialized s)))

module _ (p : Pattern) where
  -- ---- one step

  turn_list : (k : ℕ) (s : Planning) (side : Side) (l : ℕ) → list (turn p k s) side l ≡ update (list s side) k (gathered p s side k) l
  unfolding turned sets_updated steps_collected rows_obtained initialized gathered from_rows from_steps list
  turn_list k s lower l = rw (turn-whole p k s) refl
  turn_list k s upper l = rw (turn-whole p k s) refl

  -- What a step does to the rest of what planning knows.
  pub turn-met : (k : ℕ) (s : Planning) (i : ℕ) → (turn p k s).met i ≡ s.met i || member i (unmet_rows p s k)
  unfolding turned sets_updated steps_collected rows_obtained initialized
  turn-met k s i = rw (turn-whole p k s) refl

  turn_first : (k : ℕ) (s : Planning) → (turn p k s).first_met ≡ update s.first_met k (unmet_rows p s k)
  unfolding turned sets_updated steps_collected rows_obtained initialized
  turn_first k s = rw (turn-whole p k s) refl

  pub turn_S : (k : ℕ) (s : Planning) → (turn p k s).S ≡ hand_on k (gathered p s lower k) (gathered p s upper k) s.S
  unfolding turned sets_updated steps_collected rows_obtained initialized gathered from_rows from_steps list
  turn_S k s = rw (turn-whole p k s) refl

  pub turn_reads : (k : ℕ) (s : Planning) → (turn p k s).reads ≡ s.reads + reads_of_rows p s k + reads_of_steps s k
  unfolding turned sets_updated steps_collected rows_obtained initialized reads_of_steps
  turn_reads k s = rw (turn-whole p k s) refl

  -- A step changes its own lists alone.
  pub turn_list_other : (k : ℕ) (s : Planning) (side : Side) (l : ℕ) → (l ≡ k → ⊥) → list (turn p k s) side l ≡ list s side l
  turn_list_other k s side l n = turn_list k s side l ∙ update_other (list s side) k (gathered p s side k) l n

  -- A step's own lists are what it gathers.
  pub turn_list_own : (k : ℕ) (s : Planning) (side : Side) → list (turn p k s) side k ≡ gathered p s side k
  turn_list_own k s side = turn_list k s side k ∙ update_same (list s side) k (gathered p s side k)

  -- A step sets the rows first met at it alone.
  pub turn_first_other : (k : ℕ) (s : Planning) (l : ℕ) → (l ≡ k → ⊥) → (turn p k s).first_met l ≡ s.first_met l
  turn_first_other k s l n = ap (λ (f : ℕ → List ℕ). f l) (turn_first k s) ∙ update_other s.first_met k (unmet_rows p s k) l n

  -- The rows first met at a step are the unmet ones of its column.
  pub turn_first_own : (k : ℕ) (s : Planning) → (turn p k s).first_met k ≡ unmet_rows p s k
  turn_first_own k s = ap (λ (f : ℕ → List ℕ). f k) (turn_first k s) ∙ update_same s.first_met k (unmet_rows p s k)

  -- A step leaves the sets of the steps done as they were.
  pub turn_S_other : (k : ℕ) (s : Planning) (j : ℕ) → 1 ≤ j → j ≤ k → (turn p k s).S j ≡ s.S j
  turn_S_other k s j low high = ap (λ (f : ℕ → List ℕ). f j) (turn_S k s) ∙ hand_other k (gathered p s lower k) (gathered p s upper k) s.S j low high

  -- ---- steps that leave things as they were

  -- What no step from k on changes is after m steps what it was after k.
  pub stays {ℓ} : {A : Type ℓ} (f : Planning → A) (k m : ℕ) → k ≤ m → ((t : ℕ) → k ≤ t → f (after p (suc t)) ≡ f (after p t)) → f (after p m) ≡ f (after p k)
  stays f k zero h same = ap (λ (t : ℕ). f (after p t)) (omega arith)
  stays f k (suc m) h same = by_test (eqb k (suc m))
      (λ e. ap (λ (t : ℕ). f (after p t)) (sym (eqb-true k (suc m) e)))
      (λ e. let l : k ≤ m = omega (arith, eqb-false k (suc m) e) in same m l ∙ stays f k m l same)

  -- The lists of steps done stay.
  pub list_frame : (m k l : ℕ) (side : Side) → l ≤ k → k ≤ m → list (after p m) side l ≡ list (after p k) side l
  unfolding after
  list_frame m k l side lk km = stays (λ s. list s side l) k m km (λ t h. turn_list_other (suc t) (after p t) side l (omega arith))

  -- The rows first met at steps done stay.
  pub first_frame : (m k l : ℕ) → l ≤ k → k ≤ m → (after p m).first_met l ≡ (after p k).first_met l
  unfolding after
  first_frame m k l lk km = stays (λ s. s.first_met l) k m km (λ t h. turn_first_other (suc t) (after p t) l (omega arith))

  -- The set of a step is complete before that step.
  pub S-frame : (m j k : ℕ) → 1 ≤ k → k ≤ suc j → j ≤ m → (after p m).S k ≡ (after p j).S k
  unfolding after
  S-frame m j k low kj jm = stays (λ s. s.S k) j m jm (λ t h. turn_S_other (suc t) (after p t) k low (omega arith))

  start_list : (side : Side) (l : ℕ) → list (after p 0) side l ≡ []
  unfolding list after before_steps
  start_list lower l = refl
  start_list upper l = refl

  -- The lists of steps not yet done are empty.
  pub list_later : (k l : ℕ) (side : Side) → k < l → list (after p k) side l ≡ []
  unfolding after
  list_later zero l side h = start_list side l
  list_later (suc k) l side h = turn_list_other (suc k) (after p k) side l (omega arith) ∙ list_later k l side (omega arith)

  -- There is no step 0.
  pub list_none : (m : ℕ) (side : Side) → list (after p m) side 0 ≡ []
  list_none m side = list_frame m 0 0 side (omega arith) (omega arith) ∙ start_list side 0

  -- ---- the sets S

  -- A member of a set S is a step done, with more than one member in its L, whose least further member of U is the set's step.
  pub joined :
      (m l k : ℕ) → 1 ≤ k → member l ((after p m).S k) ≡ true
      → (1 ≤ l) × (l ≤ m) × (l < k) × (least_above l ((after p m).U l) ≡ k) × (1 < length ((after p m).L l))
  unfolding after list before_steps
  joined zero l k low e = absurd (not-member-nil l e)
  joined (suc m) l k low e =
      let s : Planning = after p m in
      let lk : List ℕ = gathered p s lower (suc m) in
      let uk : List ℕ = gathered p s upper (suc m) in
      ⊎_elim
      (λ (new : (l ≡ suc m) × (k ≡ least_above (suc m) uk) × (1 < length lk)).
      rw (new.0, turn_list_own (suc m) s upper, turn_list_own (suc m) s lower)
      (omega arith, omega arith, omega (arith, new.1, least_nonzero_above (suc m) uk (omega (arith, new.1))), sym new.1, new.2))
      (λ old.
      let before = joined m l k low old in
      rw (turn_list_other (suc m) s upper l (omega arith), turn_list_other (suc m) s lower l (omega arith))
      (before.0, omega arith, before.2, before.3, before.4))
      (hand_cases (suc m) lk uk s.S l k (rw (turn_S (suc m) s) at e))

  -- A step done with more than one member in its L is in the set of its least further member of U, if there is one.
  pub joins :
      (m l : ℕ) → 1 ≤ l → l ≤ m → 1 < length ((after p m).L l) → 1 ≤ least_above l ((after p m).U l)
      → member l ((after p m).S (least_above l ((after p m).U l))) ≡ true
  unfolding after list
  joins zero l low h many some = absurd (omega arith)
  joins (suc m) l low h many some =
      let s : Planning = after p m in
      let lk : List ℕ = gathered p s lower (suc m) in
      let uk : List ℕ = gathered p s upper (suc m) in
      by_test (eqb l (suc m))
      (λ e.
      let q : l ≡ suc m = eqb-true l (suc m) e in
      rw (q, turn_list_own (suc m) s upper, turn_S (suc m) s) (hand_joins (suc m) lk uk s.S (rw (q, turn_list_own (suc m) s lower) at many) (rw (q, turn_list_own (suc m) s upper) at some)))
      (λ e.
      let n : l ≡ suc m → ⊥ = eqb-false l (suc m) e in
      rw (turn_list_other (suc m) s upper l n, turn_S (suc m) s)
      (hand_keeps (suc m) lk uk s.S l (least_above l (s.U l)) (joins m l low (omega arith) (rw (turn_list_other (suc m) s lower l n) at many) (rw (turn_list_other (suc m) s upper l n) at some))))

  -- No step joins a set 0.
  pub S-none : (m : ℕ) → (after p m).S 0 ≡ []
  unfolding after before_steps
  S-none zero = refl
  S-none (suc m) =
      ap (λ (f : ℕ → List ℕ). f 0) (turn_S (suc m) (after p m))
      ∙ hand_none (suc m) (gathered p (after p m) lower (suc m)) (gathered p (after p m) upper (suc m)) (after p m).S
      ∙ S-none m

  -- The sets S fall: the newest step stands first.
  pub S-falls : (m k : ℕ) → Falling (suc m) ((after p m).S k)
  unfolding after before_steps Falling
  S-falls zero k = tt
  S-falls (suc m) k =
      rw (turn_S (suc m) (after p m))
      (hand_falls (suc m) (gathered p (after p m) lower (suc m)) (gathered p (after p m) upper (suc m)) (after p m).S k (S-falls m k))

  -- ---- the plan's equations

  -- After any later step, the rows first met at a step are those that it found unmet.
  pub plan_first : (m k : ℕ) → k < m → (after p m).first_met (suc k) ≡ unmet_rows p (after p k) (suc k)
  unfolding after
  plan_first m k h = first_frame m (suc k) (suc k) (omega arith) h ∙ turn_first_own (suc k) (after p k)

  -- After any later step, the lists of a step are what it gathered.
  pub plan-gathered : (m k : ℕ) (side : Side) → k < m → list (after p m) side (suc k) ≡ gathered p (after p k) side (suc k)
  unfolding after
  plan-gathered m k side h = list_frame m (suc k) (suc k) side (omega arith) h ∙ turn_list_own (suc k) (after p k) side

  -- After any later step, the set of a step is the one that it used.
  pub plan_S : (m k : ℕ) → k < m → (after p m).S (suc k) ≡ (after p k).S (suc k)
  plan_S m k h = S-frame m k (suc k) (omega arith) (omega arith) (omega arith)

  -- L_k and U_k are what the rows first met at k bring, and what the steps in S_k hand on.
  pub plan_list :
      (m k : ℕ) (side : Side) → 1 ≤ k → k ≤ m
      → list (after p m) side k ≡ from_steps (after p m) side k (from_rows p side ((after p m).first_met k))
  unfolding gathered from_steps
  plan_list m zero side low h = absurd (omega arith)
  plan_list m (suc k) side low h =
      let s : Planning = after p m in
      plan-gathered m k side h
      ∙ rw (← plan_first m k h, ← plan_S m k h)
      (join_all_cong (λ l. from (suc k) (list (after p k) side l)) (λ l. from (suc k) (list s side l)) _ (s.S (suc k))
      (λ l e. ap (from (suc k)) (sym (list_frame m k l side (omega (arith, joined m l (suc k) low e)) (omega arith)))))

  -- What a step reads, of the rows that it meets and of the steps in its set, may be said of any later state.
  pub plan-rows-read : (m k : ℕ) → k < m → reads_of_rows p (after p k) (suc k) ≡ length (column p (suc k)) + total (λ i. length (p.row i)) ((after p m).first_met (suc k))
  unfolding reads_of_rows
  plan-rows-read m k h = rw (plan_first m k h) refl

  pub plan-steps-read : (m k : ℕ) → k < m → reads_of_steps (after p k) (suc k) ≡ total (λ l. length ((after p m).L l) + length ((after p m).U l)) ((after p m).S (suc k))
  unfolding reads_of_steps list
  plan-steps-read m k h =
      let s : Planning = after p m in
      let t : Planning = after p k in
      rw (← plan_S m k h)
      (total_cong (λ l. length (t.L l) + length (t.U l)) (λ l. length (s.L l) + length (s.U l)) (s.S (suc k))
      (λ l e.
      let done = joined m l (suc k) (omega arith) e in
      rw (list_frame m k l lower (omega arith) (omega arith), list_frame m k l upper (omega arith) (omega arith))))

  -- The reads after t steps are the sum of what the steps 1 to t read.
  pub reads_after : (m t : ℕ) → t ≤ m → (after p t).reads ≡ total (reads_of p (after p m)) (upto t)
  unfolding after before_steps total upto run reads_of
  reads_after m zero h = refl
  reads_after m (suc t) h =
      let f : ℕ → ℕ = reads_of p (after p m) in
      let split : total f (upto (suc t)) ≡ total f (upto t) + total f (suc t ∷ []) = ap (total f) (upto_snoc t) ∙ total-append f (upto t) (suc t ∷ []) in
      omega (arith, split, reads_after m t (omega arith), plan-rows-read m t h, plan-steps-read m t h, turn_reads (suc t) (after p t))

  -- ---- met rows

  -- A met row was first met at some step done.
  pub met_somewhere : (m i : ℕ) → (after p m).met i ≡ true → (l : ℕ) × (1 ≤ l) × (l ≤ m) × (member i ((after p m).first_met l) ≡ true)
  unfolding after before_steps
  met_somewhere zero i e = absurd (false≢true e)
  met_somewhere (suc m) i e =
      let s : Planning = after p m in
      ⊎_elim
      (λ old.
      let before = met_somewhere m i old in
      (before.0, before.1, omega arith, rw (turn_first_other (suc m) s before.0 (omega arith)) before.3))
      (λ new. (suc m, omega arith, omega arith, rw (turn_first_own (suc m) s) new))
      (or_true_cases (s.met i) (member i (unmet_rows p s (suc m))) (rw (turn-met (suc m) s i) at e))

  -- A row is first met at a step done.
  pub first_inside : (m l i : ℕ) → member i ((after p m).first_met l) ≡ true → (1 ≤ l) × (l ≤ m)
  unfolding after before_steps
  first_inside zero l i e = absurd (not-member-nil i e)
  first_inside (suc m) l i e =
      by_test (eqb l (suc m))
      (λ t. omega (arith, eqb-true l (suc m) t))
      (λ t. omega (arith, first_inside m l i (rw (turn_first_other (suc m) (after p m) l (eqb-false l (suc m) t)) at e)))

  -- A row first met at some step done is met.
  pub met_since : (m i l : ℕ) → 1 ≤ l → l ≤ m → member i ((after p m).first_met l) ≡ true → (after p m).met i ≡ true
  unfolding after
  met_since zero i l low h e = absurd (omega arith)
  met_since (suc m) i l low h e =
      let s : Planning = after p m in
      rw (turn-met (suc m) s i)
      (by_test (eqb l (suc m))
      (λ t. or_right (s.met i) (member i (unmet_rows p s (suc m))) (rw (eqb-true l (suc m) t, turn_first_own (suc m) s) at e))
      (λ t.
      let n : l ≡ suc m → ⊥ = eqb-false l (suc m) t in
      or_left (s.met i) (member i (unmet_rows p s (suc m))) (met_since m i l low (omega arith) (rw (turn_first_other (suc m) s l n) at e))))
