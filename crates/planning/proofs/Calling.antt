-- What the two calls leave: the work stores cleared, and the stores of a plan cleared after a refusal.
use mathlib.Core.List.{List}
use mathlib.Core.Path.{◌≡◌, refl, sym, ap, subst, ◌∙◌}
use Prim.Native.Nat.{ℕ, suc}
use native.Mathlib.Omega.{arith}
use lib.ListN.{length, replicate}
use Rattle.foundation.specs.Answer.{Answer, refused, granted, and_then, result_store, work_store}
use Rattle.foundation.specs.Pattern.{Lent, lent}
use Rattle.foundation.specs.Plan.{Planning, Side, lower, upper}
use Rattle.foundation.specs.PlanCall.{Counts, PlanStores, SideStores, subscripts, counts_of, planned, plan_answer, subscripts_after, starts_after, slot_starts_after, side_after, plan_leaves}
use Rattle.answers.specs.Answers.{refusal_of, answer_of}
use Rattle.answers.specs.Stores.{plan_stores, WorkStores, work_stores, work_sizes, WorkLeft, side_stores}
use Rattle.answers.specs.declared.PlanCounts.{PlanCounts}
use Rattle.answers.specs.declared.Refusal.{Refusal}
use Rattle.answers.specs.declared.Refusal.TheVariants.{Limits, Height, Starts, Column, Order, Diagonal, Stores, LowerRoom, UpperRoom, OtherPlan}
use Rattle.answers.specs.declared.PlanAnswer.{PlanAnswer}
use Rattle.answers.specs.declared.PlanAnswer.TheVariants.{Planned, Refused}
use Rattle.store_clear.specs.Clearing.{Zeros}
use Rattle.store_lists.specs.Clearing.{SideZeros}
use Rattle.plan_gather.specs.Ready.{plan_of}
use Rattle.plan_gather.proofs.Passing.{lent_n}
use Rattle.plan_lay.specs.Filled.{Filled, BothFilled}
use Rattle.plan_lay.proofs.Filled.{filled_contains}
use Rattle.plan_call.specs.Outcome.{PlannedAs}
use Rattle.plan_call.proofs.Answering.{planned_same}
use Rattle.planning.specs.Calls.{PlanKept}

-- ---- what the call leaves

-- a refusal is no grant
refusal-refuses : (r : Refusal) (a : Counts) → refusal_of r ≡ granted a → ⊥
unfolding refusal_of
refusal-refuses Limits a e = let z : ◌≡◌ {A = ℕ} 0 1 = cc in omega arith
refusal-refuses Height a e = let z : ◌≡◌ {A = ℕ} 0 1 = cc in omega arith
refusal-refuses Starts a e = let z : ◌≡◌ {A = ℕ} 0 1 = cc in omega arith
refusal-refuses Column a e = let z : ◌≡◌ {A = ℕ} 0 1 = cc in omega arith
refusal-refuses Order a e = let z : ◌≡◌ {A = ℕ} 0 1 = cc in omega arith
refusal-refuses Diagonal a e = let z : ◌≡◌ {A = ℕ} 0 1 = cc in omega arith
refusal-refuses Stores a e = let z : ◌≡◌ {A = ℕ} 0 1 = cc in omega arith
refusal-refuses (LowerRoom k) a e = let z : ◌≡◌ {A = ℕ} 0 1 = cc in omega arith
refusal-refuses (UpperRoom k) a e = let z : ◌≡◌ {A = ℕ} 0 1 = cc in omega arith
refusal-refuses OtherPlan a e = let z : ◌≡◌ {A = ℕ} 0 1 = cc in omega arith

-- after a refusal all result stores are zero
pub leaves_zeros :
    (p : Lent) (answer : Answer Planning) (r : Refusal) (l_subs l_starts l_slots u_subs u_starts u_slots : List ℕ) → answer_of (Refused r) ≡ plan_answer p answer
    → plan_leaves p answer (plan_stores l_subs l_starts l_slots u_subs u_starts u_slots)
    ≡ plan_stores (replicate (length l_subs) 0) (replicate (length l_starts) 0) (replicate (length l_slots) 0) (replicate (length u_subs) 0) (replicate (length u_starts) 0)
    (replicate (length u_slots) 0)
unfolding plan_leaves side_after subscripts_after starts_after slot_starts_after result_store plan_answer and_then answer_of
leaves_zeros p (refused number step) r l_subs l_starts l_slots u_subs u_starts u_slots e = refl
leaves_zeros p (granted s) r l_subs l_starts l_slots u_subs u_starts u_slots e = absurd (refusal-refuses r (counts_of p s) e)

-- a side that is filled with the plan is as the call should leave it
side_left :
    (side : Side) (s : Planning) (n : ℕ) (subs starts slots subs' starts' slots' : List ℕ) → length starts ≡ n → length slots ≡ suc n
    → Filled s side n n (length subs) (side_stores subs' starts' slots')
    → side_after side n (granted s) (record { subs = subs; starts = starts; slot_starts = slots }) ≡ record { subs = subs'; starts = starts'; slot_starts = slots' }
unfolding side_after subscripts_after starts_after slot_starts_after result_store subscripts
side_left side s n subs starts slots subs' starts' slots' a b h = rw (h.subs_are, h.starts_are, h.slots_are, a, b)

-- equal stores make equal sides
same_side_lem :
    {a b c a' b' c' : List ℕ} → a ≡ a' → b ≡ b' → c ≡ c'
    → ◌≡◌ {A = SideStores} (record { subs = a; starts = b; slot_starts = c }) (record { subs = a'; starts = b'; slot_starts = c' })
same_side_lem p q r = rw (p, q, r)

-- equal sides make equal stores
both_sides : {a b a' b' : SideStores} → a ≡ a' → b ≡ b' → ◌≡◌ {A = PlanStores} (record { lower_side = a; upper_side = b }) (record { lower_side = a'; upper_side = b' })
both_sides p q = rw (p, q)

-- after a plan is made its stores are filled with it
pub leaves-plan :
    (p : Lent) (answer : Answer Planning) (n : ℕ) (c : PlanCounts) (l_subs l_starts l_slots u_subs u_starts u_slots l_subs' l_starts' l_slots' u_subs' u_starts' u_slots' : List ℕ)
    → p.n ≡ n → ((s : Planning) → answer ≡ granted s → s ≡ plan_of p) → answer_of (Planned c) ≡ plan_answer p answer
    → length l_starts' ≡ length l_starts → length l_slots' ≡ length l_slots → length u_starts' ≡ length u_starts → length u_slots' ≡ length u_slots
    → BothFilled p n n (length l_subs) (length u_subs) (plan_stores l_subs' l_starts' l_slots' u_subs' u_starts' u_slots')
    → plan_leaves p answer (plan_stores l_subs l_starts l_slots u_subs u_starts u_slots) ≡ plan_stores l_subs' l_starts' l_slots' u_subs' u_starts' u_slots'
unfolding plan_leaves plan_answer and_then answer_of
leaves-plan p (refused number step) n c l_subs l_starts l_slots u_subs u_starts u_slots l_subs' l_starts' l_slots' u_subs' u_starts' u_slots' same is e _ _ _ _ verify =
    let z : ◌≡◌ {A = ℕ} 0 1 = cc in
    absurd (omega arith)
leaves-plan p (granted s) n c l_subs l_starts l_slots u_subs u_starts u_slots l_subs' l_starts' l_slots' u_subs' u_starts' u_slots' same is e nb nc ne nf verify =
    let l = filled_contains (plan_of p) lower verify.lowers (omega arith) in
    let u = filled_contains (plan_of p) upper verify.uppers (omega arith) in
    let a : side_after lower n (granted (plan_of p)) (record { subs = l_subs; starts = l_starts; slot_starts = l_slots })
    ≡ record { subs = l_subs'; starts = l_starts'; slot_starts = l_slots' } =
    side_left lower (plan_of p) n l_subs l_starts l_slots l_subs' l_starts' l_slots' (omega (arith, l.starts_size)) (omega (arith, l.slots_size)) verify.lowers in
    let b : side_after upper n (granted (plan_of p)) (record { subs = u_subs; starts = u_starts; slot_starts = u_slots })
    ≡ record { subs = u_subs'; starts = u_starts'; slot_starts = u_slots' } =
    side_left upper (plan_of p) n u_subs u_starts u_slots u_subs' u_starts' u_slots' (omega (arith, u.starts_size)) (omega (arith, u.slots_size)) verify.uppers in
    ap (λ (x : Planning). plan_leaves p (granted x) (plan_stores l_subs l_starts l_slots u_subs u_starts u_slots)) (is s refl)
    ∙ both_sides
    (ap (λ (m : ℕ). side_after lower m (granted (plan_of p)) (record { subs = l_subs; starts = l_starts; slot_starts = l_slots })) same ∙ a)
    (ap (λ (m : ℕ). side_after upper m (granted (plan_of p)) (record { subs = u_subs; starts = u_starts; slot_starts = u_slots })) same ∙ b)

-- zeros of a length that was kept
zeros_kept : (was now : List ℕ) {m : ℕ} → Zeros was now → length was ≡ m → now ≡ replicate m 0
zeros_kept was now e q = e ∙ ap (λ (k : ℕ). replicate k 0) q

-- three stores of the same lengths
pub record SameSizes (a b c a' b' c' : List ℕ) : Type 0 where
  pub first : length a' ≡ length a
  pub second : length b' ≡ length b
  pub third : length c' ≡ length c

-- a side that kept its lengths and is cleared
side_zeros :
    {a b c a' b' c' a'' b'' c'' : List ℕ} → SameSizes a b c a' b' c' → SideZeros a' b' c' a'' b'' c''
    → ◌≡◌ {A = SideStores} (record { subs = a''; starts = b''; slot_starts = c'' })
    (record { subs = replicate (length a) 0; starts = replicate (length b) 0; slot_starts = replicate (length c) 0 })
side_zeros {a' = a'} {b'} {c'} {a''} {b''} {c''} same cleared =
    same_side_lem (zeros_kept a' a'' cleared.subs-zero same.first) (zeros_kept b' b'' cleared.starts-zero same.second)
    (zeros_kept c' c'' cleared.slots-zero same.third)

-- ---- the calls

-- Work stores g to l that kept their lengths (') and are cleared ('') are as a call should leave them.
pub work_left :
    {g h i j k l g' h' i' j' k' l' g'' h'' i'' j'' k'' l'' : List ℕ} → SameSizes g h i g' h' i' → SameSizes j k l j' k' l'
    → WorkLeft (work_stores g' h' i' j' k' l') (work_stores g'' h'' i'' j'' k'' l'') → WorkLeft (work_stores g h i j k l) (work_stores g'' h'' i'' j'' k'' l'')
work_left rows rest cleared = record {
  row_heads_lem = cleared.row_heads_lem ∙ ap (work_store 0) rows.first;
  row_links_lem = cleared.row_links_lem ∙ ap (work_store 0) rows.second;
  set_heads_lem = cleared.set_heads_lem ∙ ap (work_store 0) rows.third;
  set_links_lem = cleared.set_links_lem ∙ ap (work_store 0) rest.first;
  list_left = cleared.list_left ∙ ap (work_store 0) rest.second;
  spare_left = cleared.spare_left ∙ ap (work_store 0) rest.third;
}

-- A planning call. The stores of a plan are a, b, c of L and d, e, f of U: as lent, after planning ('), and cleared after a refusal ('').
module _ (most n height : ℕ) (starts columns a b c d e f : List ℕ) (scratch scratch'' : WorkStores) (r : PlanAnswer)
    (says : answer_of r ≡ plan_answer (lent n height starts columns) (planned most (lent n height starts columns) (plan_stores a b c d e f) (work_sizes scratch)))
    (left : WorkLeft scratch scratch'') (a' b' c' d' e' f' : List ℕ) (lowers : SameSizes a b c a' b' c') (uppers : SameSizes d e f d' e' f') where
  -- after a refusal the stores of a plan are cleared
  pub call-refused :
      (x : Refusal) (a'' b'' c'' d'' e'' f'' : List ℕ) → r ≡ Refused x → SideZeros a' b' c' a'' b'' c'' → SideZeros d' e' f' d'' e'' f''
      → PlanKept (Refused x) most (lent n height starts columns) (plan_stores a b c d e f) (plan_stores a'' b'' c'' d'' e'' f'') scratch scratch''
  call-refused x a'' b'' c'' d'' e'' f'' q l u =
      let told : answer_of (Refused x) ≡ plan_answer (lent n height starts columns) (planned most (lent n height starts columns) (plan_stores a b c d e f) (work_sizes scratch)) =
      ap answer_of (sym q) ∙ says in
      record {
        answer = told;
        results = both_sides (side_zeros lowers l) (side_zeros uppers u) ∙ sym (leaves_zeros (lent n height starts columns) _ x a b c d e f told);
        work = left;
      }

  -- a plan that was made stands in its stores
  pub call-planned :
      (v : PlanCounts) → r ≡ Planned v → PlannedAs r (lent n height starts columns) n (length a) (length d) (plan_stores a' b' c' d' e' f')
      → PlanKept r most (lent n height starts columns) (plan_stores a b c d e f) (plan_stores a' b' c' d' e' f') scratch scratch''
  call-planned v q stands = record {
    answer = says;
    results =
        sym (leaves-plan (lent n height starts columns) _ n v a b c d e f a' b' c' d' e' f' (lent_n n height starts columns)
        (planned_same most (lent n height starts columns) (plan_stores a b c d e f) (work_sizes scratch)) (ap answer_of (sym q) ∙ says)
        lowers.second lowers.third uppers.second uppers.third
        (subst (λ (x : PlanAnswer). PlannedAs x (lent n height starts columns) n (length a) (length d) (plan_stores a' b' c' d' e' f')) q stands));
    work = left;
  }
