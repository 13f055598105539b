-- What a call on the tally answers, and what it leaves in the counters.
use mathlib.Core.Bool.{true, false, true≢false}
use mathlib.Core.List.{List}
use mathlib.Core.Path.{◌≡◌, refl, sym, ap, ◌∙◌}
use Prim.Native.Nat.{ℕ, ◌+◌, ◌-◌, ◌≤◌, ◌<◌}
use native.Mathlib.Omega.{arith}
use lib.Dec.{eqb, leb, ltb}
use lib.ListN.{length, set, length-set}
use lib.Seq.{get_or-set_same, get_or-set_other}
use borrow.Author.Tests.{eq-eqb, ne_eqb, eqb-true, eqb-false, le-leb, leb-true, lt-ltb, le-ltb, ltb-true, ltb-false}
use Rattle.lists.proofs.Members.{by_test, and_left, and_right}
use Rattle.foundation.specs.Answer.{Answer, refused, granted, refuse_if}
use Rattle.foundation.specs.Claims.Tallies.{OutsideMembers, FullCounters, OtherLengths, NewSums, OwnCounterAlone, RefusalKeeps}
use Rattle.foundation.specs.Tally.{is_member, counter_of, max_tally, counter_answer, tally_answer, kept_counters, tally_after}
use Rattle.foundation.proofs.Stores.{same_granted, one_number_lem, not_both}

-- ---- the tests, one by one

pub member-bounds : (m : ℕ) → is_member m ≡ true → (1 ≤ m) × (m ≤ 16)
unfolding is_member
member-bounds m is = (leb-true 1 m (and_left (leb 1 m) _ is), leb-true m 16 (and_right (leb 1 m) _ is))

within : (m : ℕ) → (1 ≤ m) × (m ≤ 16) → is_member m ≡ true
unfolding is_member
within m (least, most) = rw (le-leb 1 m least, le-leb m 16 most)

outside : (m : ℕ) → ((1 ≤ m) × (m ≤ 16) → ⊥) → is_member m ≡ false
outside m none = by_test (is_member m) (λ is. absurd (none (member-bounds m is))) (λ e. e)

pub full : (sum updates : ℕ) → max_tally < sum + updates → counter_answer sum updates ≡ refused 19 0
unfolding counter_answer refuse_if
full sum updates passes = rw (lt-ltb max_tally (sum + updates) passes)

pub new-sum : (sum updates : ℕ) → sum + updates ≤ max_tally → counter_answer sum updates ≡ granted (sum + updates)
unfolding counter_answer refuse_if
new-sum sum updates fits = rw (le-ltb max_tally (sum + updates) fits)

module _ (counters : List ℕ) (m updates : ℕ) where
  pub other_length : (length counters ≡ 16 → ⊥) → tally_answer counters m updates ≡ refused 6 0
  unfolding tally_answer refuse_if
  other_length other = rw (ne_eqb (length counters) 16 other)

  module _ (sixteen : length counters ≡ 16) where
    pub no_member : is_member m ≡ false → tally_answer counters m updates ≡ refused 27 0
    unfolding tally_answer refuse_if
    no_member e = rw (eq-eqb (length counters) 16 sixteen, e)

    pub of_counter : is_member m ≡ true → tally_answer counters m updates ≡ counter_answer (counter_of counters m) updates
    unfolding tally_answer refuse_if
    of_counter e = rw (eq-eqb (length counters) 16 sixteen, e)

-- ---- the four answers, each with what decides it

data Outcome (counters : List ℕ) (m updates : ℕ) : Type 0 where
  of_other_length : (length counters ≡ 16 → ⊥) → tally_answer counters m updates ≡ refused 6 0 → Outcome counters m updates
  of_no_member : length counters ≡ 16 → ((1 ≤ m) × (m ≤ 16) → ⊥) → tally_answer counters m updates ≡ refused 27 0 → Outcome counters m updates
  of_full : length counters ≡ 16 → (1 ≤ m) × (m ≤ 16) → max_tally < counter_of counters m + updates → tally_answer counters m updates ≡ refused 19 0
      → Outcome counters m updates
  of_new-sum : length counters ≡ 16 → (1 ≤ m) × (m ≤ 16) → counter_of counters m + updates ≤ max_tally
      → tally_answer counters m updates ≡ granted (counter_of counters m + updates) → Outcome counters m updates

outcome : (counters : List ℕ) (m updates : ℕ) → Outcome counters m updates
outcome counters m updates =
    by_test (eqb (length counters) 16)
    (λ e. let sixteen = eqb-true (length counters) 16 e in
    by_test (is_member m)
    (λ is. by_test (ltb max_tally (counter_of counters m + updates))
    (λ passes. of_full sixteen (member-bounds m is) (ltb-true _ _ passes) (of_counter counters m updates sixteen is ∙ full _ _ (ltb-true _ _ passes)))
    (λ fits. of_new-sum sixteen (member-bounds m is) (ltb-false _ _ fits) (of_counter counters m updates sixteen is ∙ new-sum _ _ (ltb-false _ _ fits))))
    (λ none. of_no_member sixteen (λ inside. absurd (true≢false (sym (within m inside) ∙ none))) (no_member counters m updates sixteen none)))
    (λ e. let other = eqb-false (length counters) 16 e in of_other_length other (other_length counters m updates other))

module _ {counters : List ℕ} {m updates : ℕ} where
  why_6 : Outcome counters m updates → tally_answer counters m updates ≡ refused 6 0 → length counters ≡ 16 → ⊥
  why_6 (of_other_length other e) q = other
  why_6 (of_no_member sixteen none e) q = one_number_lem 6 27 (λ z. omega arith) q e
  why_6 (of_full sixteen is passes e) q = one_number_lem 6 19 (λ z. omega arith) q e
  why_6 (of_new-sum sixteen is fits e) q = not_both q e

  why_27 : Outcome counters m updates → tally_answer counters m updates ≡ refused 27 0 → (length counters ≡ 16) × ((1 ≤ m) × (m ≤ 16) → ⊥)
  why_27 (of_other_length other e) q = one_number_lem 27 6 (λ z. omega arith) q e
  why_27 (of_no_member sixteen none e) q = (sixteen, none)
  why_27 (of_full sixteen is passes e) q = one_number_lem 27 19 (λ z. omega arith) q e
  why_27 (of_new-sum sixteen is fits e) q = not_both q e

  why_19 : Outcome counters m updates → tally_answer counters m updates ≡ refused 19 0
      → (length counters ≡ 16) × (1 ≤ m) × (m ≤ 16) × (max_tally < counter_of counters m + updates)
  why_19 (of_other_length other e) q = one_number_lem 19 6 (λ z. omega arith) q e
  why_19 (of_no_member sixteen none e) q = one_number_lem 19 27 (λ z. omega arith) q e
  why_19 (of_full sixteen is passes e) q = (sixteen, is.0, is.1, passes)
  why_19 (of_new-sum sixteen is fits e) q = not_both q e

  why-granted : {sum : ℕ} → Outcome counters m updates → tally_answer counters m updates ≡ granted sum
      → (length counters ≡ 16) × (1 ≤ m) × (m ≤ 16) × (counter_of counters m + updates ≤ max_tally) × (sum ≡ counter_of counters m + updates)
  why-granted (of_other_length other e) q = not_both e q
  why-granted (of_no_member sixteen none e) q = not_both e q
  why-granted (of_full sixteen is passes e) q = not_both e q
  why-granted (of_new-sum sixteen is fits e) q = (sixteen, is.0, is.1, fits, same_granted _ _ (sym q ∙ e))

pub other_lengths : OtherLengths
unfolding OtherLengths
other_lengths counters m updates = (why_6 (outcome counters m updates), other_length counters m updates)

pub outside-members : OutsideMembers
unfolding OutsideMembers
outside-members counters m updates = (why_27 (outcome counters m updates), λ h. no_member counters m updates h.0 (outside m h.1))

pub full_counters : FullCounters
unfolding FullCounters
full_counters counters m updates = (
  why_19 (outcome counters m updates),
  λ h. of_counter counters m updates h.0 (within m (h.1, h.2)) ∙ full _ _ h.3,
)

pub new_sums : NewSums
unfolding NewSums
new_sums counters m updates sum = (
  why-granted (outcome counters m updates),
  λ h. of_counter counters m updates h.0 (within m (h.1, h.2)) ∙ new-sum _ _ h.3 ∙ ap granted (sym h.4),
)

-- ---- the counters afterwards

pub after-refusal : (counters : List ℕ) (m updates : ℕ) {number step : ℕ} → tally_answer counters m updates ≡ refused number step → tally_after counters m updates ≡ counters
unfolding tally_after kept_counters
after-refusal counters m updates e = rw e

after-sum : (counters : List ℕ) (m updates : ℕ) {sum : ℕ} → tally_answer counters m updates ≡ granted sum → tally_after counters m updates ≡ set counters (m - 1) sum
unfolding tally_after kept_counters
after-sum counters m updates e = rw e

pub refusal_keeps : RefusalKeeps
unfolding RefusalKeeps
refusal_keeps counters m updates number step e = after-refusal counters m updates e

pub own_counter_alone : OwnCounterAlone
unfolding OwnCounterAlone counter_of
own_counter_alone counters m updates sum e =
    let why = why-granted (outcome counters m updates) e in
    let inside : m - 1 < length counters = omega (arith, why) in
    rw (after-sum counters m updates e) (
      length-set counters (m - 1) sum ∙ why.0,
      get_or-set_same counters (m - 1) sum 0 inside,
      λ other least apart. let aside : other - 1 ≡ m - 1 → ⊥ = λ q. apart (omega (arith, q, why)) in get_or-set_other counters (m - 1) (other - 1) sum 0 aside,
    )

-- a call leaves as many counters as there were
by_answer : (counters : List ℕ) (m : ℕ) (answer : Answer ℕ) → length (kept_counters counters m answer) ≡ length counters
unfolding kept_counters
by_answer counters m (refused number step) = refl
by_answer counters m (granted sum) = length-set counters (m - 1) sum

pub tally_length : (counters : List ℕ) (m updates : ℕ) → length (tally_after counters m updates) ≡ length counters
unfolding tally_after
tally_length counters m updates = by_answer counters m (tally_answer counters m updates)
