-- A call gives a member's counter what it gives for that member, so a list of calls gives it the sum of them.
use mathlib.Core.Bool.{false, cond}
use mathlib.Core.List.{List, [], ◌∷◌}
use mathlib.Core.Path.{◌≡◌, refl, sym, subst, ◌∙◌}
use Prim.Native.Nat.{ℕ, ◌+◌, ◌-◌, ◌≤◌}
use native.Mathlib.Omega.{arith}
use lib.Dec.{eqb}
use lib.ListN.{length}
use borrow.Author.Tests.{eqb-true, eqb-false}
use Rattle.lists.specs.Functions.{total}
use Rattle.lists.proofs.Members.{by_test}
use Rattle.lists.proofs.Places.{blank_read}
use Rattle.foundation.specs.Answer.{Answer, refused, granted}
use Rattle.foundation.specs.Claims.Tallies.{CountersAreSums, SixteenCounters, NewSums, OwnCounterAlone}
use Rattle.foundation.specs.Tally.{counter_of, empty_tally, max_tally, tally_answer, tally_after}
use Rattle.foundation.specs.TallyCalls.{TallyCall, after_calls, answered, given_by, given_for}
use Rattle.foundation.proofs.TallyAnswers.{after-refusal, new_sums, own_counter_alone}

-- what a call leaves: sixteen counters, each with what the call gives for its member, and none too large if none was
record Left (counters after : List ℕ) (given : ℕ → ℕ) : Type 0 where
  sixteen : length after ≡ 16
  adds : (k : ℕ) → 1 ≤ k → counter_of after k ≡ counter_of counters k + given k
  in_range_lem : ((k : ℕ) → 1 ≤ k → counter_of counters k ≤ max_tally) → (k : ℕ) → 1 ≤ k → counter_of after k ≤ max_tally

-- one counter has the sum, the others hold what they held
module _ (m u sum : ℕ) (was after : ℕ → ℕ) (is : sum ≡ was m + u) (own : after m ≡ sum) (others : (k : ℕ) → 1 ≤ k → (k ≡ m → ⊥) → after k ≡ was k)
    (k : ℕ) (least : 1 ≤ k) where
  holds : eqb m k ≡ false → after k ≡ was k
  holds other = others k least (λ q. eqb-false m k other (sym q))

  has_added : after k ≡ was k + cond (eqb m k) u 0
  has_added =
      by_test (eqb m k)
      (λ same. rw same (subst (λ (j : ℕ). after j ≡ was j + u) (eqb-true m k same) (own ∙ is)))
      (λ other. rw other (omega (arith, holds other)))

  stays_within : (most : ℕ) → sum ≤ most → was k ≤ most → after k ≤ most
  stays_within most fits low =
      by_test (eqb m k)
      (λ same. subst (λ (j : ℕ). after j ≤ most) (eqb-true m k same) (omega (arith, own)))
      (λ other. omega (arith, holds other))

module _ (counters : List ℕ) (c : TallyCall) (sixteen : length counters ≡ 16) where
  by_answer : (answer : Answer ℕ) → tally_answer counters c.member c.updates ≡ answer
      → Left counters (tally_after counters c.member c.updates) (λ k. given_by k (c, answer))
  unfolding given_by NewSums OwnCounterAlone
  by_answer (refused number step) e =
      let same = after-refusal counters c.member c.updates e in
      record { sixteen = rw same sixteen; adds = λ k least. rw same (omega arith); in_range_lem = λ low k least. rw same (low k least) }
  by_answer (granted sum) e =
      let why = (new_sums counters c.member c.updates sum).0 e in
      let (long, own, others) = own_counter_alone counters c.member c.updates sum e in
      record {
        sixteen = long;
        adds = has_added c.member c.updates sum (counter_of counters) _ why.4 own others;
        in_range_lem = λ low k least. stays_within c.member c.updates sum (counter_of counters) _ why.4 own others k least max_tally (omega (arith, why)) (low k least);
      }

  one-call : Left counters (tally_after counters c.member c.updates) (λ k. given_by k (c, tally_answer counters c.member c.updates))
  one-call = by_answer (tally_answer counters c.member c.updates) refl

-- a list of calls
all_calls : (counters : List ℕ) (calls : List TallyCall) → length counters ≡ 16 → Left counters (after_calls counters calls) (λ k. given_for k (answered counters calls))
unfolding after_calls answered given_for total
all_calls counters [] sixteen = record { sixteen = sixteen; adds = λ k least. omega arith; in_range_lem = λ low. low }
all_calls counters (c ∷ calls) sixteen =
    let first = one-call counters c sixteen in
    let rest = all_calls (tally_after counters c.member c.updates) calls first.sixteen in
    record {
      sixteen = rest.sixteen;
      adds = λ k least. omega (arith, rest.adds k least, first.adds k least);
      in_range_lem = λ low. rest.in_range_lem (first.in_range_lem low);
    }

-- ---- from the record of zeros

sixteen_zeros : length empty_tally ≡ 16
unfolding empty_tally
sixteen_zeros = refl

none_yet : (k : ℕ) → counter_of empty_tally k ≡ 0
unfolding counter_of empty_tally
none_yet k = blank_read 0 16 (k - 1)

pub counters_are_sums : CountersAreSums
unfolding CountersAreSums
counters_are_sums calls m least most = omega (arith, (all_calls empty_tally calls sixteen_zeros).adds m least, none_yet m)

pub sixteen_counters : SixteenCounters
unfolding SixteenCounters max_tally
sixteen_counters calls =
    let left = all_calls empty_tally calls sixteen_zeros in
    (left.sixteen, λ m least most. left.in_range_lem (λ k low. omega (arith, none_yet k)) m least)
