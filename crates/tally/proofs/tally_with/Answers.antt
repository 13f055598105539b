-- `tally_with` keeps its contract: a number that is no member's is told so; else the member's counter answers, and is stored as it is to be.
use mathlib.Core.Bool.{Bool, true}
use mathlib.Core.Path.{◌≡◌, sym, ◌∙◌}
use Prim.Native.Nat.{ℕ, ◌≤◌}
use native.Mathlib.Omega.{arith}
use borrow.Author.Rules.{rules}
use Rattle.foundation.specs.Tally.{is_member}
use Rattle.foundation.proofs.TallyAnswers.{member-bounds, no_member, after-refusal}
use Rattle.tally.specs.Calls.{tally_answer_of}
use Rattle.tally.proofs.OneCounter.{member-counted}
use Rattle.tally.proofs.tally_with.Goals as goal

-- once the test is passed, the number is a member's
module _ (member : ℕ) {test : Bool} (ensured : test ≡ is_member member) (passed : test ≡ true) where
  is : is_member member ≡ true
  is = sym ensured ∙ passed

  bounds : (1 ≤ member) × (member ≤ 16)
  bounds = member-bounds _ is

pub returns-then-not-is_member : goal.returns-then-not-is_member
unfolding tally_answer_of
returns-then-not-is_member c =
    let a = c.args in
    let e = no_member a.tally.counters a.member a.updates (search rules) (sym c.is_member.ensures ∙ c.if-not-is_member.true) in
    (sym (after-refusal _ _ _ e), sym e)

pub overflow_sub-at : goal.overflow_sub-at
overflow_sub-at c = (bounds _ c.is_member.ensures c.if-not-is_member.false).0

pub offset_bounds-counters-at : goal.offset_bounds-counters-at
offset_bounds-counters-at c = record { fits = omega (arith, bounds _ c.is_member.ensures c.if-not-is_member.false) }

pub bounds-counters-at : goal.bounds-counters-at
bounds-counters-at c = omega (arith, bounds _ c.is_member.ensures c.if-not-is_member.false)

pub offset_bounds-counters-at-2 : goal.offset_bounds-counters-at-2
offset_bounds-counters-at-2 c = record { fits = omega (arith, bounds _ c.is_member.ensures c.if-not-is_member.false) }

pub bounds-counters-at-2 : goal.bounds-counters-at-2
bounds-counters-at-2 c = omega (arith, bounds _ c.is_member.ensures c.if-not-is_member.false)

pub returns : goal.returns
returns c = member-counted _ _ _ _ _ (search rules) (is _ c.is_member.ensures c.if-not-is_member.false) c.sum_with-counted.ensures
