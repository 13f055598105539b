-- `added_own` meets its contract: the list of the step before is read, and the row is held against its last member.
use native.Mathlib.Nat.{pos_of_ne-zero}
use native.Mathlib.Omega.{arith}
use borrow.Author.Count.{falls_down}
use Rattle.plan_append.specs.declared.appended.Added.TheVariants.{Behind}
use Rattle.plan_append.proofs.Joining.{last_asks, last_inside, own_itself, own_first, own_behind, own-brings, added_as}
use Rattle.plan_append.proofs.appended.added_own.Goals as goal

pub last_list-requires : goal.last_list-requires
last_list-requires c =
    let pre = c.requires in
    last_asks pre.1.later pre.2 c.well_formed.1.1.1.0.1

pub list_at-requires : goal.list_at-requires
list_at-requires c =
    let pre = c.requires in
    let last = rw c.in-Members.is at c.last_list.ensures in
    last_inside pre.1.later pre.2 last.0

pub returns-then-row-k : goal.returns-then-row-k
returns-then-row-k c =
    λ p j at.
    let last = rw c.in-Members.is at c.last_list.ensures in
    added_as (Behind _ 1) _ _ j at last.0 last.1 c.list_at.ensures (own-brings p _)
    (own_itself _ _ _ _ c.after_first-have.ensures c.if-row-k.true)

pub returns-then-size-eq0 : goal.returns-then-size-eq0
returns-then-size-eq0 c =
    λ p j at.
    let last = rw c.in-Members.is at c.last_list.ensures in
    added_as (Behind _ 0) _ _ j at last.0 last.1 c.list_at.ensures (own-brings p _)
    (own_first _ _ _ _ c.after_first-have.ensures c.if-row-k.false c.if-size-eq0.true)

pub overflow_sub-size : goal.overflow_sub-size
overflow_sub-size c = pos_of_ne-zero c.if-size-eq0.false

pub bounds-have-size : goal.bounds-have-size
bounds-have-size c = falls_down _ (pos_of_ne-zero c.if-size-eq0.false)

pub returns-then-have-size : goal.returns-then-have-size
returns-then-have-size c =
    λ p j at.
    let last = rw c.in-Members.is at c.last_list.ensures in
    added_as (Behind _ 0) _ _ j at last.0 last.1 c.list_at.ensures (own-brings p _)
    (own_behind _ _ _ _ c.after_first-have.ensures c.if-row-k.false (omega (arith, c.if-size-eq0.false)) c.if-have-size.true)
