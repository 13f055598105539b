-- `stands_at` meets its contract. The loop's invariant: the list's first i numbers stand at their places in the store.
use mathlib.Core.Path.{◌≡◌, sym}
use Prim.Native.Nat.{ℕ, ◌+◌, ◌<◌, zero-le}
use native.Mathlib.Nat.{le_of_lt, lt_of_lt_of_le}
use lib.ListN.{length, get_or}
use borrow.Author.Count.{falls, below_none, below_more}
use borrow.Author.Rules.{scaled_Fits}
use Rattle.lists.proofs.Small.{next_le, next_fits, end_fits}
use Rattle.plan_share.proofs.Comparing.{stands-inside, stands-short, stands-apart, stands-whole}
use Rattle.plan_share.proofs.compare.stands_at.Goals as goal

pub overflow_sub-store : goal.overflow_sub-store
overflow_sub-store c = c.requires

pub loop-i-init : goal.loop-i-init
loop-i-init c = (zero-le, c.if-list-store.true, below_none _)

pub overflow_add-from : goal.overflow_add-from
overflow_add-from c =
    end_fits (le_of_lt (stands-inside _ _ _ _ c.requires c.loop-i.invariant.1 c.loop-i-test.true)) c.well_formed.1.0.1

pub offset_bounds-store-from : goal.offset_bounds-store-from
offset_bounds-store-from c =
    scaled_Fits _ _ _ (stands-inside _ _ _ _ c.requires c.loop-i.invariant.1 c.loop-i-test.true) c.well_formed.1.0.1

pub bounds-store-from : goal.bounds-store-from
bounds-store-from c = stands-inside _ _ _ _ c.requires c.loop-i.invariant.1 c.loop-i-test.true

pub offset_bounds-list-i : goal.offset_bounds-list-i
offset_bounds-list-i c = scaled_Fits _ _ _ c.loop-i-test.true c.well_formed.0.1

pub bounds-list-i : goal.bounds-list-i
bounds-list-i c = c.loop-i-test.true

pub returns-then-store-from : goal.returns-then-store-from
returns-then-store-from c =
    let a = c.args in
    sym (stands-apart a.list.now a.store.now a.at.0 c.loop-i.i c.loop-i-test.true c.if-store-from.true)

pub overflow_add-i : goal.overflow_add-i
overflow_add-i c = next_fits c.loop-i-test.true c.well_formed.0.1

pub loop-i-smaller : goal.loop-i-smaller
loop-i-smaller c = falls _ _ c.loop-i-test.true

pub loop-i-preserved : goal.loop-i-preserved
loop-i-preserved c =
    let loop = c.loop-i in
    (next_le _ _ c.loop-i-test.true, loop.invariant.1, below_more _ _ loop.invariant.2 c.if-store-from.false)

pub returns-then-list-store : goal.returns-then-list-store
returns-then-list-store c =
    let (high, room, each) = c.loop-i.invariant in
    let a = c.args in
    let all : (i : ℕ) → i < length a.list.now → get_or a.store.now (a.at.0 + i) 0 ≡ get_or a.list.now i 0 = λ i h.
    each i (lt_of_lt_of_le h c.loop-i-test.false) in
    sym (stands-whole a.list.now a.store.now a.at.0 room all)

pub returns : goal.returns
returns c =
    let a = c.args in
    sym (stands-short a.list.now a.store.now a.at.0 c.if-list-store.false)
