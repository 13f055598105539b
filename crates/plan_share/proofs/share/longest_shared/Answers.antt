-- `longest_shared` meets its contract: a length that ends above the store's last subscript is ruled out, and of the first one that does not every number is
-- compared: where none differs it is the overlap, and where one differs nothing is shared.
use mathlib.Core.Logic.{⊎_elim}
use Prim.Native.Nat.{ℕ, ◌+◌, ◌≤◌, ◌<◌, ◌-◌, zero-le}
use native.Mathlib.Nat.{le_of_lt, le_trans}
use native.Mathlib.Omega.{arith}
use lib.Arith.{le-zero}
use borrow.Author.Count.{falls, falls_down, below_none, below_more}
use borrow.Author.Rules.{scaled_Fits}
use Rattle.lists.proofs.Small.{next_le, next_fits, end_fits}
use Rattle.plan_share.proofs.Sharing.{one_shorter, found, none_left, nothing-shared}
use Rattle.plan_share.proofs.share.longest_shared.Goals as goal

-- where the code reads
in_store : (n t i : ℕ) → i < t → t ≤ n → n - t + i < n
in_store n t i l high = omega arith

last_inside : (n t : ℕ) → 0 < t → t ≤ n → t - 1 < n
last_inside n t some high = omega arith

pub shorter-init : goal.shorter-init
shorter-init c =
    ⊎_elim
    (λ w. record { left = omega arith; right = omega arith; none = λ u m l r e. omega arith })
    (λ w. record { left = omega arith; right = omega arith; none = λ u m l r e. omega arith })
    c.if-new-t.branch-raw

pub overflow_sub-size : goal.overflow_sub-size
overflow_sub-size c = le_trans c.shorter-test.true c.shorter.invariant.left

pub offset_bounds-store-size : goal.offset_bounds-store-size
offset_bounds-store-size c = scaled_Fits _ _ _ (falls_down _ (overflow_sub-size c)) c.well_formed.0.1

pub bounds-store-size : goal.bounds-store-size
bounds-store-size c = falls_down _ (le_trans c.shorter-test.true c.shorter.invariant.left)

pub overflow_sub-t : goal.overflow_sub-t
overflow_sub-t c = c.shorter-test.true

pub offset_bounds-new-t : goal.offset_bounds-new-t
offset_bounds-new-t c =
    scaled_Fits _ _ _ (last_inside _ _ c.shorter-test.true c.shorter.invariant.right)
    c.well_formed.1.0.1

pub bounds-new-t : goal.bounds-new-t
bounds-new-t c = last_inside _ _ c.shorter-test.true c.shorter.invariant.right

pub shorter-preserved : goal.shorter-preserved
shorter-preserved c = one_shorter _ _ _ c.shorter.invariant c.shorter-test.true c.if-store-size.true

pub overflow_sub-from : goal.overflow_sub-from
overflow_sub-from c = c.shorter.invariant.left

pub loop-i-init : goal.loop-i-init
loop-i-init c = (zero-le, below_none _)

pub overflow_add-from : goal.overflow_add-from
overflow_add-from c = end_fits (le_of_lt (in_store _ _ _ c.loop-i-test.true c.shorter.invariant.left)) c.well_formed.0.1

pub offset_bounds-store-from : goal.offset_bounds-store-from
offset_bounds-store-from c = scaled_Fits _ _ _ (in_store _ _ _ c.loop-i-test.true c.shorter.invariant.left) c.well_formed.0.1

pub bounds-store-from : goal.bounds-store-from
bounds-store-from c = in_store _ _ _ c.loop-i-test.true c.shorter.invariant.left

pub offset_bounds-new-i : goal.offset_bounds-new-i
offset_bounds-new-i c = scaled_Fits _ _ _ (le_trans c.loop-i-test.true c.shorter.invariant.right) c.well_formed.1.0.1

pub bounds-new-i : goal.bounds-new-i
bounds-new-i c = le_trans c.loop-i-test.true c.shorter.invariant.right

pub overflow_add-i : goal.overflow_add-i
overflow_add-i c = next_fits (le_trans c.loop-i-test.true c.shorter.invariant.right) c.well_formed.1.0.1

pub loop-i-smaller : goal.loop-i-smaller
loop-i-smaller c = falls _ _ c.loop-i-test.true

pub loop-i-preserved : goal.loop-i-preserved
loop-i-preserved c =
    let loop = c.loop-i in
    (next_le _ _ c.loop-i-test.true, below_more _ _ loop.invariant.1 c.if-store-from.false)

pub returns-in-shorter : goal.returns-in-shorter
returns-in-shorter c = found _ _ _ c.shorter.invariant c.loop-i.i c.loop-i-test.false c.loop-i.invariant.1

pub returns-after-shorter : goal.returns-after-shorter
returns-after-shorter c = nothing-shared _ _ _ c.shorter.invariant (le-zero c.shorter-test.false)

pub returns-then-store-from : goal.returns-then-store-from
returns-then-store-from c =
    none_left _ _ _ c.shorter.invariant c.loop-i.i c.requires c.loop-i-test.true
    c.if-store-size.false c.if-store-from.true
