-- `lengths_fit` meets its contract: a length that does not fit fails the test, and the last one decides. Assumes nothing.
use native.Mathlib.Omega.{arith}
use borrow.Author.Rules.{rules}
use Rattle.plan_pattern.proofs.Sizing.{unfit, last_fits}
use Rattle.plan_pattern.proofs.judge.lengths_fit.Goals as goal

pub returns-then-l_starts-n : goal.returns-then-l_starts-n
returns-then-l_starts-n c = unfit _ _ _ _ _ _ _ _ _ _ _ _ (λ f. omega arith)

pub returns-then-l_slots-next : goal.returns-then-l_slots-next
returns-then-l_slots-next c = unfit _ _ _ _ _ _ _ _ _ _ _ _ (λ f. omega arith)

pub returns-then-u_starts-n : goal.returns-then-u_starts-n
returns-then-u_starts-n c = unfit _ _ _ _ _ _ _ _ _ _ _ _ (λ f. omega arith)

pub returns-then-u_slots-next : goal.returns-then-u_slots-next
returns-then-u_slots-next c = unfit _ _ _ _ _ _ _ _ _ _ _ _ (λ f. omega arith)

pub returns-then-row_heads-below : goal.returns-then-row_heads-below
returns-then-row_heads-below c = unfit _ _ _ _ _ _ _ _ _ _ _ _ (λ f. omega arith)

pub returns-then-row_links-below : goal.returns-then-row_links-below
returns-then-row_links-below c = unfit _ _ _ _ _ _ _ _ _ _ _ _ (λ f. omega arith)

pub returns-then-set_heads-below : goal.returns-then-set_heads-below
returns-then-set_heads-below c = unfit _ _ _ _ _ _ _ _ _ _ _ _ (λ f. omega arith)

pub returns-then-set_links-below : goal.returns-then-set_links-below
returns-then-set_links-below c = unfit _ _ _ _ _ _ _ _ _ _ _ _ (λ f. omega arith)

pub returns-then-list-height : goal.returns-then-list-height
returns-then-list-height c = unfit _ _ _ _ _ _ _ _ _ _ _ _ (λ f. omega arith)

pub returns : goal.returns
returns c =
    last_fits _ _ _ _ _ _ _ _ _ _ _ _ (search rules) (omega arith) (search rules) (omega arith) (omega arith) (omega arith) (omega arith) (omega arith)
    (search rules)
