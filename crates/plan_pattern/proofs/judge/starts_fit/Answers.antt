-- Each test's answer is the answer of refusal 2, given the tests before it.
use mathlib.Core.Path.{sym, ◌∙◌}
use native.Mathlib.Omega.{arith}
use Rattle.plan_pattern.proofs.Judging.{count_fails, first_fails, last_fails, rising_left}
use Rattle.plan_pattern.proofs.judge.starts_fit.Goals as goal

pub returns-then-starts-height : goal.returns-then-starts-height
returns-then-starts-height c n = sym (count_fails n _ _ _ (λ e. omega arith))

pub returns-then-starts-height-2 : goal.returns-then-starts-height-2
returns-then-starts-height-2 c n = sym (count_fails n _ _ _ c.if-starts-height-2.true)

pub returns-then-starts-ne0 : goal.returns-then-starts-ne0
returns-then-starts-ne0 c n = sym (first_fails n _ _ _ c.if-starts-height-2.false c.if-starts-ne0.true)

pub returns-then-starts-height-3 : goal.returns-then-starts-height-3
returns-then-starts-height-3 c n = sym (last_fails n _ _ _ c.if-starts-height-2.false c.if-starts-ne0.false c.if-starts-height-3.true)

pub returns : goal.returns
returns c n =
    c.not_falling.ensures ∙ sym (rising_left n _ _ _ c.if-starts-height-2.false c.if-starts-ne0.false c.if-starts-height-3.false)
