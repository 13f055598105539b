-- `judge` meets its contract: each return is the first test that fails.
use mathlib.Core.Path.{sym, ◌∙◌}
use native.Mathlib.Omega.{arith}
use Rattle.foundation.proofs.LoadAnswers.{some, outside-limits, no_divisor, no_room, may_draw}
use Rattle.answers.specs.Loads.{load_answer_of}
use Rattle.load_judge.proofs.judge.Goals as goal

pub returns-then-n-eq0 : goal.returns-then-n-eq0
unfolding load_answer_of
returns-then-n-eq0 c = sym (outside-limits _ _ _ (λ (low, high). omega (arith, low, c.if-n-eq0.true)))

pub returns-then-n-gt-LARGEST_N : goal.returns-then-n-gt-LARGEST_N
unfolding load_answer_of
returns-then-n-gt-LARGEST_N c = sym (outside-limits _ _ _ (λ (low, high). omega (arith, high, c.if-n-gt-LARGEST_N.true)))

pub returns-then-d-eq0 : goal.returns-then-d-eq0
unfolding load_answer_of
returns-then-d-eq0 c = sym (no_divisor _ _ _ (some _ c.if-n-eq0.false, c.if-n-gt-LARGEST_N.false) c.if-d-eq0.true)

pub returns-then-not-fit : goal.returns-then-not-fit
unfolding load_answer_of
returns-then-not-fit c =
    sym (no_room _ _ _ (some _ c.if-n-eq0.false, c.if-n-gt-LARGEST_N.false) (λ e. omega (arith, e)) (sym c.sizes_fit-fit.ensures ∙ c.if-not-fit.true))

pub returns : goal.returns
unfolding load_answer_of
returns c =
    sym (may_draw _ _ _ (some _ c.if-n-eq0.false, c.if-n-gt-LARGEST_N.false) c.if-d-eq0.false (sym c.sizes_fit-fit.ensures ∙ c.if-not-fit.false))
