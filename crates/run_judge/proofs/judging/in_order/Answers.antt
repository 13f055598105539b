-- `judging::in_order` meets its contract: each return knows what the tests before it said. Assumes nothing.
use borrow.Author.Rules.{rules}
use Rattle.foundation.specs.Answer.{refuse_if}
use Rattle.answers.specs.Runs.{reason_number}
use Rattle.run_judge.specs.Judgement.{judgement_of, in_order}
use Rattle.run_judge.proofs.judging.in_order.Goals as goal

pub returns-then-not-lends : goal.returns-then-not-lends
unfolding judgement_of in_order refuse_if reason_number
returns-then-not-lends c = search rules

pub returns-then-not-fine : goal.returns-then-not-fine
unfolding judgement_of in_order refuse_if reason_number
returns-then-not-fine c = search rules

pub returns-then-not-ordered : goal.returns-then-not-ordered
unfolding judgement_of in_order refuse_if reason_number
returns-then-not-ordered c = search rules

pub returns : goal.returns
unfolding judgement_of in_order refuse_if
returns c = search rules
