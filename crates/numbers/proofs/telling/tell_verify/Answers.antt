-- `tell_verify` meets its contract, case by case.
use Rattle.answers.specs.Answers.{verify_answer_of}
use Rattle.numbers.specs.Numbered.{refusal_number, numbers_of, verify_numbers}
use Rattle.numbers.proofs.Refused.{refused_alike}
use Rattle.numbers.proofs.telling.tell_verify.Goals as goal

pub returns-in-Agrees : goal.returns-in-Agrees
unfolding verify_answer_of refusal_number verify_numbers numbers_of
returns-in-Agrees c = rw c.in-Agrees.is c.put_refusal.ensures

pub returns-in-Refused : goal.returns-in-Refused
unfolding verify_answer_of refusal_number verify_numbers numbers_of
returns-in-Refused c =
    rw (c.in-Refused.is, ← refused_alike _ _ c.number_and_step-refused.ensures)
    c.put_refusal-in-Refused.ensures
