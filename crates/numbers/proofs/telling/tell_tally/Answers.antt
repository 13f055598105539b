-- `tell_tally` meets its contract, case by case.
use mathlib.Core.Path.{refl}
use Rattle.tally.specs.Calls.{tally_answer_of}
use Rattle.numbers.specs.Numbered.{refusal_number, numbers_of, one_number}
use Rattle.numbers.proofs.telling.tell_tally.Goals as goal

pub returns-in-Sum : goal.returns-in-Sum
unfolding tally_answer_of refusal_number numbers_of one_number
returns-in-Sum c = rw c.in-Sum.is (record { returned = refl; numbers = c.put.ensures })

pub returns-in-NoMember : goal.returns-in-NoMember
unfolding tally_answer_of refusal_number numbers_of one_number
returns-in-NoMember c = rw c.in-NoMember.is c.put_refusal.ensures

pub returns-in-Full : goal.returns-in-Full
unfolding tally_answer_of refusal_number numbers_of one_number
returns-in-Full c = rw c.in-Full.is c.put_refusal-in-Full.ensures
