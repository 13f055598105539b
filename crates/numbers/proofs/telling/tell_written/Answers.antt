-- `tell_written` meets its contract, case by case.
use borrow.Author.Rules.{rules}
use Rattle.answers.specs.Offsets.{write_answer_of}
use Rattle.numbers.specs.Numbered.{refusal_number, numbers_of, write_numbers}
use Rattle.numbers.proofs.telling.tell_written.Goals as goal

pub returns-in-Written : goal.returns-in-Written
unfolding write_answer_of refusal_number numbers_of write_numbers
returns-in-Written c = rw c.in-Written.is (search rules)

pub returns-in-Stores : goal.returns-in-Stores
unfolding write_answer_of refusal_number numbers_of write_numbers
returns-in-Stores c = rw c.in-Stores.is c.put_refusal.ensures

pub returns-in-Beyond : goal.returns-in-Beyond
unfolding write_answer_of refusal_number numbers_of write_numbers
returns-in-Beyond c = rw c.in-Beyond.is c.put_refusal-in-Beyond.ensures
