-- `tell_load` meets its contract, case by case.
use mathlib.Core.Path.{refl}
use Rattle.answers.specs.Loads.{load_answer_of}
use Rattle.numbers.specs.Numbered.{refusal_number, numbers_of, one_number}
use Rattle.numbers.proofs.telling.tell_load.Goals as goal

pub returns-in-Entries : goal.returns-in-Entries
unfolding load_answer_of refusal_number numbers_of one_number
returns-in-Entries c = rw c.in-Entries.is (record { returned = refl; numbers = c.put.ensures })

pub returns-in-Limits : goal.returns-in-Limits
unfolding load_answer_of refusal_number numbers_of one_number
returns-in-Limits c = rw c.in-Limits.is c.put_refusal.ensures

pub returns-in-NoDivisor : goal.returns-in-NoDivisor
unfolding load_answer_of refusal_number numbers_of one_number
returns-in-NoDivisor c = rw c.in-NoDivisor.is c.put_refusal-in-NoDivisor.ensures

pub returns-in-Stores : goal.returns-in-Stores
unfolding load_answer_of refusal_number numbers_of one_number
returns-in-Stores c = rw c.in-Stores.is c.put_refusal-in-Stores.ensures
