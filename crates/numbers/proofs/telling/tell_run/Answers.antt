-- `tell_run` meets its contract, case by case.
use mathlib.Core.Path.{refl}
use Rattle.answers.specs.Runs.{run_answer_of, outcome_of}
use Rattle.numbers.specs.Numbered.{refusal_number, numbers_of, one_number}
use Rattle.numbers.proofs.telling.tell_run.Goals as goal

pub returns-in-Finished : goal.returns-in-Finished
unfolding run_answer_of outcome_of refusal_number one_number numbers_of
returns-in-Finished c = rw c.in-Finished.is (record { returned = refl; numbers = c.put.ensures })

pub returns-in-Stopped : goal.returns-in-Stopped
unfolding run_answer_of outcome_of refusal_number one_number numbers_of
returns-in-Stopped c = rw (c.in-Stopped.is, ← c.number_of-number.ensures) c.put_refusal.ensures
