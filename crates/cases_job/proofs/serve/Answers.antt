-- What is printed of an answer stands in its store: there is room for every answer.
use Rattle.foundation.specs.Claims.{AnswerRoom}
use Rattle.foundation.proofs.Theorems.{answer-room}
use Rattle.cases_job.proofs.serve.Goals as goal

pub shared_ref_as_front-write_all : goal.shared_ref_as_front-write_all
unfolding AnswerRoom
shared_ref_as_front-write_all g c = rw c.answer-answer.ensures.count (answer-room _)
