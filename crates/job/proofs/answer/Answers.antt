-- `answer` meets its contract: the bytes are written into a store of zeros.
use Rattle.job_sizes.specs.Sizes.{answer_room}
use Rattle.job.proofs.Filled.{alone}
use Rattle.job.proofs.answer.Goals as goal

pub returns : goal.returns
returns c = let a = alone answer_room _ _ _ c.put_answer-count.ensures in record { count = a.0; bytes = a.1 }
