-- `dalumiveth_job` meets its contract: the bytes are found, then laid into the store and told; or the store is refused.
use borrow.Author.Rules.{rules}
use Rattle.dalumiveth.proofs.Telling.{job_told, job_refused}
use Rattle.dalumiveth.proofs.printed.dalumiveth_job.Goals as goal

pub returns-then-out-eq-ROOM : goal.returns-then-out-eq-ROOM
returns-then-out-eq-ROOM c =
    job_told _ _ _ _ _ _ _ (search rules) (search rules)
    (c.answer-answered.ensures.count, c.answer-answered.ensures.bytes)
    c.put_bytes.ensures
    c.put.ensures

pub returns : goal.returns
returns c = job_refused _ _ _ _ _ _ (search rules) c.put_bytes-2.ensures (c.put_refusal.ensures.returned, c.put_refusal.ensures.numbers)
