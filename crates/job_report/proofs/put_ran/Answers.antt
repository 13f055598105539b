-- `put_ran` meets its contract, case by case.
use Rattle.job_report.proofs.Endings.{finished_put, stopped_put}
use Rattle.job_report.proofs.put_ran.Goals as goal

pub returns-in-Finished : goal.returns-in-Finished
returns-in-Finished c =
    λ p a h. finished_put p a _ _ _ _ h _ _ c.in-Finished.is c.line_numbers-line.ensures (c.put_report.ensures p)

pub returns-in-Stopped : goal.returns-in-Stopped
returns-in-Stopped c =
    λ p a h. stopped_put p a _ _ _ _ h _ _ _ c.in-Stopped.is c.number_of.ensures
    c.put_refused.ensures
