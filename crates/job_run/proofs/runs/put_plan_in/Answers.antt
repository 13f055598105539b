-- `put_plan_in` meets its contract.
use Rattle.answers.specs.Stores.{plan_stores}
use Rattle.job_run.proofs.Reports.{after_plan, plan-text}
use Rattle.job_run.proofs.Arrays.{line_room}
use Rattle.job_run.proofs.Planned.{plan_made, plan-refused}
use Rattle.job_run.specs.Lending.{job_plan}
use Rattle.job_run.specs.Answering.{job_from}
use Rattle.job_run.proofs.runs.put_plan_in.Goals as goal

pub plan_job-answer-requires : goal.plan_job-answer-requires
plan_job-answer-requires c = (c.requires.1, c.requires.2)

pub put_plan_refused-requires : goal.put_plan_refused-requires
put_plan_refused-requires c = line_room c.requires.0

pub put_run-requires : goal.put_run-requires
put_run-requires c =
    let m = c.plan_job-answer.new in
    let stores = plan_stores m.l_subs m.l_starts m.l_slots m.u_subs m.u_starts m.u_slots in
    (c.requires.0, c.requires.1, plan_made _ stores _ _ c.plan_job-answer.ensures c.in-Planned.is)

pub returns-in-Refused : goal.returns-in-Refused
unfolding job_from
returns-in-Refused c =
    let a = c.args in
    let job = job_from a.n a.starts.now a.columns.now a.values.now a.right.now a.rows.now in
    let m = c.plan_job-answer.new in
    let stores = plan_stores m.l_subs m.l_starts m.l_slots m.u_subs m.u_starts m.u_slots in
    let refused = plan-refused _ stores _ _ c.plan_job-answer.ensures c.in-Refused.is in
    rw (plan-text job) at (c.put_plan_refused.ensures job.pattern (job_plan job.pattern) (after_plan job) refused)

pub returns-in-Planned : goal.returns-in-Planned
returns-in-Planned c = c.put_run.ensures
