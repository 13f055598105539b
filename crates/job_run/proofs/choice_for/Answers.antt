-- `choice_for` meets its contract, by whether there is a row.
use Rattle.answers.specs.Runs.{chosen_by}
use Rattle.job_run.proofs.Running.{none_chosen, some-chosen}
use Rattle.job_run.proofs.choice_for.Goals as goal

pub returns-then-rows-eq0 : goal.returns-then-rows-eq0
unfolding chosen_by
returns-then-rows-eq0 c = none_chosen c.args.rows.now c.if-rows-eq0.true

pub returns : goal.returns
unfolding chosen_by
returns c = some-chosen c.args.rows.now c.if-rows-eq0.false
