-- `put_plan_refused` meets its contract.
use mathlib.Core.Path.{◌∙◌}
use Rattle.job_report.proofs.Endings.{plan-refused_put}
use Rattle.job_report.proofs.put_plan_refused.Goals as goal

pub returns : goal.returns
returns c = λ p a after e. plan-refused_put p a after _ (c.number_and_step-refused.ensures ∙ e) c.put_refused.ensures
