-- `put_report` meets its contract.
use Rattle.std.proofs.Common.{rules}
use Rattle.job_print.proofs.Appending.{page_over}
use Rattle.job_print.proofs.Reporting.{report_put}
use Rattle.job_print.proofs.put_report.Goals as goal

pub returns : goal.returns
returns c =
    λ p ran f.
    page_over _ (report_put p ran _ _ _ _ f c.put_line.ensures.text c.put_line-2.ensures.text c.put_values.ensures.text c.put_line-3.ensures.text) (search rules)
