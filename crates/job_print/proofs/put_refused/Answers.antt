-- `put_refused` meets its contract.
use Rattle.std.proofs.Common.{rules}
use Rattle.job_print.proofs.Appending.{page_over}
use Rattle.job_print.proofs.Reporting.{refused_put}
use Rattle.job_print.proofs.put_refused.Goals as goal

pub returns : goal.returns
returns c = page_over _ (refused_put c.args.number c.args.step c.put_line.ensures.text) (search rules)
