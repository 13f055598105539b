-- `put_line` meets its contract.
use Rattle.job_print.proofs.Lining.{line_put}
use Rattle.job_print.proofs.page.Page.put_line.Goals as goal

pub returns-clause-text : goal.returns-clause-text
returns-clause-text c = line_put c.args.word.now c.args.numbers.now c.put_word.ensures c.put_numbers.ensures.text c.put_byte.ensures
