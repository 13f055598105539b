-- `put_word` meets its contract.
use Rattle.std.proofs.Common.{refl, rules}
use Rattle.job_print.proofs.Appending.{word_copied}
use Rattle.job_print.proofs.page.Page.put_word.Goals as goal

pub returns : goal.returns
returns c =
    record { same_store = refl; appended = word_copied c.args.self.now.bytes.now c.args.word.now _ c.args.self.now.end _ c.requires (search rules) (search rules) }
