-- `has_form` meets its contract: as many bytes, and each pair stands.
use Rattle.std.proofs.Common.{rules, tests, ne_eqb}
use Rattle.std.proofs.lemmas.Iterator.{cases_from_all, YieldsList-from_zip, YieldsList-from_slice}
use Rattle.offset_text.proofs.Places.{Stands, Differs, another_length, of_pairs}
use Rattle.offset_text.proofs.form.has_form.Goals as goal

pub returns-then-kinds-text : goal.returns-then-kinds-text
returns-then-kinds-text c =
    of_pairs c.args.kinds.now c.args.text.now _ c.if-kinds-text.true
    (cases_from_all c.all.new.self _ _ Stands Differs c.all.ensures.ran (YieldsList-from_zip (YieldsList-from_slice c.args.kinds.now cc) (YieldsList-from_slice c.args.text.now cc)) (λ x q k. search (rules, tests)) (λ x q k. search (rules, tests)))

pub returns-else-kinds-text : goal.returns-else-kinds-text
returns-else-kinds-text c = rw (ne_eqb _ _ c.if-kinds-text.false) (another_length _ _ c.if-kinds-text.false)
