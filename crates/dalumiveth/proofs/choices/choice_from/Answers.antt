-- `choice_from` meets its contract.
use mathlib.Core.Bool.{true, false}
use mathlib.Core.Path.{◌≡◌}
use lib.Dec.{eqb}
use borrow.Author.Rules.{rules}
use borrow.Author.Tests.{eq-eqb, ne_eqb}
use Rattle.dalumiveth.specs.Calls.{choice_from}
use Rattle.dalumiveth.proofs.choices.choice_from.Goals as goal

pub returns-then-by_list-eq0 : goal.returns-then-by_list-eq0
unfolding choice_from
returns-then-by_list-eq0 c = let e : eqb c.args.by_list 0 ≡ true = eq-eqb c.args.by_list 0 (search rules) in rw e

pub returns : goal.returns
unfolding choice_from
returns c = let e : eqb c.args.by_list 0 ≡ false = ne_eqb c.args.by_list 0 (search rules) in rw e
