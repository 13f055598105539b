-- `extent_from` meets its contract.
use mathlib.Core.Bool.{true, false}
use mathlib.Core.Path.{◌≡◌}
use lib.Dec.{eqb}
use borrow.Author.Rules.{rules}
use borrow.Author.Tests.{eq-eqb, ne_eqb}
use Rattle.answers.specs.Runs.{extent_of}
use Rattle.numbers.specs.Numbered.{extent_from}
use Rattle.numbers.proofs.reading.extent_from.Goals as goal

pub returns-then-cut-eq0 : goal.returns-then-cut-eq0
unfolding extent_of extent_from
returns-then-cut-eq0 c = let e : eqb c.args.cut 0 ≡ true = eq-eqb c.args.cut 0 (search rules) in rw e

pub returns : goal.returns
unfolding extent_of extent_from
returns c = let e : eqb c.args.cut 0 ≡ false = ne_eqb c.args.cut 0 (search rules) in rw e
