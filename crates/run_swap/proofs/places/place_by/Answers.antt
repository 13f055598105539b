-- `place_by` meets its contract: the guess where x stands there, else the place found.
use Rattle.run_swap.proofs.Guessing.{found_first}
use Rattle.run_swap.proofs.places.place_by.Goals as goal

pub returns-then-list-guess : goal.returns-then-list-guess
returns-then-list-guess c = found_first _ _ _ c.requires c.if-guess-list.true c.if-list-guess.true

pub returns : goal.returns
returns c = c.place_of.ensures.1 c.requires
