-- `text` meets its contract: the zeros behind what is printed are left out.
use Rattle.lists.proofs.Places.{padded-take}
use Rattle.foundation.specs.Printing.{printed}
use Rattle.program.proofs.output.text.Goals as goal

pub returns : goal.returns
returns c = λ job told. rw (c.front.ensures, told.1, told.0) (padded-take 0 8192 (printed job))
