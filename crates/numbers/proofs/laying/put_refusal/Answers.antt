-- `put_refusal` meets its contract.
use mathlib.Core.Path.{refl}
use Rattle.numbers.proofs.laying.put_refusal.Goals as goal

pub returns : goal.returns
returns c =
    record {
      returned = refl;
      numbers = c.put.ensures;
    }
