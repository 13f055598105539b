-- `clear::clear_side` meets its contract: each store is cleared by a call of its own. The contract stands before the lengths, which are asked
-- of a store that is touched only: code that leaves one is refused by the contract first. Assumes nothing.
use Rattle.store_lists.proofs.clear.clear_side.Goals as goal

pub returns : goal.returns
returns c =
    record {
      subs-zero = c.clear.ensures;
      starts-zero = c.clear-2.ensures;
      slots-zero = c.clear-3.ensures;
    }
