-- `clear::clear_work` meets its contract: each store is cleared by a call of its own. Assumes nothing.
use Rattle.foundation.specs.Answer.{work_store}
use Rattle.store_lists.proofs.clear.clear_work.Goals as goal

pub returns : goal.returns
unfolding work_store
returns c =
    record {
      row_heads_lem = c.clear.ensures;
      row_links_lem = c.clear-2.ensures;
      set_heads_lem = c.clear-3.ensures;
      set_links_lem = c.clear-4.ensures;
      list_left = c.clear-5.ensures;
      spare_left = c.clear-6.ensures;
    }
