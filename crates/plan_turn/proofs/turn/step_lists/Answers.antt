-- `step_lists` meets its contract: each of the report's parts finds what the one before it left.
use Rattle.foundation.specs.Plan.{after_test}
use Rattle.plan_gather.proofs.Progress.{place_fits, set_head_inside}
use Rattle.plan_lists.proofs.Whole.{lower_whole, upper_whole}
use Rattle.plan_turn.proofs.Influence.{chains_here, rows-after}
use Rattle.plan_turn.proofs.turn.step_lists.Goals as goal

pub offset_bounds-set_heads-k : goal.offset_bounds-set_heads-k
offset_bounds-set_heads-k c = place_fits c.requires.side_at.0.step

pub bounds-set_heads-k : goal.bounds-set_heads-k
bounds-set_heads-k c = set_head_inside (c.requires.side_at.0.step, c.requires.chains_at.0)

pub obtain_rows-obtained-requires : goal.obtain_rows-obtained-requires
obtain_rows-obtained-requires c =
    let ends = c.requires.ends_are in
    let sizes = c.requires.l_growing_len in record {
      step_of = (c.requires.side_at.0.step, c.requires.chains_at.1);
      chained = c.requires.chains_at.0.row_chains;
      lists_at = c.begin_lists-empty.ensures _ _ _ _ _ sizes.0 sizes.1 ends.read;
    }

pub collect_influence-lists-requires : goal.collect_influence-lists-requires
unfolding after_test
collect_influence-lists-requires c =
    record {
      side_at = c.requires.side_at;
      chains_of = (chains_here c.requires.side_at.0.step _ _ _ _ c.requires.chains_at.0 c.requires.chains_at.1, c.requires.chains_at.0.set-chains.links_size);
      lists_at = c.obtain_rows-obtained.ensures.lists;
    }

pub update_sets-requires : goal.update_sets-requires
update_sets-requires c =
    let whole = c.collect_influence-lists.ensures in record {
      side_at = c.requires.side_at;
      whole_at = (lower_whole whole, upper_whole whole);
      chained = c.requires.chains_at.0.set-chains;
    }

pub returns : goal.returns
returns c =
    record {
      lists = c.collect_influence-lists.ensures;
      chains = record {
        row_chains = rows-after c.requires.side_at.0.step c.obtain_rows-obtained.ensures.met;
        set-chains = c.update_sets.ensures;
      };
    }
