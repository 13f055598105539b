-- `begin_lists` meets its contract: both lists are empty, and nothing is read.
use Rattle.lists.specs.Functions.{keep}
use Rattle.foundation.specs.Plan.{so_far, initialized, after_initialization}
use Rattle.plan_gather.specs.Gathering.{omit}
use Rattle.plan_gather.proofs.Joining.{grown_none}
use Rattle.plan_lists.proofs.lying.begin_lists.Goals as goal

pub returns : goal.returns
unfolding omit keep so_far initialized after_initialization
returns c =
    λ p k row lowers uppers l u read. record {
      lower_size = l;
      upper_size = u;
      lower_lies = grown_none p.height lowers l;
      upper_lies = grown_none p.height uppers u;
      counted = read;
    }
