-- `shared_end` meets its contract: what the used part of the store shares with the list.
use mathlib.Core.Path.{◌∙◌}
use Prim.Native.Nat.{zero-le}
use native.Mathlib.Nat.{sub-zero}
use Rattle.plan_share.proofs.share.shared_end.Goals as goal

pub slice_bounds-longest_shared-count : goal.slice_bounds-longest_shared-count
slice_bounds-longest_shared-count c = zero-le

pub slice_bounds-longest_shared-start : goal.slice_bounds-longest_shared-start
slice_bounds-longest_shared-start c = zero-le

pub slice_bounds-longest_shared-end : goal.slice_bounds-longest_shared-end
slice_bounds-longest_shared-end c = c.requires.inside

pub longest_shared-requires : goal.longest_shared-requires
longest_shared-requires c = c.requires.ascends

pub returns : goal.returns
returns c = c.longest_shared.ensures ∙ rw sub-zero
