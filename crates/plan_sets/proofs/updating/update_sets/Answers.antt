-- `update_sets` meets its contract: where L_k and U_k have further members, k joins the set of the first of U_k's kept list.
use mathlib.Core.Path.{refl, sym, ◌∙◌}
use Rattle.foundation.specs.Pattern.{Lent}
use Rattle.plan_gather.specs.Ready.{lent_by}
use Rattle.plan_sets.specs.Whole.{LowerWhole}
use Rattle.plan_sets.proofs.Handing.{hands_none, hands_nowhere, in_heads, hands_some}
use Rattle.plan_sets.proofs.updating.update_sets.Goals as goal
use Rattle.plan_sets.proofs.updating.update_sets.Lts as lts
use Rattle.plan_sets.proofs.updating.update_sets.Reads as reads
use Rattle.plan_sets.proofs.updating.update_sets.Tie as tie

abbrev Start : Type 0
Start = lts.Start tie.the-claims reads.Pre reads.Post tie.handed_clauses

abbrev pattern : Start → Lent
pattern s = lent_by s.args.n s.args.starts.now s.args.columns.now

-- what is asked of L_k
lower_whole : (s : Start) → LowerWhole s.args.l_lies (pattern s) s.args.n s.args.k s.args.row s.args.l_slots.now
lower_whole s = record { stores = _; end = _; growing = _; slots_are = refl; at = s.requires.side_at.0; whole = s.requires.whole_at.0 }

pub has_further-requires : goal.has_further-requires
has_further-requires c =
    (pattern c.before.before.before.before.before.before.before.before.before.before.before.before.before, lower_whole c.before.before.before.before.before.before.before.before.before.before.before.before.before)

pub least_further-rho-requires : goal.least_further-rho-requires
least_further-rho-requires c =
    record {
      side_at = c.requires.side_at.1;
      whole_at = c.requires.whole_at.1;
    }

pub returns-then-rho-eq0 : goal.returns-then-rho-eq0
returns-then-rho-eq0 c = hands_nowhere c.requires.side_at.0.step c.least_further-rho.ensures c.if-rho-eq0.true c.requires.chained

pub push-requires : goal.push-requires
push-requires c =
    let further = sym (c.has_further.ensures (pattern c.before.before.before.before.before.before.before.before.before.before.before.before.before.before.before.before.before.before.before) (lower_whole c.before.before.before.before.before.before.before.before.before.before.before.before.before.before.before.before.before.before.before)) ∙ c.if-has_further.true in
    in_heads c.requires.side_at.0.step c.least_further-rho.ensures further c.if-rho-eq0.false c.requires.chained

pub returns-else-rho-eq0 : goal.returns-else-rho-eq0
returns-else-rho-eq0 c =
    let further = sym (c.has_further.ensures (pattern c.before.before.before.before.before.before.before.before.before.before.before.before.before.before.before.before.before.before.before.before.before.before.before.before) (lower_whole c.before.before.before.before.before.before.before.before.before.before.before.before.before.before.before.before.before.before.before.before.before.before.before.before)) ∙ c.if-has_further.true in
    let joined = c.push.ensures in
    rw (joined.0, joined.1) (hands_some c.requires.side_at.0.step c.least_further-rho.ensures further c.if-rho-eq0.false
    c.requires.chained)

pub returns-else-has_further : goal.returns-else-has_further
returns-else-has_further c =
    hands_none c.requires.side_at.0.step (sym (c.has_further.ensures (pattern c.before.before.before.before.before.before.before.before.before.before.before.before.before.before.before) (lower_whole c.before.before.before.before.before.before.before.before.before.before.before.before.before.before.before)) ∙ c.if-has_further.false) c.requires.chained
