-- `run` meets its contract: planning answers, then the run. Assumes nothing.
use mathlib.Core.List.{List}
use Prim.Native.Nat.{ℕ}
use lib.Ieee.{Float}
use Rattle.foundation.specs.Pattern.{Lent, lent}
use Rattle.foundation.specs.PlanCall.{LentPlan}
use Rattle.foundation.specs.Reference.{Choice, Extent}
use Rattle.foundation.specs.RunCall.{RunStores}
use Rattle.answers.specs.Runs.{chosen_by, extent_of}
use Rattle.answers.specs.RunStores.{lending_of, run_stores}
use Rattle.answers.specs.Stores.{WorkStores, work_sizes, work_stores, plan_stores, lent_plan}
use Rattle.answers.specs.declared.RunAnswer.{RunAnswer}
use Rattle.answers.specs.declared.VerifyAnswer.{VerifyAnswer}
use Rattle.planning.specs.Calls.{VerifyKept}
use Rattle.run_call.specs.Calling.{Inputs, inputs, Given, RunLeft}
use Rattle.elimination.specs.Calls.{run_work, RunKept}
use Rattle.elimination.proofs.run.Goals as goal
use Rattle.elimination.proofs.run.Lts as lts
use Rattle.elimination.proofs.run.Reads as reads
use Rattle.elimination.proofs.run.Tie as tie

abbrev Start : Type 0
Start = lts.Start tie.the-claims reads.Pre reads.Post

-- What is lent, and what is asked of the run, as they stand at the start. The laws below speak of the start alone: at a need, each store is a path of sixty
-- places, and a law that has to write those out takes seconds.
abbrev pattern : Start → Lent
pattern s = lent s.args.n s.args.height s.args.starts.now s.args.columns.now

abbrev plan-lent : Start → LentPlan
plan-lent s =
    lent_plan s.args.counts (plan_stores s.args.l_subs.now s.args.l_starts.now s.args.l_slots.now s.args.u_subs.now
    s.args.u_starts.now s.args.u_slots.now)

abbrev scratch : Start → WorkStores
scratch s =
    work_stores s.args.row_heads.now s.args.row_links.now s.args.set_heads.now s.args.set_links.now s.args.list.now
    s.args.spare.now

abbrev asked : Start → Inputs
asked s =
    inputs (pattern s) (plan-lent s) s.args.values.now s.args.right.now (chosen_by s.args.choice s.args.rows.now) (extent_of s.args.extent)

abbrev results : Start → RunStores
results s = run_stores s.args.l.now s.args.u.now s.args.d.now s.args.x.now s.args.pivots.now

-- planning has answered, whatever else the run is given
given : (s : Start) (values right : List Float) (choice : Choice) (extent : Extent) (verified : VerifyAnswer) (scratch' : WorkStores)
    → VerifyKept verified s.args.most (pattern s) (plan-lent s) (scratch s) scratch'
    → Given verified (record { p = pattern s; q = plan-lent s; values = values; right = right; choice = choice; extent = extent })
given s values right choice extent verified scratch' kept = record { most = s.args.most; work = work_sizes (scratch s); answered = kept.answer }

-- and the run has
kept : (s : Start) (verified : VerifyAnswer) (r : RunAnswer) (l u d x copy dense : List Float) (pivots row_heads_lem row_links_lem set_heads_lem set_links_lem list spare :
    List ℕ)
    → VerifyKept verified s.args.most (pattern s) (plan-lent s) (scratch s) (work_stores row_heads_lem row_links_lem set_heads_lem set_links_lem list spare)
    → ((w : Given verified (asked s))
    → RunLeft r verified (asked s) w (results s) s.args.copy.now s.args.dense.now (run_stores l u d x pivots) copy dense)
    → RunKept r s.args.most (pattern s) (plan-lent s) (chosen_by s.args.choice s.args.rows.now) (extent_of s.args.extent)
    (lending_of s.args.values.now s.args.right.now s.args.l.now s.args.u.now s.args.d.now s.args.x.now s.args.pivots.now)
    (run_stores l u d x pivots)
    (run_work s.args.row_heads.now s.args.row_links.now s.args.set_heads.now s.args.set_links.now s.args.list.now s.args.spare.now
    s.args.copy.now s.args.dense.now)
    (run_work row_heads_lem row_links_lem set_heads_lem set_links_lem list spare copy dense)
unfolding given
kept s verified r l u d x copy dense pivots row_heads_lem row_links_lem set_heads_lem set_links_lem list spare verify-kept run_left =
    let left = run_left (given s s.args.values.now s.args.right.now (chosen_by s.args.choice s.args.rows.now) (extent_of s.args.extent)
    verified (work_stores row_heads_lem row_links_lem set_heads_lem set_links_lem list spare) verify-kept) in
    record {
      answer = left.answer;
      results = left.results_left;
      work = record { planning_left = verify-kept.work; copy_left = left.copy_left; dense_left = left.dense_left };
    }

pub run_verified-requires : goal.run_verified-requires
run_verified-requires c =
    given c.before.before.before.before.before.before.before.before.before.before.before.before.before.before.before.before.before.before.before.before.before.before.before.before.before.before.before.before.before.before.before.before.before.before.before.before.before.before.before.before.before.before.before.before.before.before.before.before.before.before.before _ _ _ _ _ _ c.verify-verified.ensures

pub returns : goal.returns
returns c =
    kept c.before.before.before.before.before.before.before.before.before.before.before.before.before.before.before.before.before.before.before.before.before.before.before.before.before.before.before.before.before.before.before.before.before.before.before.before.before.before.before.before.before.before.before.before.before.before.before.before.before.before.before.before.before.before.before.before.before.before.before.before.before.before.before.before.before.before _ _ _ _ _ _ _ _ _ _ _ _ _ _ _ c.verify-verified.ensures c.run_verified.ensures
