-- `plan_steps` meets its contract. The loop's invariant: the steps before k are done, in stores of the sizes that were lent;
-- its measure: the steps to come.
use mathlib.Core.Path.{refl, ◌∙◌}
use native.Mathlib.Omega.{arith}
use Rattle.foundation.specs.Pattern.{lent}
use Rattle.plan_gather.specs.Ready.{lent_by}
use Rattle.plan_loop.proofs.Progress.{sizes_on, steps_start, step_asks, full_lower, full_upper, steps-turn, steps_end}
use Rattle.plan_loop.proofs.steps.plan_steps.Goals as goal

pub loop-k-init : goal.loop-k-init
unfolding lent_by lent
loop-k-init c = (
  steps_start refl refl c.requires.ready c.requires.both_filled c.requires.list_len,
  refl,
  record { first = refl; second = refl; third = refl; fourth = refl; fifth = refl },
  record { first = refl; second = refl; third = refl; fourth = refl; fifth = refl },
)

pub plan_step-turned-requires : goal.plan_step-turned-requires
plan_step-turned-requires c =
    let given = step_asks c.loop-k.invariant.0 c.loop-k-test.true in record {
      step_of = given.0;
      both_filled = given.1.0;
      ends_are = given.1.1.0;
      list_len = given.1.1.1;
    }

pub returns-in-LowerFull : goal.returns-in-LowerFull
returns-in-LowerFull c = full_lower c.loop-k.invariant.0 c.loop-k-test.true (rw c.in-LowerFull.is at c.plan_step-turned.ensures)

pub returns-in-UpperFull : goal.returns-in-UpperFull
returns-in-UpperFull c = full_upper c.loop-k.invariant.0 c.loop-k-test.true (rw c.in-UpperFull.is at c.plan_step-turned.ensures)

pub overflow_add-k : goal.overflow_add-k
overflow_add-k c =
    let under = c.loop-k.invariant.0 in
    omega (arith, c.loop-k-test.true, under.ready.few, under.same_n)

pub loop-k-smaller : goal.loop-k-smaller
loop-k-smaller c = omega (arith, c.loop-k-test.true)

pub loop-k-preserved : goal.loop-k-preserved
loop-k-preserved c =
    let inv = c.loop-k.invariant in
    let on = rw c.in-On.is at c.plan_step-turned.ensures in (
      steps-turn inv.0 c.loop-k-test.true on c.plan_step-turned.auto.list
          c.plan_step-turned.auto.spare,
      c.plan_step-turned.auto.row_heads ∙ inv.1,
      sizes_on inv.2 c.plan_step-turned.auto.set_heads c.plan_step-turned.auto.set_links c.plan_step-turned.auto.l_subs
          c.plan_step-turned.auto.l_starts c.plan_step-turned.auto.l_slots,
      sizes_on inv.3 c.plan_step-turned.auto.u_subs c.plan_step-turned.auto.u_starts
          c.plan_step-turned.auto.u_slots c.plan_step-turned.auto.list
          c.plan_step-turned.auto.spare,
    )

pub returns : goal.returns
returns c = steps_end c.loop-k.invariant.0 c.loop-k-test.false
