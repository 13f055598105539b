-- `verify_steps` meets its contract. The loop's invariant: the lent stores contain the steps before k; its measure: the steps to
-- come. Assumes nothing.
use mathlib.Core.Path.{refl}
use native.Mathlib.Omega.{arith}
use Rattle.foundation.specs.Pattern.{lent}
use Rattle.plan_gather.specs.Ready.{lent_by}
use Rattle.verify_loop.proofs.Progress.{verify_start, first_lower, first_upper, verify_differs_later, verify_step_asks, verify_turn}
use Rattle.verify_loop.proofs.Progress.{verify_end}
use Rattle.verify_loop.proofs.steps.verify_steps.Goals as goal

pub bounds-l_slots-0 : goal.bounds-l_slots-0
bounds-l_slots-0 c = omega (arith, c.requires.l_starts_len.1)

pub returns-then-l_slots-ne0 : goal.returns-then-l_slots-ne0
returns-then-l_slots-ne0 c = first_lower c.if-l_slots-ne0.true

pub bounds-u_slots-0 : goal.bounds-u_slots-0
bounds-u_slots-0 c = omega (arith, c.requires.l_starts_len.3)

pub returns-then-u_slots-ne0 : goal.returns-then-u_slots-ne0
returns-then-u_slots-ne0 c = first_upper c.if-u_slots-ne0.true

pub loop-k-init : goal.loop-k-init
unfolding lent_by lent
loop-k-init c = verify_start refl refl c.requires.ready c.requires.l_starts_len c.if-l_slots-ne0.false c.if-u_slots-ne0.false

pub verify_step-turned-requires : goal.verify_step-turned-requires
verify_step-turned-requires c =
    let given = verify_step_asks c.loop-k.invariant c.loop-k-test.true in record {
      step_of = given.0;
      both_contain = given.1.0;
      ends_are = given.1.1.0;
      list_len = given.1.1.1;
    }

pub returns-in-Differs : goal.returns-in-Differs
returns-in-Differs c = verify_differs_later c.loop-k-test.true (rw c.in-Differs.is at c.verify_step-turned.ensures)

pub overflow_add-k : goal.overflow_add-k
overflow_add-k c =
    let under = c.loop-k.invariant in
    omega (arith, c.loop-k-test.true, under.ready.few, under.same_n)

pub loop-k-smaller : goal.loop-k-smaller
loop-k-smaller c = omega (arith, c.loop-k-test.true)

pub loop-k-preserved : goal.loop-k-preserved
loop-k-preserved c =
    let on = rw c.in-Agrees.is at c.verify_step-turned.ensures in
    verify_turn c.loop-k.invariant c.loop-k-test.true on c.verify_step-turned.auto.list
    c.verify_step-turned.auto.spare

pub returns : goal.returns
returns c = verify_end c.loop-k.invariant c.loop-k-test.false
