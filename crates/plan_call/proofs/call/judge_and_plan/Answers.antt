-- `judge_and_plan` meets its contract: the judgement, the lengths and the steps answer in the table's order, and a plan that is answered
-- stands in its stores. Assumes nothing.
use borrow.Author.Tests.{not-true, not-false}
use Rattle.plan_pattern.proofs.Faults.{fault_range}
use Rattle.plan_gather.proofs.Passing.{fault-few, fault_place}
use Rattle.plan_call.proofs.Answering.{refuse_fault, refuse_lengths, sizes, last_inside, rows_ask, steps_ask, steps_end}
use Rattle.plan_call.proofs.call.judge_and_plan.Goals as goal

pub refusal_of-requires : goal.refusal_of-requires
refusal_of-requires c = fault_range _ _ _ _ _ _ c.pattern_fault-fault.ensures c.if-fault-ne0.true

pub returns-then-fault-ne0 : goal.returns-then-fault-ne0
returns-then-fault-ne0 c =
    let a = c.args in record {
      answer = refuse_fault _ _ _ _ _ _ c.pattern_fault-fault.ensures
          a.l_subs.now a.l_starts.now a.l_slots.now a.u_subs.now a.u_starts.now a.u_slots.now
          a.row_heads.now a.row_links.now a.set_heads.now a.set_links.now a.list.now a.spare.now
          _ c.if-fault-ne0.true c.refusal_of.ensures;
      stores = tt;
    }

pub lengths_fit-requires : goal.lengths_fit-requires
lengths_fit-requires c = fault-few _ _ _ _ _ _ c.pattern_fault-fault.ensures c.if-fault-ne0.false

pub returns-then-not-lengths_fit : goal.returns-then-not-lengths_fit
returns-then-not-lengths_fit c =
    let a = c.args in record {
      answer = refuse_lengths _ _ _ _ _ _ c.pattern_fault-fault.ensures
          a.l_subs.now a.l_starts.now a.l_slots.now a.u_subs.now a.u_starts.now a.u_slots.now
          a.row_heads.now a.row_links.now a.set_heads.now a.set_links.now a.list.now a.spare.now
          _ c.lengths_fit.ensures c.if-fault-ne0.false (not-true _ c.if-not-lengths_fit.true-raw);
      stores = tt;
    }

pub chain_rows-requires : goal.chain_rows-requires
chain_rows-requires c =
    let a = c.args in let given = rows_ask _ _ _ _ _ _ c.pattern_fault-fault.ensures
    a.l_subs.now a.l_starts.now a.l_slots.now a.u_subs.now a.u_starts.now a.u_slots.now
    a.row_heads.now a.row_links.now a.set_heads.now a.set_links.now a.list.now a.spare.now
    _ c.lengths_fit.ensures c.if-fault-ne0.false (not-false _ c.if-not-lengths_fit.false-raw) in record {
      ready = given.0;
      heads_len = given.1;
    }

pub plan_steps-ended-requires : goal.plan_steps-ended-requires
plan_steps-ended-requires c =
    let a = c.args in let given = steps_ask _ _ _ _ _ _ c.pattern_fault-fault.ensures
    a.l_subs.now a.l_starts.now a.l_slots.now a.u_subs.now a.u_starts.now a.u_slots.now
    a.row_heads.now a.row_links.now a.set_heads.now a.set_links.now a.list.now a.spare.now
    _ c.lengths_fit.ensures c.if-fault-ne0.false (not-false _ c.if-not-lengths_fit.false-raw)
    c.clear_side.ensures c.clear_side-2.ensures c.chain_rows.ensures c.clear_chains.ensures in record {
      ready = given.0;
      both_filled = given.1.0;
      list_len = given.1.1;
    }

pub offset_bounds-l_slots-n : goal.offset_bounds-l_slots-n
offset_bounds-l_slots-n c = fault_place _ _ _ _ _ _ c.pattern_fault-fault.ensures c.if-fault-ne0.false

pub bounds-l_slots-n : goal.bounds-l_slots-n
bounds-l_slots-n c =
    let a = c.args in
    let fit = sizes _ _ _ _ _ _ c.pattern_fault-fault.ensures
    a.l_subs.now a.l_starts.now a.l_slots.now a.u_subs.now a.u_starts.now a.u_slots.now
    a.row_heads.now a.row_links.now a.set_heads.now a.set_links.now a.list.now a.spare.now
    _ c.lengths_fit.ensures c.if-fault-ne0.false (not-false _ c.if-not-lengths_fit.false-raw) in
    last_inside fit.l_slots_lem c.clear_side.auto.slots c.plan_steps-ended.auto.l_slots

pub offset_bounds-u_slots-n : goal.offset_bounds-u_slots-n
offset_bounds-u_slots-n c = fault_place _ _ _ _ _ _ c.pattern_fault-fault.ensures c.if-fault-ne0.false

pub bounds-u_slots-n : goal.bounds-u_slots-n
bounds-u_slots-n c =
    let a = c.args in
    let fit = sizes _ _ _ _ _ _ c.pattern_fault-fault.ensures
    a.l_subs.now a.l_starts.now a.l_slots.now a.u_subs.now a.u_starts.now a.u_slots.now
    a.row_heads.now a.row_links.now a.set_heads.now a.set_links.now a.list.now a.spare.now
    _ c.lengths_fit.ensures c.if-fault-ne0.false (not-false _ c.if-not-lengths_fit.false-raw) in
    last_inside fit.u_slots_lem c.clear_side-2.auto.slots c.plan_steps-ended.auto.u_slots

pub returns : goal.returns
returns c =
    let a = c.args in
    let s = c.plan_steps-ended in let given = steps_end _ _ _ _ _ _ c.pattern_fault-fault.ensures
    a.l_subs.now a.l_starts.now a.l_slots.now a.u_subs.now a.u_starts.now a.u_slots.now
    a.row_heads.now a.row_links.now a.set_heads.now a.set_links.now a.list.now a.spare.now
    _ c.lengths_fit.ensures c.if-fault-ne0.false (not-false _ c.if-not-lengths_fit.false-raw)
    s.result c.answer_of.result _ _ s.new.l_subs s.new.l_starts s.new.l_slots
    s.new.u_subs s.new.u_starts s.new.u_slots
    c.clear_side.auto.subs c.clear_side-2.auto.subs s.ensures c.answer_of.ensures in record {
      answer = given.0;
      stores = given.1;
    }
