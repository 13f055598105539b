-- `judge_and_verify` meets its contract: the judgement, the lengths, the steps and the counts answer in the table's order, by laws of
-- `Answering`. Assumes nothing.
use mathlib.Core.Path.{refl}
use borrow.Author.Tests.{not-true, not-false}
use Rattle.plan_pattern.proofs.Faults.{fault_range}
use Rattle.plan_gather.proofs.Passing.{fault-few, fault_place}
use Rattle.verify_call.proofs.Answering.{verify_fault, verify_sizes, verify_rows_ask, verify_steps_ask, verify_places, verify_differs, verify_miscounts}
use Rattle.verify_call.proofs.Answering.{verify_agrees}
use Rattle.verify_call.proofs.call.judge_and_verify.Goals as goal

pub refusal_of-requires : goal.refusal_of-requires
refusal_of-requires c = fault_range _ _ _ _ _ _ c.pattern_fault-fault.ensures c.if-fault-ne0.true

pub returns-then-fault-ne0 : goal.returns-then-fault-ne0
returns-then-fault-ne0 c =
    let a = c.args in
    verify_fault a.most a.n a.height a.starts.now a.columns.now a.counts a.l_subs.now a.l_starts.now a.l_slots.now
    a.u_subs.now
    a.u_starts.now a.u_slots.now
    a.row_heads.now a.row_links.now a.set_heads.now a.set_links.now a.list.now a.spare.now
    _ _ c.pattern_fault-fault.ensures c.if-fault-ne0.true c.refusal_of.ensures

pub lengths_fit-requires : goal.lengths_fit-requires
lengths_fit-requires c = fault-few _ _ _ _ _ _ c.pattern_fault-fault.ensures c.if-fault-ne0.false

pub returns-then-not-lengths_fit : goal.returns-then-not-lengths_fit
returns-then-not-lengths_fit c =
    let a = c.args in
    verify_sizes a.most a.n a.height a.starts.now a.columns.now a.counts a.l_subs.now a.l_starts.now a.l_slots.now
    a.u_subs.now
    a.u_starts.now a.u_slots.now
    a.row_heads.now a.row_links.now a.set_heads.now a.set_links.now a.list.now a.spare.now
    _ c.pattern_fault-fault.ensures c.if-fault-ne0.false _ c.lengths_fit.ensures (not-true _ c.if-not-lengths_fit.true-raw)

pub chain_rows-requires : goal.chain_rows-requires
chain_rows-requires c =
    let a = c.args in let given = verify_rows_ask a.most a.n a.height a.starts.now a.columns.now a.counts a.l_subs.now a.l_starts.now a.l_slots.now
    a.u_subs.now
    a.u_starts.now a.u_slots.now
    a.row_heads.now a.row_links.now a.set_heads.now a.set_links.now a.list.now a.spare.now
    _ c.pattern_fault-fault.ensures c.if-fault-ne0.false _ c.lengths_fit.ensures
    (not-false _ c.if-not-lengths_fit.false-raw) in record {
      ready = given.0;
      heads_len = given.1;
    }

pub verify_steps-ended-requires : goal.verify_steps-ended-requires
verify_steps-ended-requires c =
    let a = c.args in let given = verify_steps_ask a.most a.n a.height a.starts.now a.columns.now a.counts a.l_subs.now a.l_starts.now a.l_slots.now
    a.u_subs.now
    a.u_starts.now a.u_slots.now
    a.row_heads.now a.row_links.now a.set_heads.now a.set_links.now a.list.now a.spare.now
    _ c.pattern_fault-fault.ensures c.if-fault-ne0.false _ c.lengths_fit.ensures
    (not-false _ c.if-not-lengths_fit.false-raw) c.chain_rows.ensures c.clear_chains.ensures in record {
      ready = given.0;
      l_starts_len = given.1;
    }

pub returns-in_default : goal.returns-in_default
returns-in_default c =
    let a = c.args in
    verify_differs a.most a.n a.height a.starts.now a.columns.now a.counts a.l_subs.now a.l_starts.now a.l_slots.now
    a.u_subs.now
    a.u_starts.now a.u_slots.now
    a.row_heads.now a.row_links.now a.set_heads.now a.set_links.now a.list.now a.spare.now
    _ c.pattern_fault-fault.ensures c.if-fault-ne0.false _ c.lengths_fit.ensures
    (not-false _ c.if-not-lengths_fit.false-raw) (rw c.in_default.is at c.verify_steps-ended.ensures)

pub offset_bounds-l_slots-n : goal.offset_bounds-l_slots-n
offset_bounds-l_slots-n c = fault_place _ _ _ _ _ _ c.pattern_fault-fault.ensures c.if-fault-ne0.false

pub bounds-l_slots-n : goal.bounds-l_slots-n
bounds-l_slots-n c =
    let a = c.args in
    (verify_places a.most a.n a.height a.starts.now a.columns.now a.counts a.l_subs.now a.l_starts.now a.l_slots.now
    a.u_subs.now
    a.u_starts.now a.u_slots.now
    a.row_heads.now a.row_links.now a.set_heads.now a.set_links.now a.list.now a.spare.now
    _ c.pattern_fault-fault.ensures c.if-fault-ne0.false _ c.lengths_fit.ensures
    (not-false _ c.if-not-lengths_fit.false-raw)).0

pub offset_bounds-u_slots-n : goal.offset_bounds-u_slots-n
offset_bounds-u_slots-n c = fault_place _ _ _ _ _ _ c.pattern_fault-fault.ensures c.if-fault-ne0.false

pub bounds-u_slots-n : goal.bounds-u_slots-n
bounds-u_slots-n c =
    let a = c.args in
    (verify_places a.most a.n a.height a.starts.now a.columns.now a.counts a.l_subs.now a.l_starts.now a.l_slots.now
    a.u_subs.now
    a.u_starts.now a.u_slots.now
    a.row_heads.now a.row_links.now a.set_heads.now a.set_links.now a.list.now a.spare.now
    _ c.pattern_fault-fault.ensures c.if-fault-ne0.false _ c.lengths_fit.ensures
    (not-false _ c.if-not-lengths_fit.false-raw)).1

pub returns-then-not-same_counts : goal.returns-then-not-same_counts
returns-then-not-same_counts c =
    let a = c.args in
    verify_miscounts a.most a.n a.height a.starts.now a.columns.now a.counts a.l_subs.now a.l_starts.now a.l_slots.now
    a.u_subs.now
    a.u_starts.now a.u_slots.now
    a.row_heads.now a.row_links.now a.set_heads.now a.set_links.now a.list.now a.spare.now
    _ c.pattern_fault-fault.ensures c.if-fault-ne0.false _ c.lengths_fit.ensures
    (not-false _ c.if-not-lengths_fit.false-raw) _ _ _ _ (rw c.in-Agrees.is at c.verify_steps-ended.ensures) refl _
    c.same_counts.ensures (not-true _ c.if-not-same_counts.true-raw)

pub returns : goal.returns
returns c =
    let a = c.args in
    verify_agrees a.most a.n a.height a.starts.now a.columns.now a.counts a.l_subs.now a.l_starts.now a.l_slots.now
    a.u_subs.now
    a.u_starts.now a.u_slots.now
    a.row_heads.now a.row_links.now a.set_heads.now a.set_links.now a.list.now a.spare.now
    _ c.pattern_fault-fault.ensures c.if-fault-ne0.false _ c.lengths_fit.ensures
    (not-false _ c.if-not-lengths_fit.false-raw) _ _ _ _ (rw c.in-Agrees.is at c.verify_steps-ended.ensures) refl _
    c.same_counts.ensures (not-false _ c.if-not-same_counts.false-raw)
