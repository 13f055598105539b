-- `plan` meets its contract: a plan is made or refused, the work stores are cleared, and after a refusal the stores of the plan too. Assumes
-- nothing.
use Rattle.answers.specs.Stores.{work_stores}
use Rattle.planning.proofs.Calling.{work_left, call-refused, call-planned}
use Rattle.planning.proofs.plan.Goals as goal

pub returns-in-Refused : goal.returns-in-Refused
returns-in-Refused c =
    let a = c.args in
    let p = c.judge_and_plan-answer in
    let w = c.clear_work in
    let l = c.clear_side in
    let u = c.clear_side-in-Refused in
    call-refused a.most a.n a.height a.starts.now a.columns.now
    a.l_subs.now a.l_starts.now a.l_slots.now a.u_subs.now a.u_starts.now a.u_slots.now
    (work_stores a.row_heads.now a.row_links.now a.set_heads.now a.set_links.now a.list.now a.spare.now)
    (work_stores w.new.row_heads w.new.row_links w.new.set_heads w.new.set_links w.new.list w.new.spare)
    p.result p.ensures.answer (work_left (record {
      first = p.auto.row_heads;
      second = p.auto.row_links;
      third = p.auto.set_heads;
    }) (record {
      first = p.auto.set_links;
      second = p.auto.list;
      third = p.auto.spare;
    }) w.ensures)
    p.new.l_subs p.new.l_starts p.new.l_slots p.new.u_subs p.new.u_starts
    p.new.u_slots
    (record { first = p.auto.l_subs; second = p.auto.l_starts; third = p.auto.l_slots })
    (record { first = p.auto.u_subs; second = p.auto.u_starts; third = p.auto.u_slots })
    _ l.new.subs l.new.starts l.new.slots u.new.subs u.new.starts u.new.slots c.in-Refused.is l.ensures u.ensures

pub returns : goal.returns
returns c =
    let a = c.args in
    let p = c.judge_and_plan-answer in
    let w = c.clear_work in
    call-planned a.most a.n a.height a.starts.now a.columns.now
    a.l_subs.now a.l_starts.now a.l_slots.now a.u_subs.now a.u_starts.now a.u_slots.now
    (work_stores a.row_heads.now a.row_links.now a.set_heads.now a.set_links.now a.list.now a.spare.now)
    (work_stores w.new.row_heads w.new.row_links w.new.set_heads w.new.set_links w.new.list w.new.spare)
    p.result p.ensures.answer (work_left (record {
      first = p.auto.row_heads;
      second = p.auto.row_links;
      third = p.auto.set_heads;
    }) (record {
      first = p.auto.set_links;
      second = p.auto.list;
      third = p.auto.spare;
    }) w.ensures)
    p.new.l_subs p.new.l_starts p.new.l_slots p.new.u_subs p.new.u_starts
    p.new.u_slots
    (record { first = p.auto.l_subs; second = p.auto.l_starts; third = p.auto.l_slots })
    (record { first = p.auto.u_subs; second = p.auto.u_starts; third = p.auto.u_slots })
    _ c.in_default.is p.ensures.stores
