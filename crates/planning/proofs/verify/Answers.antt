-- `verify` meets its contract: a lent plan is verified, and the work stores are cleared. Assumes nothing.
use Rattle.planning.proofs.Calling.{work_left}
use Rattle.planning.proofs.verify.Goals as goal

pub returns : goal.returns
returns c =
    let v = c.judge_and_verify-answer in
    record {
      answer = v.ensures;
      work = work_left (record {
        first = v.auto.row_heads;
        second = v.auto.row_links;
        third = v.auto.set_heads;
      }) (record {
        first = v.auto.set_links;
        second = v.auto.list;
        third = v.auto.spare;
      }) c.clear_work.ensures;
    }
