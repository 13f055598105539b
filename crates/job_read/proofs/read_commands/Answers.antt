-- `read_commands` meets its contract.
use Rattle.std.proofs.Common.{◌≡◌, Err, rules, arith}
use Rattle.std.proofs.Math.Seq.{take-suc-set}
use Rattle.job_commands.specs.Stores.{lists_in}
use Rattle.job_read.proofs.Course.{loop_start, loop_more, loop_refused, loop_done}
use Rattle.job_read.proofs.read_commands.Goals as goal

pub loop-next-init : goal.loop-next-init
loop-next-init c =
    let start = take-suc-set c.args.stores.now.starts.now 0 0 (omega arith) in
    (loop_start c.args.job.now _ c.nothing_read-p.result c.nothing_read-p.ensures.bytes (c.nothing_read-p.ensures.value _ start), search rules)

pub loop-next-preserved : goal.loop-next-preserved
loop-next-preserved c =
    let l = c.loop-next in (
      loop_more c.args.job.now (lists_in l.stores) _ l.p l.invariant.0 c.read_next.result c.read_next.ensures.value c.in-Some.next (search rules) (search rules),
      search rules,
    )

pub returns-in_err-next-clause-answer : goal.returns-in_err-next-clause-answer
returns-in_err-next-clause-answer c =
    let l = c.loop-next in
    let passed_on : c.from_residual.result ≡ Err c.in_err-next.field-0.0 = search rules in
    rw passed_on (loop_refused c.args.job.now (lists_in l.stores) _ l.p l.invariant.0 c.read_next.result c.read_next.ensures.value _ c.in_err-next.was)

pub returns-clause-answer : goal.returns-clause-answer
returns-clause-answer c =
    let l = c.loop-next in
    loop_done c.args.job.now (lists_in l.stores) _ l.p l.invariant.0 c.read_next.result c.read_next.ensures.value (search rules)
