-- `step_reads` meets its contract: each step may be counted, and its count is that of its two lists.
use borrow.Author.Rules.{rules}
use Rattle.store_lists.specs.Chains.{both_spans}
use Rattle.store_lists.proofs.Chaining.{linked_above, total_member}
use Rattle.store_lists.proofs.chains.step_reads.Goals as goal

pub total_over-requires : goal.total_over-requires
total_over-requires c =
    let (steps, w) = c.requires in (
      both_spans c.args.lowers.now c.args.uppers.now,
      steps,
      record {
        sized = record { linked = w.linked; gives = λ l r m p. search rules };
        callable = λ l m.
            let fits = total_member (both_spans c.args.lowers.now c.args.uppers.now) l steps m in
            let small = w.small in
            let some = linked_above _ _ steps w.linked l m in
            let inside = w.inside l m in
            let rising = w.rising l m in
            search rules;
        small = w.small;
      },
    )

pub returns : goal.returns
returns c = λ steps h. c.total_over.ensures _ steps (record { linked = h; gives = λ l r m p. search rules })
