-- `row_reads` meets its contract: each row may be counted, and its count is its span.
use borrow.Author.Rules.{rules}
use Rattle.lists.specs.Functions.{span}
use Rattle.store_lists.proofs.Chaining.{linked_above}
use Rattle.store_lists.proofs.chains.row_reads.Goals as goal

pub total_over-requires : goal.total_over-requires
total_over-requires c =
    let (rows, w) = c.requires in (
      span c.args.starts.now,
      rows,
      record {
        sized = record { linked = w.linked; gives = λ i r m p. search rules };
        callable = λ i m. let some = linked_above _ _ rows w.linked i m in let inside = w.inside i m in search rules;
        small = w.small;
      },
    )

pub returns : goal.returns
returns c = λ rows h. c.total_over.ensures _ rows (record { linked = h; gives = λ i r m p. search rules })
