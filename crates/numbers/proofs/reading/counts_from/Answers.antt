-- `counts_from` meets its contract: each count is the number at its place.
use Rattle.numbers.specs.Numbered.{counts_from}
use Rattle.numbers.proofs.reading.counts_from.Goals as goal

pub returns : goal.returns
unfolding counts_from
returns c =
    rw (
      c.number_at-reads.ensures,
      c.number_at-u_slots.ensures,
      c.number_at-l_slots.ensures,
      c.number_at-u_subscripts.ensures,
      c.number_at-l_subscripts.ensures,
      c.number_at-entries.ensures,
      c.number_at-height.ensures,
      c.number_at-n.ensures,
    )
