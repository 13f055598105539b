-- `rounded` meets its contract: below zero and not, within the limit and beyond.
use Rattle.std.proofs.Common.{sym}
use Rattle.offset_round.specs.Sizes.{rounding_of}
use Rattle.offset_round.proofs.Signs.{sign_told, plus_told, plus_rounds, plus_beyond, minus_small, minus_rounds, minus_beyond}
use Rattle.offset_round.proofs.rounded.Goals as goal

pub nearest-size-requires : goal.nearest-size-requires
nearest-size-requires c = minus_small c.args.value c.if-value.true c.if-magnitude.true

pub returns-then-magnitude : goal.returns-then-magnitude
unfolding rounding_of
returns-then-magnitude c =
    let n = c.nearest-size.ensures in (
      sym (minus_rounds c.args.value _ c.if-value.true c.if-magnitude.true n.0),
      ((sign_told c.nearest-size.result).1, n.1),
    )

pub returns-then-value : goal.returns-then-value
unfolding rounding_of
returns-then-value c = (sym (minus_beyond c.args.value c.if-value.true c.if-magnitude.false), tt)

pub nearest-requires : goal.nearest-requires
nearest-requires c = record { not_below = c.if-value.false; under = c.if-value-2.true }

pub returns-then-value-2 : goal.returns-then-value-2
unfolding rounding_of
returns-then-value-2 c =
    let n = c.nearest.ensures in (
      sym (plus_rounds c.args.value _ (record { not_below = c.if-value.false; under = c.if-value-2.true }) n.0),
      (plus_told c.nearest.result, n.1),
    )

pub returns : goal.returns
unfolding rounding_of
returns c = (sym (plus_beyond c.args.value c.if-value.false c.if-value-2.false), tt)
