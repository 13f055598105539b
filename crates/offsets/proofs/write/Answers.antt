-- `write` meets its contract: another length, a text, or beyond the largest.
use Rattle.answers.specs.Offsets.{write_answer_of}
use Rattle.offset_round.specs.Sizes.{rounding_of}
use Rattle.offsets.proofs.Words.{signed_back}
use Rattle.offsets.proofs.Answers.{other_length, beyond, written}
use Rattle.offsets.proofs.write.Goals as goal

pub text_with-text-requires : goal.text_with-text-requires
text_with-text-requires c = c.in-To.ensures.1.1

pub signed-requires : goal.signed-requires
signed-requires c = c.in-To.ensures.1.1

pub returns-in-To : goal.returns-in-To
unfolding write_answer_of rounding_of
returns-in-To c =
    let r = c.in-To.ensures in
    written _ _ _ c.if-out-ne-BYTES.false _ _ _ _ r.0 r.1 (signed_back _ _ _ c.signed.ensures r.1.1)
    c.text_with-text.ensures c.put_bytes-in-To.ensures

pub returns-in-Beyond : goal.returns-in-Beyond
unfolding write_answer_of rounding_of
returns-in-Beyond c =
    beyond _ _ _ c.if-out-ne-BYTES.false c.in-Beyond.ensures.0
    c.put_bytes-in-Beyond.ensures

-- behind the others, so that of a wrong test of the length the log first shows what it lets pass
pub returns-then-out-ne-BYTES : goal.returns-then-out-ne-BYTES
unfolding write_answer_of
returns-then-out-ne-BYTES c = other_length _ _ _ c.if-out-ne-BYTES.true c.put_bytes.ensures
