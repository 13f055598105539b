-- `dalumiveth_read_offset` meets its contract: another length, a text that was read, another text.
use Rattle.answers.specs.Offsets.{read_answer_of}
use Rattle.numbers.proofs.Signed.{told_back}
use Rattle.dalumiveth.proofs.Telling.{read-without_place, read-refused, read_told}
use Rattle.dalumiveth.proofs.offset_read.dalumiveth_read_offset.Goals as goal

pub returns-in-Whole : goal.returns-in-Whole
unfolding read_answer_of
returns-in-Whole c =
    let w = c.in-Whole.whole in
    read_told _ _ _ _ _ _ c.if-value-ne1.false w _ (rw c.in-Whole.is at c.read.ensures)
    (c.fill-in-Whole.ensures.after (λ y e. e)) (told_back w (record { sfits = c.in-Whole.known_told-1-own.given.0.1 }) _ _ _
    (c.tell_offset.ensures.returned, c.tell_offset.ensures.numbers))

pub returns-in-OtherText : goal.returns-in-OtherText
unfolding read_answer_of
returns-in-OtherText c =
    read-refused _ _ _ _ _ _ c.if-value-ne1.false (rw c.in-OtherText.is at c.read.ensures)
    (c.fill-in-OtherText.ensures.after (λ y e. e)) (c.put_refusal-in-OtherText.ensures.returned, c.put_refusal-in-OtherText.ensures.numbers)

-- behind the others, so that of a wrong test of the length the log first shows what it lets pass
pub returns-then-value-ne1 : goal.returns-then-value-ne1
returns-then-value-ne1 c = read-without_place _ _ _ _ _ _ c.if-value-ne1.true (c.fill.ensures.after (λ y e. e)) (c.put_refusal.ensures.returned, c.put_refusal.ensures.numbers)
