-- What adding to the tally answers, by the documents' numbers and values.
use Rattle.std.specs.Prelude.{ℕ}
use Rattle.foundation.specs.Answer.{Answer, refused, granted}
use Rattle.tally.specs.declared.TallyAnswer.{TallyAnswer}
use Rattle.tally.specs.declared.TallyAnswer.TheVariants.{Sum, NoMember, Full}

-- Document 02, Ticket 10: "a member number outside 1 to 16 is 27"; document 01, "Where each refusal is checked", 19: "the sum would pass 4,294,967,295". Their step is 0.
unfoldable pub tally_answer_of : TallyAnswer → Answer ℕ
tally_answer_of (Sum sum) = granted sum
tally_answer_of NoMember = refused 27 0
tally_answer_of Full = refused 19 0

-- what one counter holds after its answer: a refusal leaves it as it was
unfoldable pub kept_sum : ℕ → Answer ℕ → ℕ
kept_sum sum (refused number step) = sum
kept_sum sum (granted new) = new
