-- What loading answers, by the documents' numbers and values.
use Rattle.std.specs.Prelude.{ℕ}
use Rattle.foundation.specs.Answer.{Answer, refused, granted}
use Rattle.answers.specs.declared.LoadAnswer.{LoadAnswer}
use Rattle.answers.specs.declared.LoadAnswer.TheVariants.{Entries, Limits, NoDivisor, Stores}

-- Document 02, Ticket 6: "A load that would pass 16,384 entries is 1. An n of 0 or above 1,024 is 1 as well, and d of 0 is 23, checked next, before 6". Their step is 0.
unfoldable pub load_answer_of : LoadAnswer → Answer ℕ
load_answer_of (Entries count) = granted count
load_answer_of Limits = refused 1 0
load_answer_of NoDivisor = refused 23 0
load_answer_of Stores = refused 6 0
