-- What reading and writing an offset answer, by document 02's numbers and values.
use Rattle.std.specs.Prelude.{ℤ, Float}
use Rattle.foundation.specs.Answer.{Answer, refused, granted}
use Rattle.answers.specs.declared.ReadAnswer.{ReadAnswer}
use Rattle.answers.specs.declared.ReadAnswer.TheVariants.{Whole, OtherText}
use Rattle.answers.specs.declared.WriteAnswer.{WriteAnswer}
use Rattle.answers.specs.declared.WriteAnswer.TheVariants.{Written, Stores, Beyond}

-- Document 02, Ticket 11: "Any other text, minus zero included, is 28"; its step is 0.
unfoldable pub read_answer_of : ReadAnswer → Answer (ℤ × Float)
read_answer_of (Whole w x) = granted (w, x)
read_answer_of OtherText = refused 28 0

-- "a float that is not finite or rounds beyond the largest is 29"; a store of another length is 6; the step of both is 0
unfoldable pub write_answer_of : WriteAnswer → Answer ℤ
write_answer_of (Written w) = granted w
write_answer_of Stores = refused 6 0
write_answer_of Beyond = refused 29 0
