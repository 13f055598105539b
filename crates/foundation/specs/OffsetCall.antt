-- What reading and writing an offset answer, and what they leave in their stores (document 02, Ticket 11).
use Rattle.std.specs.Prelude.{not, List, [], ◌∷◌, ℕ, eqb, ℤ, Float}
use Rattle.foundation.specs.Answer.{Answer, granted, refuse_if, and_then, result_store}
use Rattle.foundation.specs.Numbers.{plus_zero, float_of}
use Rattle.foundation.specs.Offset.{text_of}
use Rattle.foundation.specs.OffsetReading.{read_as}
use Rattle.foundation.specs.OffsetRounding.{rounded_to}

-- "Reading gives whole milliarcseconds .. and the f64 equal to it"
unfoldable pub read_offset : List ℕ → Answer (ℤ × Float)
read_offset text = and_then (read_as text) (λ w. granted (w, float_of w))

-- Reading with a store of one place for the f64: any other length is 6, step 0, judged before the text, as Ticket 8 has it of a converter's store ("else 6, checked first").
unfoldable pub read_into : ℕ → List ℕ → Answer (ℤ × Float)
read_into room text = refuse_if (not (eqb room 1)) 6 (read_offset text)

-- that store afterwards: the f64; after a refusal +0 (document 01: "Result stores are then zero throughout")
unfoldable pub read_leaves : ℕ → List ℕ → List Float
read_leaves room text = result_store plus_zero room (λ r. r.1 ∷ []) (read_into room text)

-- "14 bytes"
abbrev pub offset_bytes : ℕ
offset_bytes = 14

-- "Writing takes a finite f64 of milliarcseconds": into a store, by its length; any other than 14 is 6, step 0, judged before the float. What is granted is the whole number that
-- is written.
unfoldable pub write_offset : ℕ → Float → Answer ℤ
write_offset room x = refuse_if (not (eqb room offset_bytes)) 6 (rounded_to x)

-- the store afterwards: the text; after a refusal zeros (document 01: "Result stores are then zero throughout")
unfoldable pub write_leaves : ℕ → Float → List ℕ
write_leaves room x = result_store 0 room text_of (write_offset room x)
