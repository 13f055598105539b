-- `read` meets its contract: the text is another, or it is read.
use mathlib.Core.Bool.{Bool, true}
use mathlib.Core.List.{List}
use mathlib.Core.Path.{◌≡◌, sym, ◌∙◌}
use Prim.Native.Nat.{ℕ, ◌≤◌}
use native.Mathlib.Omega.{arith}
use Rattle.foundation.specs.Offset.{largest_offset}
use Rattle.foundation.specs.OffsetReading.{minus_read, readable, size_read}
use Rattle.foundation.proofs.OffsetTexts.{readable-small}
use Rattle.answers.specs.Offsets.{read_answer_of}
use Rattle.offsets.proofs.Words.{signed_back, signed_size}
use Rattle.offsets.proofs.Answers.{unread, sized, read-granted}
use Rattle.offsets.proofs.read.Goals as goal

-- behind the test
module _ (text : List ℕ) {test : Bool} (ensured : test ≡ readable text) (passed : test ≡ true) where
  -- the text can be read
  found : readable text ≡ true
  found = sym ensured ∙ passed

  -- and its size is at most the largest
  small : {size : ℕ} → size ≡ size_read text → size ≤ largest_offset
  small is = rw is (readable-small _ found)

pub returns-then-not-readable : goal.returns-then-not-readable
unfolding read_answer_of
returns-then-not-readable c = unread _ (sym c.readable.ensures ∙ c.if-not-readable.true)

pub bounds-text-0 : goal.bounds-text-0
bounds-text-0 c = omega (arith, sized _ (found _ c.readable.ensures c.if-not-readable.false))

pub size_read-requires : goal.size_read-requires
size_read-requires c = sized _ (found _ c.readable.ensures c.if-not-readable.false)

pub signed-whole-requires : goal.signed-whole-requires
signed-whole-requires c = small _ c.readable.ensures c.if-not-readable.false c.size_read.ensures

pub float_of-requires : goal.float_of-requires
float_of-requires c = signed_size _ _ _ c.signed-whole.ensures (small _ c.readable.ensures c.if-not-readable.false c.size_read.ensures)

pub returns : goal.returns
unfolding read_answer_of minus_read
returns c =
    let whole = signed_back _ _ _ c.signed-whole.ensures (small _ c.readable.ensures c.if-not-readable.false c.size_read.ensures) in
    read-granted _ _ _ (found _ c.readable.ensures c.if-not-readable.false) (rw (← c.size_read.ensures) whole) c.float_of.ensures
