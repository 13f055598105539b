-- `readable` meets its contract, test by test. The form in the code is the form (`unfolding form ascii`).
use Rattle.std.proofs.Common.{◌≡◌, ℕ, Bool, true, List, length, sym, ◌∙◌, arith, ne_eqb, eq-eqb}
use Rattle.foundation.specs.Text.{ascii}
use Rattle.foundation.specs.OffsetReading.{form, has_form, minus_read, readable}
use Rattle.foundation.proofs.OffsetTexts.{form-sized}
use Rattle.offset_text.proofs.reading.readable.Goals as goal
use Rattle.offset_text.proofs.reading.readable.Goals.{then-not-has_form-via-then-not-has_form, then-not-has_form-via-else-not-has_form+then-not-in_range}

-- behind the test of the form
sized : (text : List ℕ) {test : Bool} → test ≡ has_form form text → test ≡ true → length text ≡ 14
sized text ensured passed = form-sized text (sym ensured ∙ passed)

pub in_range-requires : goal.in_range-requires
unfolding form ascii
in_range-requires c = sized _ c.has_form.ensures c.if-not-has_form.false

pub returns-then-not-has_form : goal.returns-then-not-has_form
unfolding readable form ascii
returns-then-not-has_form c =
    elim c.then-not-has_form.branch [
      | then-not-has_form-via-then-not-has_form w ↦ rw (sym c.has_form.ensures ∙ w.if-not-has_form.true)
      | then-not-has_form-via-else-not-has_form+then-not-in_range w ↦ rw (sym c.has_form.ensures ∙ w.if-not-has_form.false, sym w.in_range.ensures ∙ w.if-not-in_range.true)
    ]

pub bounds-text-0 : goal.bounds-text-0
unfolding form ascii
bounds-text-0 c = omega (arith, sized _ c.has_form.ensures c.if-not-has_form.false)

pub size_read-requires : goal.size_read-requires
unfolding form ascii
size_read-requires c = sized _ c.has_form.ensures c.if-not-has_form.false

pub returns-then-text-ne45 : goal.returns-then-text-ne45
unfolding readable minus_read form ascii
returns-then-text-ne45 c = rw (← c.has_form.ensures, ← c.in_range.ensures, c.if-not-has_form.false, c.if-not-in_range.false, ne_eqb _ 45 c.if-text-ne45.true)

pub returns-else-text-ne45 : goal.returns-else-text-ne45
unfolding readable minus_read form ascii
returns-else-text-ne45 c = rw (← c.has_form.ensures, ← c.in_range.ensures, c.if-not-has_form.false, c.if-not-in_range.false, eq-eqb _ 45 c.if-text-ne45.false, c.size_read.ensures)
