-- The answers of the two calls, case by case, and what writing leaves.
use mathlib.Core.Bool.{Bool, true, false}
use mathlib.Core.List.{List, []}
use mathlib.Core.Path.{◌≡◌, refl, ap, ◌∙◌}
use Prim.Native.Nat.{ℕ, ◌≤◌}
use native.Mathlib.Omega.{arith}
use lib.IntN.{ℤ}
use lib.Ieee.{Float}
use lib.ListN.{length, take}
use lib.Seq.{take_all}
use borrow.Author.Tests.{eq-eqb, ne_eqb}
use Rattle.lists.specs.Functions.{padded}
use Rattle.foundation.specs.Answer.{refused, granted, refuse_if, and_then, result_store}
use Rattle.foundation.specs.Numbers.{float_of}
use Rattle.foundation.specs.Offset.{largest_offset, negative, signed, text_with, text_of}
use Rattle.foundation.specs.OffsetReading.{size_read, minus_read, readable, read_as}
use Rattle.foundation.specs.OffsetRounding.{rounded_to}
use Rattle.foundation.specs.OffsetCall.{read_offset, write_offset, write_leaves}
use Rattle.foundation.proofs.OffsetTexts.{size_of_signed, form-sized, readable-form, text-length}
use Rattle.numbers.specs.Numbered.{cut_or_padded}
use Rattle.numbers.proofs.CutOrPadded.{cut-or-padded-whole, cut-or-padded_none}

-- ---- reading

pub unread : (t : List ℕ) → readable t ≡ false → refused 28 0 ≡ read_offset t
unfolding read_offset read_as and_then
unread t h = rw h

pub sized : (t : List ℕ) → readable t ≡ true → length t ≡ 14
sized t h = form-sized t (readable-form t h)

pub read-granted : (t : List ℕ) (w : ℤ) (x : Float) → readable t ≡ true → w ≡ signed (minus_read t) (size_read t) → x ≡ float_of w → granted (w, x) ≡ read_offset t
unfolding read_offset read_as and_then
read-granted t w x h e f = rw (h, f, e)

-- ---- writing

module _ (room : ℕ) (x : Float) (out : List ℕ) where
  pub other_length : (room ≡ 14 → ⊥) → out ≡ cut_or_padded room [] → (refused 6 0 ≡ write_offset room x) × (out ≡ write_leaves room x)
  unfolding write_offset write_leaves refuse_if result_store
  other_length h e = rw (ne_eqb room 14 h) (refl, e ∙ cut-or-padded_none room)

  module _ (fits : room ≡ 14) where
    pub beyond : refused 29 0 ≡ rounded_to x → out ≡ cut_or_padded room [] → (refused 29 0 ≡ write_offset room x) × (out ≡ write_leaves room x)
    unfolding write_offset write_leaves refuse_if result_store
    beyond h e = rw (eq-eqb room 14 fits, ← h) (refl, e ∙ cut-or-padded_none room)

    pub written : (minus : Bool) (n : ℕ) (w : ℤ) (text : List ℕ) → granted (signed minus n) ≡ rounded_to x → (negative (signed minus n) ≡ minus) × (n ≤ largest_offset)
        → w ≡ signed minus n → text ≡ text_with minus n → out ≡ cut_or_padded room (take 14 text) → (granted w ≡ write_offset room x) × (out ≡ write_leaves room x)
    unfolding write_offset write_leaves refuse_if result_store text_of
    written minus n w text rounds (sign, small) e is o =
        let own : text ≡ text_of (signed minus n) = rw (sign, size_of_signed minus n) is in
        let long : length text ≡ 14 = ap length own ∙ text-length (signed minus n) in
        let all : take 14 text ≡ text = take_all 14 text (omega arith) in
        let left : out ≡ padded 0 room text = o ∙ ap (cut_or_padded room) all ∙ cut-or-padded-whole room text (omega arith) in
        rw (eq-eqb room 14 fits, ← rounds) (ap granted e, left ∙ ap (padded 0 room) own)
